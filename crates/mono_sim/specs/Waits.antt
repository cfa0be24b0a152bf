-- What the tasks of a world wait for.
use Rattle.std.specs.Prelude.{◌≡◌, ℕ, min, Bool, true, false, List, [], ◌∷◌, ◌++◌, Option, Some, None}
use Rattle.std.specs.List.{list_any}
use Rattle.mono_task.specs.declared.phases.TaskPhase.{TaskPhase}
use Rattle.mono_task.specs.declared.phases.TaskPhase.TheVariants as phase
use Rattle.mono_rt.specs.declared.task_waits.WaitsFor.{WaitsFor}
use Rattle.mono_rt.specs.declared.task_waits.WaitsFor.TheVariants as source
use Rattle.mono_rt.specs.declared.task_waits.TaskWait.{TaskWait}
use Rattle.mono_rt.specs.Views.{ListsWaits}
use Rattle.mono_sim.specs.declared.nodes.Node.{Node}
use Rattle.mono_sim.specs.Nodes.{has_finished}

abbrev pub tick_by : WaitsFor → Option ℕ
tick_by (source.Sleep s tick) = Some tick
tick_by (source.Task t) = None
tick_by (source.Job j) = None
tick_by source.Nothing = None

-- The tick of the sleep for which a task waits.
abbrev pub tick_of : TaskWait → Option ℕ
tick_of wait = tick_by wait.waits_for

abbrev pub earlier : Option ℕ → Option ℕ → Option ℕ
earlier None other = other
earlier (Some one) None = Some one
earlier (Some one) (Some two) = Some (min one two)

-- The least tick of a sleep for which one of these tasks waits.
abbrev pub least_tick : List TaskWait → Option ℕ
least_tick [] = None
least_tick (wait ∷ waits) = earlier (tick_of wait) (least_tick waits)

abbrev pub is_queued_by : TaskPhase → Bool
is_queued_by phase.Finished = false
is_queued_by phase.Queued = true
is_queued_by phase.Running = false
is_queued_by phase.Idle = false

abbrev pub is_queued : TaskWait → Bool
is_queued wait = is_queued_by wait.phase

-- No task is queued, and none waits for a sleep.
pub record IsBlocked (waits : List TaskWait) : Type 0 where
  pub queued : list_any is_queued waits ≡ false
  pub sleeps : least_tick waits ≡ None

module _ {F O D P W U J A V : Type 0} (number : O → ℕ) where
  -- The rows of a runtime's tasks, or none if its main task has finished.
  abbrev pub ListsUnless : Bool → List TaskWait → Node F O D P W U J A V → Type 0
  ListsUnless true own node = own ≡ []
  ListsUnless false own node = ListsWaits number own node.runtime

  -- The rows of a runtime were added.
  pub record AddsWaits (node : Node F O D P W U J A V) (old new : List TaskWait) : Type 0 where
    pub own : List TaskWait
    pub added : new ≡ old ++ own
    pub lists : ListsUnless (has_finished node) own node

  -- The rows of the tasks of all unfinished runtimes, one runtime after the other.
  abbrev pub ListsAll : List (Node F O D P W U J A V) → List TaskWait → Type 0
  ListsAll [] waits = waits ≡ []
  ListsAll (node ∷ nodes) waits = (own : List TaskWait) × ((rest : List TaskWait) × ((waits ≡ own ++ rest) × (ListsUnless (has_finished node) own node × ListsAll nodes rest)))
