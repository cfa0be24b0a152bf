-- What the shared value owes is paid: the runtime takes the owed tasks one by one and wakes each, before the turn ends.
use Rattle.std.specs.Prelude.{◌≡◌, ◌⊎◌, ℕ, true, List, [], ◌∷◌, ◌++◌}
use Rattle.mono_model.specs.Table.{value_at, next_number}
use Rattle.mono_model.specs.Tasks.{all_woken}
use Rattle.mono_task.specs.Members.{SharedOf}
use Rattle.mono_machine.specs.Watches.{is_stirred_in}
use Rattle.mono_machine.specs.declared.events.Act.TheVariants as act
use Rattle.mono_machine.specs.declared.events.TurnStep.{TurnStep}
use Rattle.mono_machine.specs.declared.events.TurnStep.TheVariants as step
use Rattle.mono_rt.specs.Leads.{Leads}
use Rattle.mono_rt.specs.Refinement.{hosting_of}
use Rattle.mono_rt.specs.declared.contexts.Cx.{Cx}

-- One wake of each of these tasks, in order.
abbrev pub wakes_of : List ℕ → List TurnStep
wakes_of [] = []
wakes_of (t ∷ ts) = step.Act (act.Wake t) ∷ wakes_of ts

module _ {F O P U W J A V : Type 0} where
  -- Whether the task is queued, noted, finished or removed, or was never given out.
  abbrev pub IsStirred : Cx F O P U W J A V → ℕ → Type 0
  IsStirred c t = is_stirred_in (value_at c.parts.tasks.tasks.table t) ≡ true

module _ {F O P U W J A V : Type 0} (number : O → ℕ) (sharing : SharedOf W) where
  -- The shared value handed out some tasks, and each was woken in this turn. The futures and the wakers are as before.
  pub record Paying (c d : Cx F O P U W J A V) : Type 0 where
    -- each wake is an act of the running task
    pub parts : Leads number hosting_of c.parts d.parts
    pub same_next : next_number d.parts.tasks.tasks.table ≡ next_number c.parts.tasks.tasks.table
    pub same_futures : d.futures ≡ c.futures
    pub same_wakers : d.wakers ≡ c.wakers
    pub same_waker : d.waker ≡ c.waker
    pub same_handed : d.has_handed_out ≡ c.has_handed_out
    pub led : sharing.leads c.shared d.shared
    -- the acts are one wake of each task that was owed and is not owed any more, in order
    pub wakes : parts.steps ++ wakes_of (sharing.owes d.shared) ≡ wakes_of (sharing.owes c.shared)
    -- if nothing was owed, nothing changed
    pub idle : sharing.owes c.shared ≡ [] → d ≡ c
    -- the tasks are those after the wakes of all that were owed, once those that are still owed are woken
    pub left : all_woken d.parts.tasks.tasks (sharing.owes d.shared) ≡ all_woken c.parts.tasks.tasks (sharing.owes c.shared)
    -- each task stays listed at each place where it was, or is stirred
    pub woken : (p : List ℕ) (t : ℕ) → sharing.lists c.shared p t ≡ true → (sharing.lists d.shared p t ≡ true) ⊎ IsStirred d t

  -- Each task that was owed a wake is woken, in order, and nothing is owed afterwards.
  pub record PaysOwed (c d : Cx F O P U W J A V) : Type 0 where
    pub paying : Paying c d
    pub nothing : sharing.owes d.shared ≡ []
    pub wakes : paying.parts.steps ≡ wakes_of (sharing.owes c.shared)
    pub tasks : d.parts.tasks.tasks ≡ all_woken c.parts.tasks.tasks (sharing.owes c.shared)
