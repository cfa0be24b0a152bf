-- The tasks that ended. The inbox is told of some of them, in lists, and of the others later.
use Rattle.std.specs.Prelude.{◌≡◌, ℕ, List, [], ◌∷◌, ◌++◌}
use Rattle.mono_machine.specs.Machine.{Machine}
use Rattle.mono_machine.specs.declared.events.End.{End}
use Rattle.mono_machine.specs.declared.events.End.TheVariants as end
use Rattle.mono_machine.specs.declared.events.Event.{Event}
use Rattle.mono_machine.specs.declared.events.Event.TheVariants as event
use Rattle.mono_machine.specs.declared.events.Report.{Report}
use Rattle.mono_machine.specs.declared.events.Report.TheVariants as report
use Rattle.mono_rt.specs.declared.parts.journals.Entry.{Entry}
use Rattle.mono_rt.specs.declared.parts.journals.Entry.TheVariants.{Ran, Now, Park}

-- the tasks of these lists, in order
abbrev pub all_in : List (List ℕ) → List ℕ
all_in [] = []
all_in (tasks ∷ lists) = tasks ++ all_in lists

-- All tasks that ended, in order: those that were made unknown, and those that are made so next.
abbrev pub closed_in : List (List ℕ) → List ℕ → List ℕ
closed_in retired ended = all_in retired ++ ended

-- the task of a turn with this answer, if the turn ended ready
abbrev pub ended_at : End → ℕ → List ℕ
ended_at end.Pending t = []
ended_at (end.Ready output) t = t ∷ []

abbrev pub ended_of : End → Report → List ℕ
ended_of e (report.Turn t replies ended) = ended_at e t
ended_of e (report.Reply r) = []
ended_of e (report.Fired fired) = []
ended_of e report.Listed = []
ended_of e report.Unlisted = []
ended_of e (report.Drained tasks) = []

abbrev pub ended_by : Event → Report → List ℕ
ended_by (event.Act a) r = []
ended_by (event.Turn steps e) r = ended_of e r
ended_by (event.Clock n) r = []
ended_by (event.Remote t) r = []
ended_by event.Drain r = []

-- the tasks whose turns ended ready among the entries, in order
abbrev pub ended_in : List Entry → List ℕ
ended_in [] = []
ended_in (Ran e r ∷ part) = ended_by e r ++ ended_in part
ended_in (Now n ∷ part) = ended_in part
ended_in (Park wait ∷ part) = ended_in part

-- The list grew by the tasks whose turns ended ready among the entries, in order, and by no others.
pub record ListsEnded (before now : List ℕ) (old : Machine) (part : List Entry) (new : Machine) (rest : List Entry) : Type 0 where
  pub ended : List ℕ
  pub are : ended_in part ≡ ended ++ ended_in rest
  pub listed : now ≡ before ++ ended
