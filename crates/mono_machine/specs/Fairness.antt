-- The tasks that have the turns of a run.
use Rattle.std.specs.Prelude.{ℕ, List, [], ◌∷◌, Option, Some, None}
use Rattle.mono_machine.specs.declared.events.Event.{Event}
use Rattle.mono_machine.specs.declared.events.Event.TheVariants as event
use Rattle.mono_machine.specs.declared.events.Report.{Report}
use Rattle.mono_machine.specs.declared.events.Report.TheVariants as report

-- The task whose turn is reported, or none if there was no turn.
abbrev pub turn_of : Report → Option ℕ
turn_of (report.Turn t replies ended) = Some t
turn_of (report.Reply r) = None
turn_of (report.Fired fired) = None
turn_of report.Listed = None
turn_of report.Unlisted = None
turn_of (report.Drained tasks) = None

-- The tasks of the turns of a run, in order: for each turn event its task, or none if it was refused.
abbrev pub turns_of : List Event → List Report → List (Option ℕ)
turns_of [] answers = []
turns_of (e ∷ events) [] = []
turns_of (event.Turn steps end ∷ events) (answer ∷ answers) = turn_of answer ∷ turns_of events answers
turns_of (event.Act a ∷ events) (answer ∷ answers) = turns_of events answers
turns_of (event.Clock n ∷ events) (answer ∷ answers) = turns_of events answers
turns_of (event.Remote t ∷ events) (answer ∷ answers) = turns_of events answers
turns_of (event.Drain ∷ events) (answer ∷ answers) = turns_of events answers
