-- The reports for a list of tasks that other threads woke, and the list that the drain then reports.
use Rattle.std.specs.Prelude.{◌&&◌, ℕ, Bool, not, if◌then◌else◌, List, [], ◌∷◌, ◌++◌, map}
use Rattle.std.specs.List.{filter}
use Rattle.mono_model.specs.Table.{value_at, is_issued}
use Rattle.mono_model.specs.Tasks.{all_woken}
use Rattle.mono_machine.specs.Machine.{Machine, with_tasks}
use Rattle.mono_machine.specs.Steps.{has_finished}
use Rattle.mono_machine.specs.declared.events.Event.{Event}
use Rattle.mono_machine.specs.declared.events.Event.TheVariants as event
use Rattle.mono_machine.specs.declared.events.Reply.TheVariants as reply
use Rattle.mono_machine.specs.declared.events.Refusal.TheVariants as refusal
use Rattle.mono_machine.specs.declared.events.Report.{Report}
use Rattle.mono_machine.specs.declared.events.Report.TheVariants as report

-- Whether the task was given out and has not finished.
abbrev pub is_unfinished : Machine → ℕ → Bool
is_unfinished m t = is_issued m.tasks.table t && not (has_finished (value_at m.tasks.table t))

abbrev pub unfinished_of : Machine → List ℕ → List ℕ
unfinished_of m ts = filter (is_unfinished m) ts

-- The report of a wake from outside, for a task that is not in the inbox.
abbrev pub told_by : Bool → Bool → Report
told_by issued finished = if issued then (if finished then report.Unlisted else report.Listed) else report.Reply (reply.Refused refusal.NoTask)

abbrev pub told_of : Machine → ℕ → Report
told_of m t = told_by (is_issued m.tasks.table t) (has_finished (value_at m.tasks.table t))

-- A wake from outside for each task, and then the drain.
abbrev pub wakes_and_drain : List ℕ → List Event
wakes_and_drain ts = map event.Remote ts ++ event.Drain ∷ []

-- The reports of these wakes and of the drain, which lists the unfinished tasks in order.
abbrev pub told_and_drained : Machine → List ℕ → List Report
told_and_drained m ts = map (told_of m) ts ++ report.Drained (unfinished_of m ts) ∷ []

-- The machine after each of the tasks was woken, in order.
abbrev pub after_wakes : Machine → List ℕ → Machine
after_wakes m ts = with_tasks m (all_woken m.tasks (unfinished_of m ts))
