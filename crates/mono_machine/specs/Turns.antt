-- One turn of the task at the front of the queue.
use Rattle.std.specs.Prelude.{ℕ, List, [], ◌∷◌}
use Rattle.mono_model.specs.Table.{value_at}
use Rattle.mono_model.specs.Tasks.{begun, paused_value, pause_answer, completed_value, complete_answer}
use Rattle.mono_machine.specs.Machine.{Machine, with_tasks}
use Rattle.mono_machine.specs.Acts.{step_outcome}
use Rattle.mono_model.specs.declared.Ended.{Ended}
use Rattle.mono_machine.specs.declared.events.TurnStep.{TurnStep}
use Rattle.mono_machine.specs.declared.events.End.{End}
use Rattle.mono_machine.specs.declared.events.End.TheVariants as end
use Rattle.mono_machine.specs.declared.events.Reply.{Reply}
use Rattle.mono_machine.specs.declared.events.Reply.TheVariants as reply
use Rattle.mono_machine.specs.declared.events.Refusal.TheVariants as refusal
use Rattle.mono_machine.specs.declared.events.Report.{Report}
use Rattle.mono_machine.specs.declared.events.Report.TheVariants as report

-- The replies of the steps. Each step is answered, refused or not, and the next one starts at the machine that it left.
abbrev pub replies_of : ℕ → List TurnStep → Machine → List Reply
replies_of me [] m = []
replies_of me (step ∷ steps) m = (step_outcome me step m).reply ∷ replies_of me steps (step_outcome me step m).machine

abbrev pub after_steps : ℕ → List TurnStep → Machine → Machine
after_steps me [] m = m
after_steps me (step ∷ steps) m = after_steps me steps (step_outcome me step m).machine

-- The answer of the end of the turn, and the machine after it.
abbrev pub end_answer : End → ℕ → Machine → Ended
end_answer end.Pending me m = pause_answer (value_at m.tasks.table me)
end_answer (end.Ready output) me m = complete_answer (value_at m.tasks.table me)

abbrev pub after_end : End → ℕ → Machine → Machine
after_end end.Pending me m = with_tasks m (paused_value (value_at m.tasks.table me) m.tasks me)
after_end (end.Ready output) me m = with_tasks m (completed_value (value_at m.tasks.table me) m.tasks me output)

-- The machine once the front runs.
abbrev pub after_begin : ℕ → List ℕ → Machine → Machine
after_begin front rest m = with_tasks m (begun m.tasks front rest)

-- The report of a turn. If the queue is empty, the turn is refused and no step is done.
abbrev pub turn_report_for : List ℕ → List TurnStep → End → Machine → Report
turn_report_for [] steps e m = report.Reply (reply.Refused refusal.Idle)
turn_report_for (front ∷ rest) steps e m =
    report.Turn front (replies_of front steps (after_begin front rest m)) (end_answer e front (after_steps front steps (after_begin front rest m)))

abbrev pub after_turn_for : List ℕ → List TurnStep → End → Machine → Machine
after_turn_for [] steps e m = m
after_turn_for (front ∷ rest) steps e m = after_end e front (after_steps front steps (after_begin front rest m))

abbrev pub turn_report : List TurnStep → End → Machine → Report
turn_report steps e m = turn_report_for m.tasks.queue steps e m

abbrev pub after_turn : List TurnStep → End → Machine → Machine
after_turn steps e m = after_turn_for m.tasks.queue steps e m
