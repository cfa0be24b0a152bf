use Rattle.std.proofs.Common.{ap, ◌∙◌}
use Rattle.mono_model.specs.Table.{value_at}
use Rattle.mono_model.specs.Tasks.{completed_value, paused_value}
use Rattle.mono_machine.proofs.FinishedSetLemmas.{alike_paused}
use Rattle.mono_replay.proofs.MatchLemmas.{other_tasks, completed_and_forgotten, ended-ready, ended-pending}
use Rattle.mono_replay.proofs.parts.Parts.end.Goals as goal

pub returns-in-Ready-clause-matches : goal.returns-in-Ready-clause-matches
returns-in-Ready-clause-matches c = λ m st valid.
    let old = c.args.self.now in
    let me = c.args.me in
    let output = c.in-Ready.output in
    rw c.in-Ready.is (completed_and_forgotten old m c.end_turn-in-Ready.new.self c.retire.new.self me output st
    (ap (λ x. x.tasks) c.end_turn-in-Ready.ensures.after ∙ ended-ready old.tasks me output c.requires ∙ ap (λ x. completed_value (value_at x.table me) x me output) st.tasks) c.retire.ensures)

pub returns-in-Pending-clause-matches : goal.returns-in-Pending-clause-matches
returns-in-Pending-clause-matches c = λ m st valid.
    let old = c.args.self.now in
    let me = c.args.me in
    rw c.in-Pending.is (other_tasks old m c.end_turn.new.self _ st
    (ap (λ x. x.tasks) c.end_turn.ensures.after ∙ ended-pending old.tasks me c.requires ∙ ap (λ x. paused_value (value_at x.table me) x me) st.tasks) (alike_paused me m.tasks valid.tasks))
