use Rattle.std.proofs.Common.{refl, ap, sym, ◌∙◌}
use Rattle.mono_model.specs.Joins.{join_answer, joined}
use Rattle.mono_machine.specs.JoinCalls.{join_reply}
use Rattle.mono_rt.specs.Numbering.{join_numbered}
use Rattle.mono_rt.proofs.NumberLemmas.{numbered-joined, join_answer-numbered}
use Rattle.mono_rt.proofs.OutputLemmas.{adds_joined}
use Rattle.mono_rt.proofs.CallLemmas.{by_tasks}
use Rattle.mono_rt.proofs.parts.state.Parts.poll_join.Goals as goal

pub returns-clause-leads : goal.returns-clause-leads
returns-clause-leads g c = λ hosting.
    let number = g.O.Outcome.output_number in
    let old = c.args.self.now in
    let t = c.args.task in
    by_tasks number hosting old _ _ _ _ _ (λ x. joined x t old.me) c.note.ensures (λ m. refl)
    (λ m st. c.join_reply_of-reply.ensures ∙ ap (λ a. join_reply (join_numbered number a)) c.poll_join-answer.ensures.answer ∙ ap join_reply (sym (join_answer-numbered number old.tasks.tasks t) ∙ ap (λ x. join_answer x t) st.tasks))
    c.poll_join-answer.ensures.after (numbered-joined number old.tasks.tasks t old.me) (adds_joined old.tasks.tasks t old.me).outputs
