use Rattle.std.proofs.Common.{refl, ap, sym, ◌∙◌}
use Rattle.mono_model.specs.Joins.{drop_answer, join_dropped}
use Rattle.mono_machine.specs.JoinCalls.{drop_reply}
use Rattle.mono_rt.specs.Numbering.{drop_numbered}
use Rattle.mono_rt.proofs.NumberLemmas.{numbered-dropped, drop_answer-numbered}
use Rattle.mono_rt.proofs.OutputLemmas.{adds_dropped}
use Rattle.mono_rt.proofs.CallLemmas.{by_tasks}
use Rattle.mono_rt.proofs.parts.state.Parts.drop_join.Goals as goal

pub returns-clause-leads : goal.returns-clause-leads
returns-clause-leads g c = λ hosting.
    let number = g.O.Outcome.output_number in
    let old = c.args.self.now in
    let t = c.args.task in
    by_tasks number hosting old _ _ _ _ _ (λ x. join_dropped x t) c.note.ensures (λ m. refl)
    (λ m st. c.drop_reply_of-reply.ensures ∙ ap (λ a. drop_reply (drop_numbered number a)) c.drop_join-answer.ensures.answer ∙ ap drop_reply (sym (drop_answer-numbered number old.tasks.tasks t) ∙ ap (λ x. drop_answer x t) st.tasks))
    c.drop_join-answer.ensures.after (numbered-dropped number old.tasks.tasks t) (adds_dropped old.tasks.tasks t).outputs
