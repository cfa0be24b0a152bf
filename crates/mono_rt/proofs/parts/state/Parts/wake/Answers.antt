use Rattle.std.proofs.Common.{refl, ap, sym, ◌∙◌}
use Rattle.mono_model.specs.Tasks.{woken}
use Rattle.mono_model.specs.Joins.{wake_answer}
use Rattle.mono_machine.specs.JoinCalls.{wake_reply}
use Rattle.mono_rt.proofs.NumberLemmas.{numbered-woken, wake_answer-numbered}
use Rattle.mono_rt.proofs.OutputLemmas.{adds_woken}
use Rattle.mono_rt.proofs.CallLemmas.{by_tasks}
use Rattle.mono_rt.proofs.parts.state.Parts.wake.Goals as goal

pub returns-clause-leads : goal.returns-clause-leads
returns-clause-leads g c = λ hosting.
    let number = g.O.Outcome.output_number in
    let old = c.args.self.now in
    let t = c.args.task in
    by_tasks number hosting old _ _ _ _ _ (λ x. woken x t) c.note.ensures (λ m. refl)
    (λ m st. c.wake_reply.ensures ∙ ap wake_reply (c.wake-answer.ensures.answer ∙ sym (wake_answer-numbered number old.tasks.tasks t) ∙ ap (λ x. wake_answer x t) st.tasks))
    c.wake-answer.ensures.after (numbered-woken number old.tasks.tasks t) (adds_woken old.tasks.tasks t).outputs
