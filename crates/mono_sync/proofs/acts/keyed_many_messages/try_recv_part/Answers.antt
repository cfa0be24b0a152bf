use Rattle.std.proofs.Common.{sym, subst}
use Rattle.mono_sync.specs.KeyedMany.{AnswersManyAt}
use Rattle.mono_sync.proofs.acts.keyed_many_messages.try_recv_part.Goals as goal

pub returns-clause-leads : goal.returns-clause-leads
returns-clause-leads g c = g.met.W.Holds.leads_with _ _ (rw c.part_mut.ensures.value at c.try_recv_table.ensures.leads)

pub returns-clause-keeps : goal.returns-clause-keeps
returns-clause-keeps g c me = g.met.W.Holds.keeps_with me _ _ (rw c.part_mut.ensures.value at c.try_recv_table.ensures.keeps me)

pub returns-clause-answer : goal.returns-clause-answer
returns-clause-answer g c =
    subst (λ b. AnswersManyAt c.args.key (g.W.Holds.part c.args.whole.now) c.args.limit c.try_recv_table.result b) (sym (g.met.W.Holds.part_with c.args.whole.now c.try_recv_table.new.channels))
    (subst (λ a. AnswersManyAt c.args.key a c.args.limit c.try_recv_table.result c.try_recv_table.new.channels) c.part_mut.ensures.value c.try_recv_table.ensures.answer)
