use Rattle.std.proofs.Common.{sym, subst}
use Rattle.mono_sync.specs.KeyedMessages.{TriesToSendAt}
use Rattle.mono_sync.proofs.keyed_messages.try_send_part.Goals as goal

pub returns-clause-leads : goal.returns-clause-leads
returns-clause-leads g c = g.met.W.Holds.leads_with _ _ (rw c.part_mut.ensures.value at c.try_send_table.ensures.leads)

pub returns-clause-keeps : goal.returns-clause-keeps
returns-clause-keeps g c me = g.met.W.Holds.keeps_with me _ _ (rw c.part_mut.ensures.value at c.try_send_table.ensures.keeps me)

pub returns-clause-answer : goal.returns-clause-answer
returns-clause-answer g c =
    subst (λ b. TriesToSendAt c.args.key (g.W.Holds.part c.args.whole.now) c.args.message c.try_send_table.result b) (sym (g.met.W.Holds.part_with c.args.whole.now c.try_send_table.new.channels))
    (subst (λ a. TriesToSendAt c.args.key a c.args.message c.try_send_table.result c.try_send_table.new.channels) c.part_mut.ensures.value c.try_send_table.ensures.answer)
