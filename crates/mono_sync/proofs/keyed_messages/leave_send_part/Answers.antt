use Rattle.std.proofs.Common.{sym, subst}
use Rattle.mono_sync.specs.KeyedMessages.{GivesUpSendAt}
use Rattle.mono_sync.proofs.keyed_messages.leave_send_part.Goals as goal

pub returns-clause-leads : goal.returns-clause-leads
returns-clause-leads g c = g.met.W.Holds.leads_with _ _ (rw c.part_mut.ensures.value at c.leave_send_table.ensures.leads)

pub returns-clause-keeps : goal.returns-clause-keeps
returns-clause-keeps g c = g.met.W.Holds.keeps_with c.args.me _ _ (rw c.part_mut.ensures.value at c.leave_send_table.ensures.keeps)

pub returns-clause-answer : goal.returns-clause-answer
returns-clause-answer g c =
    subst (λ b. GivesUpSendAt c.args.key (g.W.Holds.part c.args.whole.now) c.args.ticket c.args.me b) (sym (g.met.W.Holds.part_with c.args.whole.now c.leave_send_table.new.channels))
    (subst (λ a. GivesUpSendAt c.args.key a c.args.ticket c.args.me c.leave_send_table.new.channels) c.part_mut.ensures.value c.leave_send_table.ensures.answer)
