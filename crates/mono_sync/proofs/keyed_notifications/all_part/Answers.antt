use Rattle.std.proofs.Common.{sym, subst}
use Rattle.mono_sync.specs.KeyedNotices.{NotifiesAllAt}
use Rattle.mono_sync.proofs.keyed_notifications.all_part.Goals as goal

pub returns-clause-leads : goal.returns-clause-leads
returns-clause-leads g c = g.met.W.Holds.leads_with _ _ (rw c.part_mut.ensures.value at c.all_table.ensures.leads)

pub returns-clause-keeps : goal.returns-clause-keeps
returns-clause-keeps g c me = g.met.W.Holds.keeps_with me _ _ (rw c.part_mut.ensures.value at c.all_table.ensures.keeps me)

pub returns-clause-answer : goal.returns-clause-answer
returns-clause-answer g c =
    subst (λ b. NotifiesAllAt c.args.key (g.W.Holds.part c.args.whole.now) b) (sym (g.met.W.Holds.part_with c.args.whole.now c.all_table.new.notices))
    (subst (λ a. NotifiesAllAt c.args.key a c.all_table.new.notices) c.part_mut.ensures.value c.all_table.ensures.answer)
