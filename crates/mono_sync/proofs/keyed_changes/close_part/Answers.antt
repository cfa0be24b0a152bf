use Rattle.std.proofs.Common.{sym, subst}
use Rattle.mono_sync.specs.KeyedChanges.{ClosesAt}
use Rattle.mono_sync.proofs.keyed_changes.close_part.Goals as goal

pub returns-clause-leads : goal.returns-clause-leads
returns-clause-leads g c = g.met.W.Holds.leads_with _ _ (rw c.part_mut.ensures.value at c.close_table.ensures.leads)

pub returns-clause-keeps : goal.returns-clause-keeps
returns-clause-keeps g c me = g.met.W.Holds.keeps_with me _ _ (rw c.part_mut.ensures.value at c.close_table.ensures.keeps me)

pub returns-clause-answer : goal.returns-clause-answer
returns-clause-answer g c =
    subst (λ b. ClosesAt c.args.key (g.W.Holds.part c.args.whole.now) b) (sym (g.met.W.Holds.part_with c.args.whole.now c.close_table.new.values))
    (subst (λ a. ClosesAt c.args.key a c.close_table.new.values) c.part_mut.ensures.value c.close_table.ensures.answer)
