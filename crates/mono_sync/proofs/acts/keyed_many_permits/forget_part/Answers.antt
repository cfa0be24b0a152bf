use Rattle.std.proofs.Common.{sym, subst}
use Rattle.mono_sync.specs.KeyedMany.{ForgetsPermitsAt}
use Rattle.mono_sync.proofs.acts.keyed_many_permits.forget_part.Goals as goal

pub returns-clause-leads : goal.returns-clause-leads
returns-clause-leads g c = g.met.W.Holds.leads_with _ _ (rw c.part_mut.ensures.value at c.forget_table.ensures.leads)

pub returns-clause-keeps : goal.returns-clause-keeps
returns-clause-keeps g c me = g.met.W.Holds.keeps_with me _ _ (rw c.part_mut.ensures.value at c.forget_table.ensures.keeps me)

pub returns-clause-answer : goal.returns-clause-answer
returns-clause-answer g c =
    subst (λ b. ForgetsPermitsAt c.args.key (g.W.Holds.part c.args.whole.now) c.args.count c.forget_table.result b) (sym (g.met.W.Holds.part_with c.args.whole.now c.forget_table.new.semaphores))
    (subst (λ a. ForgetsPermitsAt c.args.key a c.args.count c.forget_table.result c.forget_table.new.semaphores) c.part_mut.ensures.value c.forget_table.ensures.answer)
