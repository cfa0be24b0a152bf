use Rattle.std.proofs.Common.{sym, subst}
use Rattle.std.specs.Fn.{FnOnceReturnsAtMut}
use Rattle.mono_sync.specs.KeyedMany.{ModifiesIfAt}
use Rattle.mono_sync.proofs.acts.keyed_modifying.modify_if_part.Goals as goal

pub returns-clause-leads : goal.returns-clause-leads
returns-clause-leads g c = g.met.W.Holds.leads_with _ _ (rw c.part_mut.ensures.value at c.modify_if_table.ensures.leads)

pub returns-clause-keeps : goal.returns-clause-keeps
returns-clause-keeps g c me = g.met.W.Holds.keeps_with me _ _ (rw c.part_mut.ensures.value at c.modify_if_table.ensures.keeps me)

pub returns-clause-answer : goal.returns-clause-answer
returns-clause-answer g c =
    subst (λ b. ModifiesIfAt (FnOnceReturnsAtMut g.F.FnOnce c.args.func) c.args.func c.args.key (g.W.Holds.part c.args.whole.now) c.modify_if_table.result b) (sym (g.met.W.Holds.part_with c.args.whole.now c.modify_if_table.new.values))
    (subst (λ a. ModifiesIfAt (FnOnceReturnsAtMut g.F.FnOnce c.args.func) c.args.func c.args.key a c.modify_if_table.result c.modify_if_table.new.values) c.part_mut.ensures.value c.modify_if_table.ensures.answer)
