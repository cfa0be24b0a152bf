use Rattle.std.proofs.Common.{sym, subst}
use Rattle.mono_groups.specs.Tokens.{Makes}
use Rattle.mono_groups.proofs.acts.MakeTokenCallAct.act.Goals as goal

pub returns-clause-leads : goal.returns-clause-leads
returns-clause-leads g c = g.met.W.Holds.leads_with _ _ (rw c.part_mut.ensures.value at c.add.ensures.leads)

pub returns-clause-keeps : goal.returns-clause-keeps
returns-clause-keeps g c me = g.met.W.Holds.keeps_with me _ _ (rw c.part_mut.ensures.value at c.add.ensures.keeps me)

pub returns-clause-acted : goal.returns-clause-acted
returns-clause-acted g c =
    subst (λ b. Makes (g.W.Holds.part c.args.shared.now) c.args.self.parent c.add.result b) (sym (g.met.W.Holds.part_with c.args.shared.now c.add.new.self))
    (subst (λ a. Makes a c.args.self.parent c.add.result c.add.new.self) c.part_mut.ensures.value c.add.ensures.made)
