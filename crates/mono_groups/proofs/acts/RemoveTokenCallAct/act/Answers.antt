use Rattle.std.proofs.Common.{sym, subst}
use Rattle.mono_groups.specs.Tokens.{Removes}
use Rattle.mono_groups.proofs.acts.RemoveTokenCallAct.act.Goals as goal

pub returns-clause-leads : goal.returns-clause-leads
returns-clause-leads g c = g.met.W.Holds.leads_with _ _ (rw c.part_mut.ensures.value at c.remove.ensures.leads)

pub returns-clause-keeps : goal.returns-clause-keeps
returns-clause-keeps g c me = g.met.W.Holds.keeps_with me _ _ (rw c.part_mut.ensures.value at c.remove.ensures.keeps me)

pub returns-clause-acted : goal.returns-clause-acted
returns-clause-acted g c =
    subst (λ b. Removes (g.W.Holds.part c.args.shared.now) c.args.self.key c.remove.result b) (sym (g.met.W.Holds.part_with c.args.shared.now c.remove.new.self))
    (subst (λ a. Removes a c.args.self.key c.remove.result c.remove.new.self) c.part_mut.ensures.value c.remove.ensures.answer)
