use Rattle.std.proofs.Common.{sym, subst}
use Rattle.mono_groups.specs.JoinSets.{Enters, key_of}
use Rattle.mono_groups.proofs.join_set_acts.EnterCallAct.act.Goals as goal

pub returns-clause-leads : goal.returns-clause-leads
returns-clause-leads g c = g.met.W.Holds.leads_with _ _ (rw c.part_mut.ensures.value at c.enter.ensures.leads)

pub returns-clause-keeps : goal.returns-clause-keeps
returns-clause-keeps g c me = g.met.W.Holds.keeps_with me _ _ (rw c.part_mut.ensures.value at c.enter.ensures.keeps me)

pub returns-clause-acted : goal.returns-clause-acted
returns-clause-acted g c =
    subst (λ b. Enters (g.W.Holds.part c.args.shared.now) (key_of c.enter.result) b) (sym (g.met.W.Holds.part_with c.args.shared.now c.enter.new.self))
    (subst (λ a. Enters a (key_of c.enter.result) c.enter.new.self) c.part_mut.ensures.value c.enter.ensures.answer)
