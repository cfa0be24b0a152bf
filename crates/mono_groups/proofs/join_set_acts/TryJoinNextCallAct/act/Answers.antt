use Rattle.std.proofs.Common.{sym, subst}
use Rattle.mono_groups.specs.JoinSets.{TriesNext}
use Rattle.mono_groups.proofs.join_set_acts.TryJoinNextCallAct.act.Goals as goal

pub returns-clause-leads : goal.returns-clause-leads
returns-clause-leads g c = g.met.W.Holds.leads_with _ _ (rw c.part_mut.ensures.value at c.try_join_next.ensures.leads)

pub returns-clause-keeps : goal.returns-clause-keeps
returns-clause-keeps g c me = g.met.W.Holds.keeps_with me _ _ (rw c.part_mut.ensures.value at c.try_join_next.ensures.keeps me)

pub returns-clause-acted : goal.returns-clause-acted
returns-clause-acted g c =
    subst (λ b. TriesNext (g.W.Holds.part c.args.shared.now) c.try_join_next.result b) (sym (g.met.W.Holds.part_with c.args.shared.now c.try_join_next.new.self))
    (subst (λ a. TriesNext a c.try_join_next.result c.try_join_next.new.self) c.part_mut.ensures.value c.try_join_next.ensures.answer)
