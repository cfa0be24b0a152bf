use Rattle.std.proofs.Common.{sym, subst}
use Rattle.mono_groups.specs.JoinSets.{Aborts}
use Rattle.mono_groups.proofs.join_set_calls.abort_all.Goals as goal

pub returns-clause-answer : goal.returns-clause-answer
returns-clause-answer g c =
    subst (λ w. Aborts (g.W.Holds.part (g.C.SharedContext.shared c.args.cx.now)) (g.W.Holds.part w)) (sym (g.met.C.SharedContext.shared_with c.args.cx.now c.abort_part.new.whole))
    (subst (λ w. Aborts (g.W.Holds.part w) (g.W.Holds.part c.abort_part.new.whole)) c.shared_mut.ensures.value c.abort_part.ensures.answer)

pub returns-clause-reached : goal.returns-clause-reached
returns-clause-reached g c =
    g.met.C.SharedContext.reaches_with _ _ (rw c.shared_mut.ensures.value at c.abort_part.ensures.leads) (rw c.shared_mut.ensures.value at c.abort_part.ensures.keeps (g.C.Context.number c.args.cx.now))
