use Rattle.std.proofs.Common.{sym, subst}
use Rattle.mono_sync.specs.KeyedChanges.{ClosesAt}
use Rattle.mono_sync.proofs.keyed_changes.close_at.Goals as goal

pub returns-clause-answer : goal.returns-clause-answer
returns-clause-answer g c =
    subst (λ w. ClosesAt c.args.key (g.W.Holds.part (g.C.SharedContext.shared c.args.cx.now)) (g.W.Holds.part w)) (sym (g.met.C.SharedContext.shared_with c.args.cx.now c.close_part.new.whole))
    (subst (λ w. ClosesAt c.args.key (g.W.Holds.part w) (g.W.Holds.part c.close_part.new.whole)) c.shared_mut.ensures.value c.close_part.ensures.answer)

pub returns-clause-reached : goal.returns-clause-reached
returns-clause-reached g c =
    g.met.C.SharedContext.reaches_with _ _ (rw c.shared_mut.ensures.value at c.close_part.ensures.leads) (rw c.shared_mut.ensures.value at c.close_part.ensures.keeps (g.C.Context.number c.args.cx.now))
