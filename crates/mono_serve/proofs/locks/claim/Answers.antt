use Rattle.std.proofs.Common.{sym, subst}
use Rattle.mono_serve.specs.LeaseCalls.{Claims, Then}
use Rattle.mono_serve.proofs.locks.claim.Goals as goal

pub returns-clause-answer : goal.returns-clause-answer
returns-clause-answer g c =
    subst (λ w. Then (Claims (g.W.Holds.part (g.C.SharedContext.shared c.args.cx.now)) (g.C.Context.nanos c.args.cx.now) c.args.session c.args.key (g.C.Context.number c.args.cx.now) c.acquire_part.result) (g.W.Holds.part w)) (sym (g.met.C.SharedContext.shared_with c.args.cx.now c.acquire_part.new.whole))
    (subst (λ i. Then (Claims (g.W.Holds.part (g.C.SharedContext.shared c.args.cx.now)) i c.args.session c.args.key (g.C.Context.number c.args.cx.now) c.acquire_part.result) (g.W.Holds.part c.acquire_part.new.whole)) c.now-now.ensures
    (subst (λ n. Then (Claims (g.W.Holds.part (g.C.SharedContext.shared c.args.cx.now)) c.now-now.result.nanos c.args.session c.args.key n c.acquire_part.result) (g.W.Holds.part c.acquire_part.new.whole)) c.me-me.ensures
    (rw c.shared_mut.ensures.value at c.acquire_part.ensures.answer)))

pub returns-clause-reached : goal.returns-clause-reached
returns-clause-reached g c =
    g.met.C.SharedContext.reaches_with _ _ (rw c.shared_mut.ensures.value at c.acquire_part.ensures.leads) (rw c.shared_mut.ensures.value at (c.acquire_part.ensures.keeps (g.C.Context.number c.args.cx.now)))
