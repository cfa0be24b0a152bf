use Rattle.std.proofs.Common.{sym, subst}
use Rattle.mono_serve.specs.LeaseCalls.{ShownAt, Then}
use Rattle.mono_serve.proofs.keepers.advance.Goals as goal

pub returns-clause-shown : goal.returns-clause-shown
returns-clause-shown g c =
    subst (λ w. Then (ShownAt (g.W.Holds.part (g.C.SharedContext.shared c.args.cx.now)) (g.C.Context.nanos c.args.cx.now) c.advance_part.result) (g.W.Holds.part w)) (sym (g.met.C.SharedContext.shared_with c.args.cx.now c.advance_part.new.whole))
    (subst (λ i. Then (ShownAt (g.W.Holds.part (g.C.SharedContext.shared c.args.cx.now)) i c.advance_part.result) (g.W.Holds.part c.advance_part.new.whole)) c.now-now.ensures
    (rw c.shared_mut.ensures.value at c.advance_part.ensures.answer))

pub returns-clause-reached : goal.returns-clause-reached
returns-clause-reached g c =
    g.met.C.SharedContext.reaches_with _ _ (rw c.shared_mut.ensures.value at c.advance_part.ensures.leads) (rw c.shared_mut.ensures.value at (c.advance_part.ensures.keeps (g.C.Context.number c.args.cx.now)))
