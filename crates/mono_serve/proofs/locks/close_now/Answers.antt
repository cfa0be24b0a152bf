use Rattle.std.proofs.Common.{sym, subst}
use Rattle.mono_session.specs.Answers.{of_done}
use Rattle.mono_session.specs.Calls as call
use Rattle.mono_serve.specs.LeaseCalls.{Calls, Then}
use Rattle.mono_serve.proofs.locks.close_now.Goals as goal

pub returns-clause-answer : goal.returns-clause-answer
returns-clause-answer g c =
    subst (λ w. Then (Calls (g.W.Holds.part (g.C.SharedContext.shared c.args.cx.now)) (g.C.Context.nanos c.args.cx.now) (call.Close c.args.session) (of_done c.close_part.result)) (g.W.Holds.part w)) (sym (g.met.C.SharedContext.shared_with c.args.cx.now c.close_part.new.whole))
    (subst (λ i. Then (Calls (g.W.Holds.part (g.C.SharedContext.shared c.args.cx.now)) i (call.Close c.args.session) (of_done c.close_part.result)) (g.W.Holds.part c.close_part.new.whole)) c.now-now.ensures
    (rw c.shared_mut.ensures.value at c.close_part.ensures.answer))

pub returns-clause-reached : goal.returns-clause-reached
returns-clause-reached g c =
    g.met.C.SharedContext.reaches_with _ _ (rw c.shared_mut.ensures.value at c.close_part.ensures.leads) (rw c.shared_mut.ensures.value at (c.close_part.ensures.keeps (g.C.Context.number c.args.cx.now)))
