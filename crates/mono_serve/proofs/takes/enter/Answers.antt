use Rattle.std.proofs.Common.{sym, subst}
use Rattle.mono_task.specs.Owed.{Keeps}
use Rattle.mono_serve.specs.BucketCalls.{Enters}
use Rattle.mono_serve.proofs.takes.enter.Goals as goal

pub returns-clause-answer : goal.returns-clause-answer
returns-clause-answer g c =
    subst (λ w. Enters (g.W.Holds.part (g.C.SharedContext.shared c.args.cx.now)) c.args.ticket c.args.bucket (g.C.Context.number c.args.cx.now) c.enter_part.result (g.W.Holds.part w)) (sym (g.met.C.SharedContext.shared_with c.args.cx.now c.enter_part.new.whole))
    (subst (λ n. Enters (g.W.Holds.part (g.C.SharedContext.shared c.args.cx.now)) c.args.ticket c.args.bucket n c.enter_part.result (g.W.Holds.part c.enter_part.new.whole)) c.me-me.ensures
    (rw c.shared_mut.ensures.value at c.enter_part.ensures.answer))

pub returns-clause-reached : goal.returns-clause-reached
returns-clause-reached g c =
    g.met.C.SharedContext.reaches_with _ _ (rw c.shared_mut.ensures.value at c.enter_part.ensures.leads)
    (subst (λ n. Keeps g.W.SharedState.lists n (g.C.SharedContext.shared c.args.cx.now) c.enter_part.new.whole) c.me-me.ensures (rw c.shared_mut.ensures.value at c.enter_part.ensures.keeps))
