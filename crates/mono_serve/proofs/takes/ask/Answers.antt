use Rattle.std.proofs.Common.{sym, subst}
use Rattle.mono_task.specs.Owed.{Keeps}
use Rattle.mono_serve.specs.BucketCalls.{Asks}
use Rattle.mono_serve.proofs.takes.ask.Goals as goal

pub returns-clause-answer : goal.returns-clause-answer
returns-clause-answer g c =
    subst (λ w. Asks (g.W.Holds.part (g.C.SharedContext.shared c.args.cx.now)) (g.C.Context.nanos c.args.cx.now) c.args.ticket c.args.bucket c.args.n (g.C.Context.number c.args.cx.now) c.ask_part.result (g.W.Holds.part w)) (sym (g.met.C.SharedContext.shared_with c.args.cx.now c.ask_part.new.whole))
    (subst (λ i. Asks (g.W.Holds.part (g.C.SharedContext.shared c.args.cx.now)) i c.args.ticket c.args.bucket c.args.n (g.C.Context.number c.args.cx.now) c.ask_part.result (g.W.Holds.part c.ask_part.new.whole)) c.now-now.ensures
    (subst (λ m. Asks (g.W.Holds.part (g.C.SharedContext.shared c.args.cx.now)) c.now-now.result.nanos c.args.ticket c.args.bucket c.args.n m c.ask_part.result (g.W.Holds.part c.ask_part.new.whole)) c.me-me.ensures
    (rw c.shared_mut.ensures.value at c.ask_part.ensures.answer)))

pub returns-clause-reached : goal.returns-clause-reached
returns-clause-reached g c =
    g.met.C.SharedContext.reaches_with _ _ (rw c.shared_mut.ensures.value at c.ask_part.ensures.leads)
    (subst (λ n. Keeps g.W.SharedState.lists n (g.C.SharedContext.shared c.args.cx.now) c.ask_part.new.whole) c.me-me.ensures (rw c.shared_mut.ensures.value at c.ask_part.ensures.keeps))
