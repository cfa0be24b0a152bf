use Rattle.std.proofs.Common.{sym, subst}
use Rattle.mono_sync.specs.KeyedMessages.{TriesToReceiveAt}
use Rattle.mono_sync.proofs.keyed_messages.try_recv_at.Goals as goal

pub returns-clause-answer : goal.returns-clause-answer
returns-clause-answer g c =
    subst (λ w. TriesToReceiveAt c.args.key (g.W.Holds.part (g.C.SharedContext.shared c.args.cx.now)) c.try_recv_part.result (g.W.Holds.part w)) (sym (g.met.C.SharedContext.shared_with c.args.cx.now c.try_recv_part.new.whole))
    (subst (λ w. TriesToReceiveAt c.args.key (g.W.Holds.part w) c.try_recv_part.result (g.W.Holds.part c.try_recv_part.new.whole)) c.shared_mut.ensures.value c.try_recv_part.ensures.answer)

pub returns-clause-reached : goal.returns-clause-reached
returns-clause-reached g c =
    g.met.C.SharedContext.reaches_with _ _ (rw c.shared_mut.ensures.value at c.try_recv_part.ensures.leads) (rw c.shared_mut.ensures.value at c.try_recv_part.ensures.keeps (g.C.Context.number c.args.cx.now))
