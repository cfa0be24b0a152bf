use Rattle.std.proofs.Common.{sym, subst}
use Rattle.mono_sync.specs.KeyedChanges.{SendsAt}
use Rattle.mono_sync.proofs.keyed_changes.send_at.Goals as goal

pub returns-clause-answer : goal.returns-clause-answer
returns-clause-answer g c =
    subst (λ w. SendsAt c.args.key (g.W.Holds.part (g.C.SharedContext.shared c.args.cx.now)) c.args.value c.send_part.result (g.W.Holds.part w)) (sym (g.met.C.SharedContext.shared_with c.args.cx.now c.send_part.new.whole))
    (subst (λ w. SendsAt c.args.key (g.W.Holds.part w) c.args.value c.send_part.result (g.W.Holds.part c.send_part.new.whole)) c.shared_mut.ensures.value c.send_part.ensures.answer)

pub returns-clause-reached : goal.returns-clause-reached
returns-clause-reached g c =
    g.met.C.SharedContext.reaches_with _ _ (rw c.shared_mut.ensures.value at c.send_part.ensures.leads) (rw c.shared_mut.ensures.value at c.send_part.ensures.keeps (g.C.Context.number c.args.cx.now))
