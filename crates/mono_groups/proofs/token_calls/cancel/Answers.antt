use Rattle.std.proofs.Common.{sym, subst}
use Rattle.mono_groups.specs.Tokens.{Cancels}
use Rattle.mono_groups.proofs.token_calls.cancel.Goals as goal

pub returns-clause-answer : goal.returns-clause-answer
returns-clause-answer g c =
    subst (λ w. Cancels c.args.key (g.W.Holds.part (g.C.SharedContext.shared c.args.cx.now)) (g.W.Holds.part w)) (sym (g.met.C.SharedContext.shared_with c.args.cx.now c.cancel_part.new.whole))
    (subst (λ w. Cancels c.args.key (g.W.Holds.part w) (g.W.Holds.part c.cancel_part.new.whole)) c.shared_mut.ensures.value c.cancel_part.ensures.answer)

pub returns-clause-reached : goal.returns-clause-reached
returns-clause-reached g c =
    g.met.C.SharedContext.reaches_with _ _ (rw c.shared_mut.ensures.value at c.cancel_part.ensures.leads) (rw c.shared_mut.ensures.value at c.cancel_part.ensures.keeps (g.C.Context.number c.args.cx.now))
