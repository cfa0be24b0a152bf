use Rattle.std.proofs.Common.{sym, subst}
use Rattle.mono_sync.specs.KeyedDeliveries.{DropsAt}
use Rattle.mono_sync.proofs.keyed_deliveries.leave.Goals as goal

pub returns-clause-answer : goal.returns-clause-answer
returns-clause-answer g c =
    subst (λ w. DropsAt c.args.key (g.W.Holds.part (g.C.SharedContext.shared c.args.cx.now)) c.args.ticket (g.C.Context.number c.args.cx.now) (g.W.Holds.part w)) (sym (g.met.C.SharedContext.shared_with c.args.cx.now c.drop_part.new.whole))
    (subst (λ w. DropsAt c.args.key (g.W.Holds.part w) c.args.ticket (g.C.Context.number c.args.cx.now) (g.W.Holds.part c.drop_part.new.whole)) c.shared_mut.ensures.value (subst (λ t. DropsAt c.args.key (g.W.Holds.part c.shared_mut.result.now) t (g.C.Context.number c.args.cx.now) (g.W.Holds.part c.drop_part.new.whole)) c.ticket_of.ensures (subst (λ n. DropsAt c.args.key (g.W.Holds.part c.shared_mut.result.now) c.ticket_of.result n (g.W.Holds.part c.drop_part.new.whole)) c.me-me.ensures c.drop_part.ensures.answer)))
