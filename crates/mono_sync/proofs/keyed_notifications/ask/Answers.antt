use Rattle.std.proofs.Common.{sym, subst}
use Rattle.mono_sync.specs.KeyedNotices.{AwaitsAt}
use Rattle.mono_sync.proofs.keyed_notifications.ask.Goals as goal

pub returns-clause-answer : goal.returns-clause-answer
returns-clause-answer g c =
    subst (λ w. AwaitsAt c.args.key (g.W.Holds.part (g.C.SharedContext.shared c.args.cx.now)) c.args.ticket (g.C.Context.number c.args.cx.now) c.ask_part.result (g.W.Holds.part w)) (sym (g.met.C.SharedContext.shared_with c.args.cx.now c.ask_part.new.whole))
    (subst (λ w. AwaitsAt c.args.key (g.W.Holds.part w) c.args.ticket (g.C.Context.number c.args.cx.now) c.ask_part.result (g.W.Holds.part c.ask_part.new.whole)) c.shared_mut.ensures.value (subst (λ t. AwaitsAt c.args.key (g.W.Holds.part c.shared_mut.result.now) t (g.C.Context.number c.args.cx.now) c.ask_part.result (g.W.Holds.part c.ask_part.new.whole)) c.ticket_of.ensures (subst (λ n. AwaitsAt c.args.key (g.W.Holds.part c.shared_mut.result.now) c.ticket_of.result n c.ask_part.result (g.W.Holds.part c.ask_part.new.whole)) c.me-me.ensures c.ask_part.ensures.answer)))
