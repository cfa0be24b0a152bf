use Rattle.std.proofs.Common.{sym, subst}
use Rattle.mono_sync.specs.KeyedMessages.{SendsAt}
use Rattle.mono_sync.proofs.keyed_messages.ask_send.Goals as goal

pub returns-clause-answer : goal.returns-clause-answer
returns-clause-answer g c =
    subst (λ w. SendsAt c.args.key (g.W.Holds.part (g.C.SharedContext.shared c.args.cx.now)) c.args.ticket c.args.message (g.C.Context.number c.args.cx.now) c.send_part.result (g.W.Holds.part w)) (sym (g.met.C.SharedContext.shared_with c.args.cx.now c.send_part.new.whole))
    (subst (λ w. SendsAt c.args.key (g.W.Holds.part w) c.args.ticket c.args.message (g.C.Context.number c.args.cx.now) c.send_part.result (g.W.Holds.part c.send_part.new.whole)) c.shared_mut.ensures.value (subst (λ t. SendsAt c.args.key (g.W.Holds.part c.shared_mut.result.now) t c.args.message (g.C.Context.number c.args.cx.now) c.send_part.result (g.W.Holds.part c.send_part.new.whole)) c.ticket_of.ensures (subst (λ n. SendsAt c.args.key (g.W.Holds.part c.shared_mut.result.now) c.ticket_of.result c.args.message n c.send_part.result (g.W.Holds.part c.send_part.new.whole)) c.me-me.ensures c.send_part.ensures.answer)))
