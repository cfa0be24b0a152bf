use Rattle.std.proofs.Common.{refl}
use Rattle.mono_sync.proofs.KeyedMessageLemmas.{joined_polls, waits_polls}
use Rattle.mono_sync.proofs.keyed_messages.SendAtTaskFuture.poll.Goals as goal

pub returns-in-Sent-clause-given : goal.returns-in-Sent-clause-given
returns-in-Sent-clause-given g c = rw (← c.in-Some.ensures.value) (record { ticket = c.args.self.now.ticket; at = c.args.cx.now; after = c.ask_send.new.cx; polled = (c.in-Sent.ensures.answer, c.in-Sent.ensures.work) })

pub returns-in-Closed-clause-given : goal.returns-in-Closed-clause-given
returns-in-Closed-clause-given g c = rw (← c.in-Some.ensures.value) (record { ticket = c.args.self.now.ticket; at = c.args.cx.now; after = c.ask_send.new.cx; polled = (c.in-Closed.ensures.answer, c.in-Closed.ensures.work) })

pub returns-in-Memory-clause-given : goal.returns-in-Memory-clause-given
returns-in-Memory-clause-given g c = rw (← c.in-Some.ensures.value) (record { ticket = c.args.self.now.ticket; at = c.args.cx.now; after = c.ask_send.new.cx; polled = (c.in-Memory.ensures.answer, c.in-Memory.ensures.work) })

pub returns-in-Joined-clause-polled : goal.returns-in-Joined-clause-polled
returns-in-Joined-clause-polled g c =
    (rw c.number.ensures (rw (← c.in-Some.ensures.value) (joined_polls (λ x. g.W.Holds.part (g.C.SharedContext.shared x)) g.C.Context.number g.C.Context.work c.args.self.now.key c.args.self.now.ticket c.in-Some.message c.in-Joined.message c.args.cx.now c.ask_send.new.cx c.in-Joined.ticket c.in-Joined.ensures.answer c.in-Joined.ensures.work)), refl, tt)

pub returns-in-Waits-clause-polled : goal.returns-in-Waits-clause-polled
returns-in-Waits-clause-polled g c =
    (rw (← c.in-Some.ensures.value) (waits_polls (λ x. g.W.Holds.part (g.C.SharedContext.shared x)) g.C.Context.number g.C.Context.work c.args.self.now.key c.args.self.now.ticket c.in-Some.message c.in-Waits.message c.args.cx.now c.ask_send.new.cx c.in-Waits.ensures.answer c.in-Waits.ensures.work), refl, tt)
