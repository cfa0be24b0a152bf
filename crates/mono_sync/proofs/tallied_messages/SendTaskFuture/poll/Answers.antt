use Rattle.std.specs.Prelude.{Some}
use Rattle.std.proofs.Common.{ap, refl, inr}
use Rattle.mono_sync.proofs.tallied_messages.SendTaskFuture.poll.Goals as goal

pub returns-in-Sent-clause-given : goal.returns-in-Sent-clause-given
returns-in-Sent-clause-given g c = rw (← c.in-Some.ensures.value) (record { ticket = c.args.self.now.ticket; at = c.args.cx.now; after = c.ask_send.new.cx; polled = (c.in-Sent.ensures.answer, c.in-Sent.ensures.work) })

pub returns-in-Closed-clause-given : goal.returns-in-Closed-clause-given
returns-in-Closed-clause-given g c = rw (← c.in-Some.ensures.value) (record { ticket = c.args.self.now.ticket; at = c.args.cx.now; after = c.ask_send.new.cx; polled = (c.in-Closed.ensures.answer, c.in-Closed.ensures.work) })

pub returns-in-Memory-clause-given : goal.returns-in-Memory-clause-given
returns-in-Memory-clause-given g c = rw (← c.in-Some.ensures.value) (record { ticket = c.args.self.now.ticket; at = c.args.cx.now; after = c.ask_send.new.cx; polled = (c.in-Memory.ensures.answer, c.in-Memory.ensures.work) })

pub returns-in-Joined-clause-polled : goal.returns-in-Joined-clause-polled
returns-in-Joined-clause-polled g c = (rw (← c.in-Some.ensures.value) (inr (c.in-Joined.ticket, (ap Some c.in-Joined.ensures.answer.0, ap Some c.number.ensures, (refl, c.in-Joined.ensures.answer.1, c.in-Joined.ensures.answer.2, c.in-Joined.ensures.answer.3), c.in-Joined.ensures.work))), tt)
