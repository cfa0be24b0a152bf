use Rattle.mono_sync.proofs.keyed_deliveries.RecvAtTaskFuture.poll.Goals as goal

pub returns-in-Received-clause-given : goal.returns-in-Received-clause-given
returns-in-Received-clause-given g c = record { ticket = c.args.self.now.ticket; at = c.args.cx.now; after = c.take.new.cx; polled = (c.in-Received.ensures.answer, c.in-Received.ensures.work) }

pub returns-in-Closed-clause-given : goal.returns-in-Closed-clause-given
returns-in-Closed-clause-given g c = record { ticket = c.args.self.now.ticket; at = c.args.cx.now; after = c.take.new.cx; polled = (c.in-Closed.ensures.answer, c.in-Closed.ensures.work) }
