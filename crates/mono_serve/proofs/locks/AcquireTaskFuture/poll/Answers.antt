use Rattle.mono_serve.proofs.GivenLemmas.{asked_given, looked_given}
use Rattle.mono_serve.proofs.locks.AcquireTaskFuture.poll.Goals as goal

pub returns-in-None-clause-given : goal.returns-in-None-clause-given
returns-in-None-clause-given g c =
    asked_given (λ x. g.W.Holds.part (g.C.SharedContext.shared x)) g.C.Context.number g.C.Context.nanos g.C.Context.work
    c.args.self.now.session c.args.self.now.key c.args.cx.now c.first_poll.result c.first_poll.new.self.ticket c.first_poll.new.cx c.first_poll.ensures.asks

pub returns-in-Some-clause-given : goal.returns-in-Some-clause-given
returns-in-Some-clause-given g c =
    looked_given (λ x. g.W.Holds.part (g.C.SharedContext.shared x)) g.C.Context.number g.C.Context.nanos g.C.Context.work c.in-Some.ticket
    c.args.self.now.session c.args.self.now.key c.args.cx.now c.next_poll.result c.next_poll.new.self.ticket c.next_poll.new.cx c.next_poll.ensures.looks
