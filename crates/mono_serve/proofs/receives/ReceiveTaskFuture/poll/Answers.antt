use Rattle.mono_serve.proofs.GivenLemmas.{got_given, refused_given}
use Rattle.mono_serve.proofs.receives.ReceiveTaskFuture.poll.Goals as goal

pub returns-in-Got-clause-given : goal.returns-in-Got-clause-given
returns-in-Got-clause-given g c =
    got_given (λ x. g.W.Holds.part (g.C.SharedContext.shared x)) g.C.Context.number g.C.Context.work c.args.self.now.ticket c.args.self.now.actor
    c.in-Got.from c.in-Got.message c.args.cx.now c.ask-answer.new.cx c.in-Got.ensures.answer c.ask-answer.ensures.work

pub returns-in-Refused-clause-given : goal.returns-in-Refused-clause-given
returns-in-Refused-clause-given g c =
    refused_given (λ x. g.W.Holds.part (g.C.SharedContext.shared x)) g.C.Context.number g.C.Context.work c.args.self.now.ticket c.args.self.now.actor
    c.in-Refused.error c.args.cx.now c.ask-answer.new.cx c.in-Refused.ensures.answer c.ask-answer.ensures.work
