use Rattle.std.proofs.Common.{Some, None}
use Rattle.mono_serve.proofs.GivenLemmas.{gone_on_given, napped_given}
use Rattle.mono_serve.proofs.takes.TakeTaskFuture.poll.Goals as goal

pub returns-in-None-clause-polled : goal.returns-in-None-clause-polled
returns-in-None-clause-polled g c =
    rw (← c.in-Sleeps.ensures.value) (record {
      answer = None;
      stage = c.nap.new.self.stage;
      middle = c.nap.new.cx;
      naps = c.in-None.ensures.naps;
      rest = rw (c.nap.ensures.bucket, c.nap.ensures.n) at c.go_on-in-None.ensures.goes_on;
    })

pub returns-in-None-clause-reached : goal.returns-in-None-clause-reached
returns-in-None-clause-reached g c = g.met.C.Context.reaches_on _ _ _ c.nap.ensures.reached c.go_on-in-None.ensures.reached

pub returns-in-Fresh-clause-given : goal.returns-in-Fresh-clause-given
returns-in-Fresh-clause-given g c =
    gone_on_given (λ x. g.W.Holds.part (g.C.SharedContext.shared x)) g.C.Context.number g.C.Context.nanos g.C.TimeContext.sleeps g.C.Context.work g.C.Context.reaches None
    c.args.self.now.bucket c.args.self.now.n c.args.cx.now c.go_on.result c.go_on.new.self.stage c.go_on.new.cx c.go_on.ensures.goes_on

pub returns-in-Waits-clause-given : goal.returns-in-Waits-clause-given
returns-in-Waits-clause-given g c =
    gone_on_given (λ x. g.W.Holds.part (g.C.SharedContext.shared x)) g.C.Context.number g.C.Context.nanos g.C.TimeContext.sleeps g.C.Context.work g.C.Context.reaches (Some c.in-Waits.ticket)
    c.args.self.now.bucket c.args.self.now.n c.args.cx.now c.go_on-in-Waits.result c.go_on-in-Waits.new.self.stage c.go_on-in-Waits.new.cx c.go_on-in-Waits.ensures.goes_on

pub returns-in-Some-clause-given : goal.returns-in-Some-clause-given
returns-in-Some-clause-given g c =
    napped_given (λ x. g.W.Holds.part (g.C.SharedContext.shared x)) g.C.Context.number g.C.Context.nanos g.C.TimeContext.sleeps g.C.Context.work g.C.Context.reaches c.in-Sleeps.ticket c.in-Sleeps.sleep
    c.args.self.now.bucket c.args.self.now.n c.args.cx.now c.in-Some.answer c.nap.new.self.stage c.nap.new.cx c.in-Some.ensures.naps

pub returns-in-None-clause-given : goal.returns-in-None-clause-given
returns-in-None-clause-given g c =
    gone_on_given (λ x. g.W.Holds.part (g.C.SharedContext.shared x)) g.C.Context.number g.C.Context.nanos g.C.TimeContext.sleeps g.C.Context.work g.C.Context.reaches (Some c.in-Sleeps.ticket)
    c.args.self.now.bucket c.args.self.now.n c.nap.new.cx c.go_on-in-None.result c.go_on-in-None.new.self.stage c.go_on-in-None.new.cx
    (rw (c.nap.ensures.bucket, c.nap.ensures.n) at c.go_on-in-None.ensures.goes_on)
