use Rattle.mono_serve.proofs.GivenLemmas.{kept_given}
use Rattle.mono_serve.proofs.keepers.KeeperTaskFuture.poll.Goals as goal

pub returns-in-Sleeps-clause-reached : goal.returns-in-Sleeps-clause-reached
returns-in-Sleeps-clause-reached g c = g.met.C.Context.reaches_on _ _ _ c.cancel.ensures.reached c.keep-in-Sleeps.ensures.reached

pub returns-in-Waits-clause-given : goal.returns-in-Waits-clause-given
returns-in-Waits-clause-given g c =
    kept_given (λ x. g.W.Holds.part (g.C.SharedContext.shared x)) g.C.Context.number g.C.Context.nanos g.C.TimeContext.sleeps g.C.Context.work g.C.Context.reaches
    c.args.cx.now c.keep.result c.keep.new.self.phase c.keep.new.cx c.keep.ensures.keeps

pub returns-in-Sleeps-clause-given : goal.returns-in-Sleeps-clause-given
returns-in-Sleeps-clause-given g c =
    kept_given (λ x. g.W.Holds.part (g.C.SharedContext.shared x)) g.C.Context.number g.C.Context.nanos g.C.TimeContext.sleeps g.C.Context.work g.C.Context.reaches
    c.cancel.new.cx c.keep-in-Sleeps.result c.keep-in-Sleeps.new.self.phase c.keep-in-Sleeps.new.cx c.keep-in-Sleeps.ensures.keeps
