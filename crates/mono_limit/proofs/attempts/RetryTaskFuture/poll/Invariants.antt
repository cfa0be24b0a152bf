use Rattle.std.proofs.Common.{◌≡◌, false}
use Rattle.mono_limit.specs.Stages.{is_over}
use Rattle.mono_limit.specs.RetryPolls.{MayGoOn, RetryPolls, rounds_left}
use Rattle.mono_limit.specs.RetryGives.{RetryGives}
use Rattle.mono_limit.proofs.attempts.RetryTaskFuture.poll.Given as goal

-- a poll from here on is one from the start
abbrev pub invariant-loop-answer : goal.invariant-loop-answer
invariant-loop-answer g l = record {
  may : MayGoOn g.G.FnMut g.F.TaskFuture l.self;
  unspent : is_over l.self.stage ≡ false;
  reached : g.C.Context.reaches l.fn.cx l.cx;
  narrows : (y : _) → RetryGives g.F.TaskFuture.gives g.G.FnMut l.self y → RetryGives g.F.TaskFuture.gives g.G.FnMut l.fn.self y;
  onward : (p : _) (s : _) (d : _) → RetryPolls g.G.FnMut g.F.TaskFuture g.C.Context.number g.C.Context.nanos g.C.TimeContext.sleeps g.C.Context.work g.C.Context.reaches l.self l.cx p s d
      → RetryPolls g.G.FnMut g.F.TaskFuture g.C.Context.number g.C.Context.nanos g.C.TimeContext.sleeps g.C.Context.work g.C.Context.reaches l.fn.self l.fn.cx p s d;
}

abbrev pub decreases-loop-answer : goal.decreases-loop-answer
decreases-loop-answer g l = rounds_left l.self
