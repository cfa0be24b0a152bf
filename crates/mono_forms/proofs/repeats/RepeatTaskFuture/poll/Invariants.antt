use Rattle.std.proofs.Common.{◌≡◌, false}
use Rattle.mono_forms.specs.Repeats.{repeat_spent, RepeatCanPoll, RepeatPolls, RepeatGives, Takes}
use Rattle.mono_forms.proofs.repeats.RepeatTaskFuture.poll.Given as goal

-- a poll from here on, with the turns that are left, is one from the start
abbrev pub invariant-loop-left : goal.invariant-loop-left
invariant-loop-left g l = record {
  callable : RepeatCanPoll g.A.TaskFuture g.F.FnMut l.self;
  unspent : repeat_spent g.A.TaskFuture.is_spent l.self.future ≡ false;
  reached : g.C.Context.reaches l.fn.cx l.cx;
  narrows : (x : _) → RepeatGives g.A.TaskFuture.gives g.F.FnMut l.self x → RepeatGives g.A.TaskFuture.gives g.F.FnMut l.fn.self x;
  onward : (p : _) (s : _) (d : _) → Takes g.A.TaskFuture g.F.FnMut g.C.Context.number g.C.Context.work g.C.Context.wakes g.C.Context.reaches l.left l.self l.cx p s d
      → RepeatPolls g.A.TaskFuture g.F.FnMut g.C.Context.number g.C.Context.work g.C.Context.wakes g.C.Context.reaches l.fn.self l.fn.cx p s d;
}

abbrev pub decreases-loop-left : goal.decreases-loop-left
decreases-loop-left g l = l.left
