use Rattle.std.proofs.Common.{◌≡◌, false}
use Rattle.example_tasks.proofs.chains.poll_up_to.Given as goal

abbrev pub invariant-loop-left : goal.invariant-loop-left
invariant-loop-left g l = record {
  unspent : g.A.TaskFuture.is_spent l.future ≡ false;
  callable : g.A.TaskFuture.can_poll l.future;
  narrows : (x : _) → g.A.TaskFuture.gives l.future x → g.A.TaskFuture.gives l.initial.future x;
  reached : g.C.Context.reaches l.fn.cx l.cx;
}

abbrev pub decreases-loop-left : goal.decreases-loop-left
decreases-loop-left g l = l.left
