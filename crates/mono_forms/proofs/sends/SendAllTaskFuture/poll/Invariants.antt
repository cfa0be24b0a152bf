use Rattle.std.proofs.Common.{◌≡◌, false}
use Rattle.mono_forms.specs.Sends.{inner_spent, CanTake, InnerGives}
use Rattle.mono_forms.proofs.sends.SendAllTaskFuture.poll.Given as goal

-- the future gives no more than at the poll's start
abbrev pub invariant-loop-left : goal.invariant-loop-left
invariant-loop-left g l = record {
  unspent : inner_spent l.self.inner ≡ false;
  callable : CanTake g.I.Iterator.can_next l.self.inner;
  reached : g.C.Context.reaches l.fn.cx l.cx;
  narrows : (x : _) → InnerGives g.I.Iterator.next_gives l.self.inner x → InnerGives g.I.Iterator.next_gives l.fn.self.inner x;
}

abbrev pub decreases-loop-left : goal.decreases-loop-left
decreases-loop-left g l = l.left
