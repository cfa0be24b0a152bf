use Rattle.std.proofs.Common.{◌≡◌, false}
use Rattle.mono_forms.specs.MessageFolds.{fold_spent, FoldCanPoll, FoldMessagesGives}
use Rattle.mono_forms.proofs.message_folds.FoldMessagesTaskFuture.poll.Given as goal

-- the future gives no more than at the poll's start
abbrev pub invariant-loop-left : goal.invariant-loop-left
invariant-loop-left g l = record {
  unspent : fold_spent l.self ≡ false;
  callable : FoldCanPoll g.F.FnMut l.self;
  reached : g.C.Context.reaches l.fn.cx l.cx;
  narrows : (x : _) → FoldMessagesGives g.F.FnMut l.self x → FoldMessagesGives g.F.FnMut l.fn.self x;
}

abbrev pub decreases-loop-left : goal.decreases-loop-left
decreases-loop-left g l = l.left
