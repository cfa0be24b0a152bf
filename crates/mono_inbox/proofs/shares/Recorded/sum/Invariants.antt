use Rattle.std.proofs.Common.{◌≡◌, ◌+◌, sum_by, vec_len}
use Rattle.mono_inbox.proofs.shares.Recorded.sum.Given as goal

-- The sum so far and the calls that remain are the whole sum, and the merged share's amount is the sum so far.
abbrev pub invariant-loop-next : goal.invariant-loop-next
invariant-loop-next g l = record {
  state : l.self.state ≡ l.fn.self.state;
  parts : l.all.parts + vec_len l.shares ≡ vec_len l.fn.shares;
  amount : l.all.amount ≡ l.sum;
  sum : l.sum + sum_by (λ s. s.calls) l.shares.items ≡ sum_by (λ s. s.calls) l.fn.shares.items;
}

abbrev pub decreases-loop-next : goal.decreases-loop-next
decreases-loop-next g l = goal.left-loop-next g l
