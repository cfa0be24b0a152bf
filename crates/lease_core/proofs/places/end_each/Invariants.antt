use Rattle.std.proofs.Common.{◌≡◌, ◌≤◌, ◌+◌, ◌++◌, length}
use Rattle.std.specs.Prelude.{vec_len, vec_capacity}
use Rattle.lease_core.specs.Waits.{input_end, ended}
use Rattle.lease_core.specs.Places.{waiters}
use Rattle.lease_core.proofs.places.end_each.Given as goal

abbrev pub invariant-loop-key : goal.invariant-loop-key
invariant-loop-key l = record {
  told : l.replies.items ++ ended input_end l.tick (waiters l.places.entries) ≡ l.fn.replies.items ++ ended input_end l.tick (waiters l.fn.places.entries);
  room : vec_len l.replies + length l.places.entries ≤ vec_capacity l.replies;
  cap : l.places.cap ≡ l.fn.places.cap;
  capacity : vec_capacity l.replies ≡ vec_capacity l.fn.replies;
}

abbrev pub decreases-loop-key : goal.decreases-loop-key
decreases-loop-key l = length l.places.entries
