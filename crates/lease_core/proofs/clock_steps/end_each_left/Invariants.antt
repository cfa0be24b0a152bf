use Rattle.std.proofs.Common.{◌≡◌, ◌≤◌, ◌+◌, ◌++◌, drop, length}
use Rattle.std.specs.Prelude.{vec_len, vec_capacity}
use Rattle.mono_session.specs.Keeper.{Keeper}
use Rattle.mono_session.specs.Refinement.{StandsFor}
use Rattle.lease_core.specs.Waits.{closed_end, ended_by, still_by}
use Rattle.lease_core.specs.Waiting.{waits_of}
use Rattle.lease_core.proofs.clock_steps.end_each_left.Given as goal

-- the waits of the pairs so far have ended, and those of the others are left to end
abbrev pub invariant-loop-pair : goal.invariant-loop-pair
invariant-loop-pair l = record {
  told : (k : Keeper) → StandsFor l.sessions k
      → l.replies.items ++ ended_by (closed_end k) l.tick (drop l.pair-index l.left) (waits_of l.waiting) ≡ l.fn.replies.items ++ ended_by (closed_end k) l.tick l.left (waits_of l.fn.waiting);
  kept : (k : Keeper) → StandsFor l.sessions k → still_by (closed_end k) (drop l.pair-index l.left) (waits_of l.waiting) ≡ still_by (closed_end k) l.left (waits_of l.fn.waiting);
  room : vec_len l.replies + length (waits_of l.waiting) ≤ vec_capacity l.replies;
  len : length (waits_of l.waiting) ≤ length (waits_of l.fn.waiting);
  capacity : vec_capacity l.replies ≡ vec_capacity l.fn.replies;
}
