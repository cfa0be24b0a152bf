use Rattle.std.proofs.Common.{◌≡◌, ◌≤◌, ◌+◌, List, length}
use Rattle.std.specs.Prelude.{vec_len, vec_capacity}
use Rattle.mono_session.specs.Keeper.{Entry, Keeper}
use Rattle.mono_session.specs.Refinement.{StandsFor, entries_len}
use Rattle.lease_core.specs.Waiting.{waits_of}
use Rattle.lease_core.proofs.LeaveLemmas.{Leaving}
use Rattle.lease_core.proofs.cores.Core.leave_queues.Given as goal

-- the session has left some queues, and the waits of their keys have ended
abbrev pub invariant-loop-key : goal.invariant-loop-key
invariant-loop-key l = record {
  leaving : (k : Keeper) → StandsFor l.fn.self.sessions k → (left : List Entry) × Leaving l.fn.self k l.session left l.self;
  room : vec_len l.self.replies + length (waits_of l.self.waiting) ≤ vec_capacity l.self.replies;
  limiter : l.self.limiter ≡ l.fn.self.limiter;
  actors : l.self.actors ≡ l.fn.self.actors;
  tick : l.self.tick ≡ l.fn.self.tick;
}

abbrev pub decreases-loop-key : goal.decreases-loop-key
decreases-loop-key l = entries_len l.self.sessions
