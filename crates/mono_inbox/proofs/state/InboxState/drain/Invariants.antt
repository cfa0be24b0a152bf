use Rattle.std.proofs.Common.{◌≡◌, ◌≤◌, ◌+◌, ◌++◌, length, vec_len, vec_capacity}
use Rattle.mono_inbox.proofs.state.InboxState.drain.Given as goal

-- The appended tasks and those that still wait are those that waited at first.
abbrev pub invariant-loop-task : goal.invariant-loop-task
invariant-loop-task l = record {
  appended : l.into.items ++ l.self.waiting ≡ l.fn.into.items ++ l.fn.self.waiting;
  known : l.self.known ≡ l.fn.self.known;
  room : vec_len l.into + length l.self.waiting ≤ vec_capacity l.into;
  capacity : vec_capacity l.into ≡ vec_capacity l.fn.into;
}

abbrev pub decreases-loop-task : goal.decreases-loop-task
decreases-loop-task l = length l.self.waiting
