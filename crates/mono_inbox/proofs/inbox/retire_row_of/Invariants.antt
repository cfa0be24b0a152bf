use Rattle.std.proofs.Common.{◌-◌, ◌+◌, ◌≤◌}
use Rattle.mono_inbox.specs.State.{ForgetsRow}
use Rattle.mono_inbox.proofs.inbox.retire_row_of.Given as goal

abbrev pub invariant-loop-done : goal.invariant-loop-done
invariant-loop-done l = (l.done ≤ l.count) × ForgetsRow l.fn.state l.state l.fn.from (l.fn.from + l.done)

abbrev pub decreases-loop-done : goal.decreases-loop-done
decreases-loop-done l = l.count - l.done
