use Rattle.std.proofs.Common.{◌≤◌, ◌-◌}
use Rattle.mono_inbox.specs.State.{AlsoKnowsRow}
use Rattle.mono_inbox.proofs.state.InboxState.know_row.Given as goal

abbrev pub invariant-loop-next : goal.invariant-loop-next
invariant-loop-next l = (l.fn.from ≤ l.next) × (l.fn.from ≤ l.until → l.next ≤ l.until) × AlsoKnowsRow l.fn.self l.self l.fn.from l.next

abbrev pub decreases-loop-next : goal.decreases-loop-next
decreases-loop-next l = l.until - l.next
