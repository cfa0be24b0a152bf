use Rattle.std.proofs.Common.{length, ◌-◌, ◌≡◌, ◌+◌, ◌<◌, ◌≤◌, ℕ}
use Rattle.std.specs.Prelude.{slice_index_or}
use Rattle.mono_inbox.proofs.inbox.row_length.Given as goal

abbrev pub invariant-loop-next : goal.invariant-loop-next
invariant-loop-next l = record {
  begun : l.fn.at < l.next;
  inside : l.next ≤ length l.tasks;
  row : (i : ℕ) → i < l.next - l.fn.at → slice_index_or l.tasks (l.fn.at + i) 0 ≡ slice_index_or l.tasks l.fn.at 0 + i;
  last : l.last + 1 ≡ slice_index_or l.tasks l.fn.at 0 + (l.next - l.fn.at);
}

abbrev pub decreases-loop-next : goal.decreases-loop-next
decreases-loop-next l = length l.tasks - l.next
