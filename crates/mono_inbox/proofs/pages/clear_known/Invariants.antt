use Rattle.std.proofs.Common.{◌-◌, ◌≡◌, ◌≤◌, length, vec_capacity}
use Rattle.mono_inbox.specs.Standings.{AreKnown, without_row}
use Rattle.mono_inbox.proofs.pages.clear_known.Given as goal

-- So many tasks are unknown, and were known before.
abbrev pub invariant-loop-row : goal.invariant-loop-row
invariant-loop-row l = record {
  most : l.row ≤ l.count;
  inside : l.row ≤ length l.fn.standings.items - l.fn.at;
  known : AreKnown l.fn.standings.items l.fn.at l.row;
  items : l.standings.items ≡ without_row l.fn.standings.items l.fn.at l.row;
  room : vec_capacity l.standings ≡ vec_capacity l.fn.standings;
}

abbrev pub decreases-loop-row : goal.decreases-loop-row
decreases-loop-row l = l.count - l.row
