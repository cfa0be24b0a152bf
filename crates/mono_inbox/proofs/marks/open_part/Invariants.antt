use Rattle.std.proofs.Common.{◌≡◌, ◌+◌, ◌-◌, ◌≤◌, ℕ, vec_len, vec_capacity}
use Rattle.mono_inbox.specs.Pages.{child_at}
use Rattle.mono_inbox.proofs.marks.open_part.Given as goal

-- So many empty ones were added, and there is room for the others.
abbrev pub invariant-loop : goal.invariant-loop
invariant-loop l = record {
  same : (i : ℕ) → child_at l.parts.items i ≡ child_at l.fn.parts.items i;
  len : vec_len l.parts ≡ vec_len l.fn.parts + l.counter;
  room : vec_len l.parts + (l.missing - l.counter) ≤ vec_capacity l.parts;
}
