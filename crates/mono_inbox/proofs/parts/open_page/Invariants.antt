use Rattle.std.proofs.Common.{◌≡◌, ◌+◌, ◌-◌, ◌≤◌, ℕ, vec_len, vec_capacity}
use Rattle.mono_inbox.specs.Pages.{child_at}
use Rattle.mono_inbox.proofs.parts.open_page.Given as goal

-- So many empty ones were added, and there is room for the others.
abbrev pub invariant-loop : goal.invariant-loop
invariant-loop l = record {
  same : (i : ℕ) → child_at l.pages.items i ≡ child_at l.fn.pages.items i;
  len : vec_len l.pages ≡ vec_len l.fn.pages + l.counter;
  room : vec_len l.pages + (l.missing - l.counter) ≤ vec_capacity l.pages;
}
