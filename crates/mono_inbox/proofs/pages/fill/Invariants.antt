use Rattle.std.proofs.Common.{◌≡◌, ◌+◌, ◌-◌, ◌≤◌, ◌++◌, vec_len, vec_capacity}
use Rattle.std.specs.Prelude.{replicate}
use Rattle.mono_inbox.proofs.pages.fill.Given as goal

-- So many entries were made, and there is room for the others.
abbrev pub invariant-loop : goal.invariant-loop
invariant-loop l = record {
  items : l.standings.items ≡ l.fn.standings.items ++ replicate l.counter l.fn.standing;
  room : vec_len l.standings + (l.fn.missing - l.counter) ≤ vec_capacity l.standings;
  same : vec_capacity l.standings ≡ vec_capacity l.fn.standings;
}
