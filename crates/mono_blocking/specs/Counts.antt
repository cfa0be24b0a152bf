-- Counts of calls and of refusals, which stop at 2 ^ 64 - 1.
use Rattle.std.specs.Prelude.{ℕ, ◌+◌, ◌-◌, ◌^◌, ◌<◌, ◌≤◌, ◌⊎◌, max, min}

-- Whether a count is higher than before; a count that cannot rise counts as risen.
abbrev pub HasRisen : ℕ → ℕ → Type 0
HasRisen before now = (before < now) ⊎ (2 ^ 64 - 1 ≤ before)

-- The count after `calls` more calls, at most 2 ^ 64 - 1.
abbrev pub counted_by : ℕ → ℕ → ℕ
counted_by calls count = max count (min (count + calls) (2 ^ 64 - 1))
