use Rattle.std.proofs.Common.{◌≡◌, ◌<◌, ◌≤◌, ℕ, ◌+◌, ◌-◌, length}
use Rattle.std.specs.Prelude.{slice_get}
use Rattle.mono_time.proofs.entry.make_entry.Given as goal

-- the entries that were there stay
abbrev pub invariant-loop-entries : goal.invariant-loop-entries
invariant-loop-entries l = (length l.initial.entries.items ≤ length l.entries.items)
    × ((k : ℕ) → k < length l.initial.entries.items → slice_get l.entries.items k ≡ slice_get l.initial.entries.items k)

abbrev pub decreases-loop-entries : goal.decreases-loop-entries
decreases-loop-entries l = l.key + 1 - length l.entries.items
