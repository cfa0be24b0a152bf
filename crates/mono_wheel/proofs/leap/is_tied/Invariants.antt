use Rattle.std.proofs.Common.{ℕ, ◌<◌, ◌≢◌, get_or}
use Rattle.mono_wheel.specs.Lists.{entry_at}
use Rattle.mono_wheel.proofs.leap.is_tied.Given as goal

abbrev pub invariant-loop-other : goal.invariant-loop-other
invariant-loop-other l = (before : ℕ) → before < l.other → get_or l.near before 0 ≢ get_or l.near l.place 0 → (entry_at l.links.table (get_or l.near before 0)).tick ≢ l.tick
