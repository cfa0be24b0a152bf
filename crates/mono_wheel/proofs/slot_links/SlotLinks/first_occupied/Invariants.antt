use Rattle.std.proofs.Common.{◌≡◌, ℕ, ◌*◌, ◌<◌, []}
use Rattle.mono_wheel.specs.Lists.{list_at}
use Rattle.mono_wheel.specs.Holdings.{ranked}
use Rattle.mono_wheel.proofs.slot_links.SlotLinks.first_occupied.Given as goal

abbrev pub invariant-loop-level : goal.invariant-loop-level
invariant-loop-level l = (before : ℕ) → before < l.level * 64 → list_at l.self.table (ranked l.elapsed before) ≡ []
