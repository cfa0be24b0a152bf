use Rattle.std.proofs.Common.{◌≡◌, ℕ, ◌*◌, ◌+◌, ◌<◌, [], Some, subst, sym}
use Rattle.mono_wheel.specs.Lists.{list_at}
use Rattle.mono_wheel.specs.Holdings.{ranked, IsFirstOccupied}
use Rattle.mono_wheel.proofs.OccupancyLemmas.{level-first}
use Rattle.mono_wheel.proofs.slot_links.SlotLinks.first_occupied.Goals as goal

pub returns-in-Some : goal.returns-in-Some
returns-in-Some c =
    subst (λ links. IsFirstOccupied c.args.elapsed links.table (Some (c.loop-level.level * 64 + c.in-Some.slot))) c.self.view_is
    (level-first c.self.inside.occupied c.self.inside.links c.args.elapsed c.loop-level.level c.slot_at.result c.self.invariant c.slot_at.ensures.value c.loop-level-test.true
    (subst (λ links. (before : ℕ) → before < c.loop-level.level * 64 → list_at links.table (ranked c.args.elapsed before) ≡ []) (sym c.self.view_is) c.loop-level.invariant) c.in-Some.slot c.in-Some.ensures)
