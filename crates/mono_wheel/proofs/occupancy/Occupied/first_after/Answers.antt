use Rattle.std.proofs.Common.{rules, arith, ◌≡◌, ◌+◌, ◌%◌, ◌<◌, ◌^◌, Some, None, w64, get_or, refl, sym, ◌∙◌, subst}
use Rattle.std.specs.Int.{trailing_zeros}
use Rattle.mono_wheel.specs.Bits.{IsFirstAfter}
use Rattle.mono_wheel.proofs.OccupancyLemmas.{none-after, some-after, first-after}
use Rattle.mono_wheel.proofs.occupancy.Occupied.first_after.Goals as goal

pub returns-then-bits-eq0 : goal.returns-then-bits-eq0
returns-then-bits-eq0 c =
    subst (λ levels. IsFirstAfter levels c.args.level c.args.slot None) c.self.view_is
    (none-after c.self.inside.levels c.args.level c.args.slot (get_or c.self.inside.levels c.args.level 0) refl (search rules) c.if-bits-eq0.true)

pub returns : goal.returns
returns c =
    let some = some-after c.self.inside.levels c.args.level c.args.slot (get_or c.self.inside.levels c.args.level 0) refl (search rules) c.requires.slot (let ne = c.if-bits-eq0.false in omega (arith, ne)) in
    subst (λ levels. IsFirstAfter levels c.args.level c.args.slot (Some ((c.args.slot + 1 + trailing_zeros w64 c.rotate_right-turned.result) % 64))) c.self.view_is
    (subst (λ z. IsFirstAfter c.self.inside.levels c.args.level c.args.slot (Some ((c.args.slot + 1 + trailing_zeros w64 z) % 64))) (sym c.rotate_right-turned.ensures)
    (first-after c.self.inside.levels c.args.level c.args.slot (get_or c.self.inside.levels c.args.level 0) refl (search rules)
    some (subst (λ z. z < 2 ^ 64) c.rotate_right-turned.ensures (search rules))))
