use Rattle.std.proofs.Common.{◌≡◌, true, subst, sym, ◌∙◌}
use Rattle.mono_wheel.specs.Model.{is_reserved}
use Rattle.mono_wheel.proofs.HoldingLemmas.{in-known}
use Rattle.mono_wheel.proofs.wheel.Wheel.is_in.Goals as goal

pub returns-clause-reserved : goal.returns-clause-reserved
returns-clause-reserved c there =
    subst (λ w. is_reserved w c.args.key ≡ true) c.self.view_is
    (in-known c.self.inside.elapsed c.self.inside.links.table.entries c.self.inside.links.table c.args.key c.self.invariant.0 c.is_in.ensures.known (sym c.is_in.ensures.value ∙ there))
