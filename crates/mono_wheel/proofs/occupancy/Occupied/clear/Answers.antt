use Rattle.std.proofs.Common.{ap, ◌∙◌}
use Rattle.mono_wheel.specs.Bits.{occupied_bit}
use Rattle.mono_wheel.proofs.OccupancyLemmas.{cleared-here, cleared-others}
use Rattle.mono_wheel.proofs.occupancy.Occupied.clear.Goals as goal

pub returns-clause-here : goal.returns-clause-here
returns-clause-here c = cleared-here c.self.inside.levels c.args.list c.self.invariant c.requires

pub returns-clause-others : goal.returns-clause-others
returns-clause-others c other low ne = cleared-others c.self.inside.levels c.args.list c.self.invariant c.requires other low ne ∙ ap (λ levels. occupied_bit levels other) c.self.view_is
