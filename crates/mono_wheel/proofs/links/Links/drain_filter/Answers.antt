use Rattle.std.proofs.Common.{refl, []}
use Rattle.mono_wheel.specs.Lists.{list_at}
use Rattle.mono_wheel.proofs.DrainLemmas.{cut-after, drains}
use Rattle.mono_wheel.proofs.links.Links.drain_filter.Goals as goal

pub returns-clause-drains : goal.returns-clause-drains
returns-clause-drains g c =
    let placed = cut-after [] (list_at c.args.self.now c.args.list) c.first-at.result c.first-at.ensures.distinct c.first-at.ensures.first in
    drains _ _ _ _ _ refl refl refl placed.0 placed.1
