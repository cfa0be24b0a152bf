use Rattle.std.proofs.Common.{refl}
use Rattle.lease_core.proofs.ServiceLemmas.{finished}
use Rattle.lease_core.proofs.cores.Core.finish.Goals as goal

pub returns : goal.returns
returns c =
    finished _ _ _ c.clear.ensures.items c.end_all.ensures.items c.end_all.ensures.none refl refl refl refl
