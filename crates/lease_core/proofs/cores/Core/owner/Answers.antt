use Rattle.std.proofs.Common.{refl}
use Rattle.lease_core.proofs.LeaseLemmas.{leases_told, one_reply}
use Rattle.lease_core.proofs.LookLemmas.{owner_step}
use Rattle.lease_core.proofs.cores.Core.owner.Goals as goal

pub returns : goal.returns
returns c =
    leases_told _ _ _ _ _ _ c.of_owner.ensures (λ k stands. owner_step k _ _ _ (c.owner-told.ensures k stands) stands) (record { limits = refl; actors = refl; tick = refl }) refl
    (one_reply _ _ _ _ c.requires c.at_once-reply.ensures c.push_reserved.ensures.items)
