use Rattle.std.proofs.Common.{refl}
use Rattle.lease_core.proofs.LeaseLemmas.{leases_told, open_step, one_reply}
use Rattle.lease_core.proofs.cores.Core.open.Goals as goal

pub returns : goal.returns
returns c =
    λ key. leases_told _ _ _ _ _ _ c.of_open.ensures (λ k stands. open_step k _ _ _ (c.open-told.ensures.step k stands)) (record { limits = refl; actors = refl; tick = refl }) refl
    (one_reply _ _ _ _ c.requires c.at_once-reply.ensures c.push_reserved.ensures.items)
