use Rattle.std.proofs.Common.{refl}
use Rattle.lease_core.proofs.LeaseLemmas.{one_reply}
use Rattle.lease_core.proofs.ServiceLemmas.{takes_told, take_step}
use Rattle.lease_core.proofs.cores.Core.take.Goals as goal

pub returns : goal.returns
returns c =
    λ key. takes_told _ _ _ _ _ _ c.of_take.ensures (take_step _ _ _ _ _ c.take-told.ensures) (record { sessions = refl; tick = refl; waiting = refl }) refl
    (one_reply _ _ _ _ c.requires c.at_once-reply.ensures c.push_reserved.ensures.items)
