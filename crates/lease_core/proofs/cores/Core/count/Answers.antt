use Rattle.std.proofs.Common.{refl}
use Rattle.lease_core.proofs.LeaseLemmas.{one_reply}
use Rattle.lease_core.proofs.LookLemmas.{counted}
use Rattle.lease_core.proofs.cores.Core.count.Goals as goal

pub returns : goal.returns
returns c =
    λ key. counted _ _ _ _ _ _ _ c.open_len.ensures.open c.entries_len.ensures c.live.ensures c.len.ensures.len refl (record { limits = refl; actors = refl; tick = refl }) refl
    (one_reply _ _ _ _ c.requires c.at_once-reply.ensures c.push_reserved.ensures.items)
