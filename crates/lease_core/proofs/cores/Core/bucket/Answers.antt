use Rattle.std.proofs.Common.{refl}
use Rattle.lease_core.proofs.LeaseLemmas.{one_reply}
use Rattle.lease_core.proofs.ServiceLemmas.{takes_told, bucket_step}
use Rattle.lease_core.proofs.cores.Core.bucket.Goals as goal

pub returns : goal.returns
returns c =
    λ key. takes_told _ _ _ _ _ _ c.of_bucket.ensures (bucket_step _ _ c.args.burst c.args.period _ c.bucket-told.ensures) (record { sessions = refl; tick = refl; waiting = refl }) refl
    (one_reply _ _ _ _ c.requires c.at_once-reply.ensures c.push_reserved.ensures.items)
