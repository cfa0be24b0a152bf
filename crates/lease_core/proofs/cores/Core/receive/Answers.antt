use Rattle.std.proofs.Common.{refl}
use Rattle.lease_core.proofs.LeaseLemmas.{one_reply}
use Rattle.lease_core.proofs.ServiceLemmas.{receive_refused, receive_ran}
use Rattle.lease_core.proofs.cores.Core.receive.Goals as goal

pub returns-in-Err : goal.returns-in-Err
returns-in-Err c =
    λ key. receive_refused _ _ _ _ c.in-Err.ensures.answer c.begin.ensures.after (record { sessions = refl; tick = refl; waiting = refl }) refl
    (one_reply _ _ _ _ c.requires c.at_once-reply.ensures c.push_reserved.ensures.items)

pub returns-in-Ok : goal.returns-in-Ok
returns-in-Ok c =
    λ key. receive_ran _ _ _ _ _ _ c.end.result c.in-Ok.ensures.answer c.begin.ensures.after c.end.ensures.answer c.end.ensures.after (record { sessions = refl; tick = refl; waiting = refl }) refl
    (one_reply _ _ _ _ c.requires c.at_once-reply-in-Ok.ensures c.push_reserved-in-Ok.ensures.items)
