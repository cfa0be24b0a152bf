use Rattle.std.proofs.Common.{refl, ap}
use Rattle.mono_limit.specs.Limits.{limits_of}
use Rattle.mono_actor.specs.Callers.{actors_of}
use Rattle.lease_core.proofs.LeaseLemmas.{close_refused, close_done, one_reply}
use Rattle.lease_core.proofs.cores.Core.close.Goals as goal

pub returns-then-not-is_open : goal.returns-then-not-is_open
returns-then-not-is_open c =
    λ key. close_refused c.args.self.now _ _ _ c.if-not-is_open.ensures refl (record { limits = refl; actors = refl; tick = refl }) refl
    (one_reply _ _ _ _ c.requires c.at_once-reply.ensures c.push_reserved.ensures.items)

pub returns : goal.returns
returns c =
    let same = c.leave_queues.ensures.same in
    λ key. close_done c.args.self.now _ _ _ _ _ c.leave_queues.ensures.frees (λ k stands. (c.close.ensures.step k stands).1) c.if-not-is_open.ensures refl refl refl
    (one_reply _ _ _ _ c.requires c.at_once-reply-2.ensures c.push_reserved-2.ensures.items)
    (record { limits = ap limits_of same.0; actors = ap actors_of same.1; tick = same.2 }) refl refl
