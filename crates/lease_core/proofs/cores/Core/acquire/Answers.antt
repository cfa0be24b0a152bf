use Rattle.std.proofs.Common.{refl, ap}
use Rattle.mono_limit.specs.Limits.{limits_of}
use Rattle.mono_actor.specs.Callers.{actors_of}
use Rattle.lease_core.proofs.LeaseLemmas.{acquire_refused, acquire_lacks, same_core, one_reply}
use Rattle.lease_core.proofs.cores.Core.acquire.Goals as goal

pub returns-in-Ok : goal.returns-in-Ok
returns-in-Ok c =
    let same = c.make_room.ensures.same in
    λ s r. c.enter.ensures s (same_core c.args.self.now c.make_room.new.self s same.0 (ap limits_of same.1) (ap actors_of same.2) c.make_room.ensures.items.0 same.3 r)

pub returns-in-Err : goal.returns-in-Err
returns-in-Err c =
    let same = c.make_room.ensures.same in
    λ s r. acquire_refused c.make_room.new.self _ _ _ _ _ (λ k stands. acquire_lacks k _ _ _ stands) (record { limits = refl; actors = refl; tick = refl }) refl
    (one_reply _ _ _ _ c.make_room.ensures.items.1 c.at_once-reply.ensures c.push_reserved.ensures.items) s
    (same_core c.args.self.now c.make_room.new.self s same.0 (ap limits_of same.1) (ap actors_of same.2) c.make_room.ensures.items.0 same.3 r)
