use Rattle.std.proofs.Common.{refl}
use Rattle.mono_actor.specs.Callers.{actors_of}
use Rattle.lease_core.proofs.LeaseLemmas.{one_reply}
use Rattle.lease_core.proofs.ServiceLemmas.{mails_told, spawn_step, spawned_turn}
use Rattle.lease_core.proofs.cores.Core.spawn.Goals as goal

pub returns : goal.returns
returns c =
    λ key. mails_told _ _ _ _ _ _ c.of_spawn.ensures (spawn_step _ _ _ c.spawn-told.ensures.answer c.spawn-told.ensures.after) (spawned_turn c.spawn-told.result (actors_of c.args.self.now.actors) _ c.spawn-told.ensures.after)
    (record { sessions = refl; tick = refl; waiting = refl }) refl (one_reply _ _ _ _ c.requires c.at_once-reply.ensures c.push_reserved.ensures.items)
