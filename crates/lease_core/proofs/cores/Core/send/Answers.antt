use Rattle.std.proofs.Common.{refl}
use Rattle.mono_actor.specs.Callers.{actors_of, without_message}
use Rattle.lease_core.proofs.LeaseLemmas.{one_reply}
use Rattle.lease_core.proofs.ServiceLemmas.{mails_told, send_step, sent_turn}
use Rattle.lease_core.proofs.cores.Core.send.Goals as goal

pub returns : goal.returns
returns c =
    λ key. mails_told _ _ _ _ _ _ c.of_send.ensures (send_step _ _ _ _ _ _ c.send-told.ensures.answer c.send-told.ensures.after) (sent_turn (without_message c.send-told.result) (actors_of c.args.self.now.actors) _ c.args.from c.args.to c.args.message c.send-told.ensures.after)
    (record { sessions = refl; tick = refl; waiting = refl }) refl (one_reply _ _ _ _ c.requires c.at_once-reply.ensures c.push_reserved.ensures.items)
