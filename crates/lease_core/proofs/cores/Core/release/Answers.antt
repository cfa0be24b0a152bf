use Rattle.std.proofs.Common.{refl}
use Rattle.lease_core.specs.Waits.{left_end}
use Rattle.lease_core.specs.declared.requests.Outcome.TheVariants as outcome
use Rattle.lease_core.specs.Waiting.{waits_of}
use Rattle.lease_core.proofs.LeaseLemmas.{release_refused, release_done, release_step, one_reply, then_replies}
use Rattle.lease_core.proofs.cores.Core.release.Goals as goal

pub returns-in-Err : goal.returns-in-Err
returns-in-Err c =
    release_refused _ _ _ _ _ _ (λ k stands. release_step k _ _ _ _ (c.in-Err.ensures.step k stands)) (record { limits = refl; actors = refl; tick = refl }) refl
    (one_reply _ _ _ _ c.requires c.at_once-reply.ensures c.push_reserved.ensures.items)

pub returns-in-Ok : goal.returns-in-Ok
returns-in-Ok c =
    release_done _ _ _ _ _ c.owner-holder.result (λ k stands. release_step k _ _ _ _ (c.in-Ok.ensures.step k stands)) c.owner-holder.ensures (record { limits = refl; actors = refl; tick = refl }) c.end_left.ensures.kept
    (then_replies _ _ _ _ _ (left_end c.args.session outcome.Left c.args.key c.owner-holder.result) c.args.self.now.tick (waits_of c.args.self.now.waiting) _ c.requires c.at_once-reply-in-Ok.ensures c.push_reserved-in-Ok.ensures.items refl c.end_left.ensures.items)
