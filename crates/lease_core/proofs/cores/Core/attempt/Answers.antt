use Rattle.std.proofs.Common.{refl, true}
use Rattle.lease_core.proofs.LeaseLemmas.{acquire_step, acquire_first, one_reply}
use Rattle.lease_core.proofs.LookLemmas.{try_refused, try_held, try_busy}
use Rattle.lease_core.proofs.UndoLemmas.{undone_step}
use Rattle.lease_core.proofs.cores.Core.attempt.Goals as goal

pub returns-in-Err : goal.returns-in-Err
returns-in-Err c =
    try_refused _ _ _ _ _ _ (λ k stands. acquire_step k _ _ _ _ (c.in-Err.ensures.step k stands)) (record { limits = refl; actors = refl; tick = refl }) refl
    (one_reply _ _ _ _ c.requires c.at_once-reply.ensures c.push_reserved.ensures.items)

pub returns-in-Ok-true : goal.returns-in-Ok-true
returns-in-Ok-true c =
    try_held _ _ _ _ _ (λ k stands. acquire_first k _ _ _ true _ c.in-Ok-true.field-0-test (c.in-Ok-true.ensures.step k stands)) (record { limits = refl; actors = refl; tick = refl }) refl
    (one_reply _ _ _ _ c.requires c.at_once-reply-in-Ok-true.ensures c.push_reserved-in-Ok-true.ensures.items)

pub returns-in-Ok-false : goal.returns-in-Ok-false
returns-in-Ok-false c =
    try_busy _ _ _ _ _ (λ k stands. undone_step k _ _ c.in-Ok-false.field-0 _ _ _ c.in-Ok-false.field-0-test (c.in-Ok-false.ensures.step k stands) c.release.ensures.step) (record { limits = refl; actors = refl; tick = refl }) refl
    (one_reply _ _ _ _ c.requires c.at_once-reply-in-Ok-false.ensures c.push_reserved-in-Ok-false.ensures.items)
