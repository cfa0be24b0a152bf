use Rattle.std.proofs.Common.{refl, true, false}
use Rattle.lease_core.proofs.LeaseLemmas.{acquire_refused, acquire_held, acquire_waits, acquire_step, acquire_first, one_reply}
use Rattle.lease_core.proofs.UndoLemmas.{undo_step, if_pushed, if_refused}
use Rattle.lease_core.proofs.cores.Core.enter.Goals as goal

pub returns-in-Err : goal.returns-in-Err
returns-in-Err c =
    acquire_refused _ _ _ _ _ _ (λ k stands. acquire_step k _ _ _ _ (c.in-Err.ensures.step k stands)) (record { limits = refl; actors = refl; tick = refl }) refl
    (one_reply _ _ _ _ c.requires.none c.at_once-reply.ensures c.push_reserved.ensures.items)

pub returns-in-Ok-true : goal.returns-in-Ok-true
returns-in-Ok-true c =
    acquire_held _ _ _ _ _ (λ k stands. acquire_first k _ _ _ true _ c.in-Ok-true.field-0-test (c.in-Ok-true.ensures.step k stands)) (record { limits = refl; actors = refl; tick = refl }) refl
    (one_reply _ _ _ _ c.requires.none c.at_once-reply-in-Ok-true.ensures c.push_reserved-in-Ok-true.ensures.items)

pub returns-then-is_err : goal.returns-then-is_err
returns-then-is_err c =
    acquire_refused _ _ _ _ _ _ (λ k stands. undo_step k _ _ c.in-Ok-false.field-0 _ _ _ (c.in-Ok-false.ensures.step k stands) c.release.ensures.step) (record { limits = refl; actors = refl; tick = refl })
    (if_refused _ c.push.result c.is_err.result c.is_err.ensures.value c.if-is_err.true c.push.ensures.refused)
    (one_reply _ _ _ _ c.requires.none c.at_once-reply-then-is_err.ensures c.push_reserved-then-is_err.ensures.items)

pub returns-else-is_err : goal.returns-else-is_err
returns-else-is_err c =
    acquire_waits _ _ _ _ _ (λ k stands. acquire_first k _ _ _ false _ c.in-Ok-false.field-0-test (c.in-Ok-false.ensures.step k stands)) (record { limits = refl; actors = refl; tick = refl })
    (if_pushed _ c.push.result c.is_err.result c.is_err.ensures.value c.if-is_err.false c.push.ensures.pushed) c.requires.none
