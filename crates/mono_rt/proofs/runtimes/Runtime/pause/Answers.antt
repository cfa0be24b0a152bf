use Rattle.std.proofs.Common.{arith, true, false, refl, ap, sym, subst, ◌∙◌}
use Rattle.mono_rt.proofs.RoundLemmas.{pause_some, pause_none, pause_refused, pause_waited, pause_failed, pause_unparked, no_queue}
use Rattle.std.specs.Prelude.{is_err, Ok}
use Rattle.mono_rt.specs.Journals.{Does}
use Rattle.mono_rt.specs.Rounds.{WaitEnds}
use Rattle.mono_rt.specs.DriverReadings.{going, after_call}
use Rattle.mono_rt.proofs.DriverLemmas.{telling_more, same_told, handed_in, so_at, so_done, so_fails, so_failed, so_undrained, so_broken}
use Rattle.mono_rt.specs.Faults.{RisesIf}
use Rattle.mono_rt.proofs.FaultLemmas.{risen_before}
use Rattle.mono_rt.proofs.runtimes.Runtime.pause.Goals as goal

pub returns-in-Ok-drained-clause-pauses : goal.returns-in-Ok-drained-clause-pauses
returns-in-Ok-drained-clause-pauses g c =
    pause_some g.O.Outcome.output_number c.args.self.now.cx.parts.has_timers c.args.self.now.cx.parts c.drain-drained.new.self.cx.parts c.args.self.now.journal c.drain-drained.new.self.journal
    (omega (arith, c.queue_len.ensures, c.if-queue_len-gt0.true)) c.in-Ok-drained.ensures.drained

pub returns-in-Err-clause-pauses : goal.returns-in-Err-clause-pauses
returns-in-Err-clause-pauses g c =
    pause_failed g.O.Outcome.output_number c.drain-drained.result c.args.self.now.cx.parts.has_timers c.args.self.now.cx.parts c.drain-drained.new.self.cx.parts c.args.self.now.journal c.drain-drained.new.self.journal
    (omega (arith, c.queue_len.ensures, c.if-queue_len-gt0.true)) c.drain-drained.ensures.drained c.drain-drained.ensures.refused

pub returns-in-Ok-true-clause-pauses : goal.returns-in-Ok-true-clause-pauses
returns-in-Ok-true-clause-pauses g c =
    pause_unparked g.O.Outcome.output_number c.args.self.now.cx.parts.has_timers c.args.self.now.cx.parts c.wait.new.self.cx.parts c.args.self.now.journal c.wait.new.self.journal
    (no_queue c.args.self.now.cx.parts.tasks.tasks.queue c.queue_len.result c.queue_len.ensures (omega (arith, c.if-queue_len-gt0.false)))
    (subst (λ b. Does g.O.Outcome.output_number (WaitEnds c.args.self.now.cx.parts.has_timers (Ok b)) c.args.self.now.cx.parts c.wait.new.self.cx.parts c.args.self.now.journal c.wait.new.self.journal) c.in-Ok-true.field-0-test c.in-Ok-true.ensures.parks)

pub returns-in-Ok-false-clause-pauses : goal.returns-in-Ok-false-clause-pauses
returns-in-Ok-false-clause-pauses g c =
    pause_none g.O.Outcome.output_number c.args.self.now.cx.parts.has_timers c.args.self.now.cx.parts c.wait.new.self.cx.parts c.args.self.now.journal c.wait.new.self.journal
    (no_queue c.args.self.now.cx.parts.tasks.tasks.queue c.queue_len.result c.queue_len.ensures (omega (arith, c.if-queue_len-gt0.false)))
    (subst (λ b. Does g.O.Outcome.output_number (WaitEnds c.args.self.now.cx.parts.has_timers (Ok b)) c.args.self.now.cx.parts c.wait.new.self.cx.parts c.args.self.now.journal c.wait.new.self.journal) c.in-Ok-false.field-0-test c.in-Ok-false.ensures.parks)

pub returns-in-Err-drained-clause-pauses : goal.returns-in-Err-drained-clause-pauses
returns-in-Err-drained-clause-pauses g c =
    pause_refused g.O.Outcome.output_number c.args.self.now.cx.parts.has_timers c.args.self.now.cx.parts c.drain-drained.new.self.cx.parts c.args.self.now.journal c.drain-drained.new.self.journal
    (omega (arith, c.queue_len.ensures, c.if-queue_len-gt0.true)) c.in-Err-drained.ensures.refused

pub returns-in-Err-wait-clause-pauses : goal.returns-in-Err-wait-clause-pauses
returns-in-Err-wait-clause-pauses g c =
    pause_waited g.O.Outcome.output_number c.args.self.now.cx.parts.has_timers c.args.self.now.cx.parts c.wait.new.self.cx.parts c.args.self.now.journal c.wait.new.self.journal
    (no_queue c.args.self.now.cx.parts.tasks.tasks.queue c.queue_len.result c.queue_len.ensures (omega (arith, c.if-queue_len-gt0.false))) c.in-Err-wait.ensures.parks

pub returns-in-Ok-drained-clause-told : goal.returns-in-Ok-drained-clause-told
returns-in-Ok-drained-clause-told g c =
    let is = c.submit-handed.ensures in
    so_at (same_told g.D.Clock.readings g.D.Clock.time g.D.Clock.parks g.D.Clock.submits g.D.Clock.faults g.D.Clock.can_fail (sym c.drain-drained.ensures.driver))
    (so_done (c.in-Ok-drained.ensures.told _ _ going going (false, (handed_in c.submit-handed.result false _ _ (sym (ap is_err c.in-Ok.is)) is.readings is.time is.parks is.submits is.faults is.sure, refl))))

pub returns-in-Err-clause-told : goal.returns-in-Err-clause-told
returns-in-Err-clause-told g c =
    let is = c.submit-handed.ensures in
    so_at (same_told g.D.Clock.readings g.D.Clock.time g.D.Clock.parks g.D.Clock.submits g.D.Clock.faults g.D.Clock.can_fail (sym c.drain-drained.ensures.driver))
    (so_failed c.drain-drained.result _ _ _ _ (handed_in c.submit-handed.result true _ _ (sym (ap is_err c.in-Err.is)) is.readings is.time is.parks is.submits is.faults is.sure) c.drain-drained.ensures.told)

pub returns-in-Err-drained-clause-told : goal.returns-in-Err-drained-clause-told
returns-in-Err-drained-clause-told g c =
    let is = c.submit-handed.ensures in
    so_at (same_told g.D.Clock.readings g.D.Clock.time g.D.Clock.parks g.D.Clock.submits g.D.Clock.faults g.D.Clock.can_fail (sym c.drain-drained.ensures.driver))
    (so_undrained (handed_in c.submit-handed.result false _ _ (sym (ap is_err c.in-Ok.is)) is.readings is.time is.parks is.submits is.faults is.sure) (c.in-Err-drained.ensures.told _ _ going going (refl, refl)))

pub returns-in-Ok-true-clause-told : goal.returns-in-Ok-true-clause-told
returns-in-Ok-true-clause-told g c = so_fails (telling_more (λ x e. e ∙ ap after_call c.in-Ok-true.field-0-test) c.in-Ok-true.ensures.told)

pub returns-in-Ok-false-clause-told : goal.returns-in-Ok-false-clause-told
returns-in-Ok-false-clause-told g c = so_done (telling_more (λ x e. e ∙ ap after_call c.in-Ok-false.field-0-test) c.in-Ok-false.ensures.told)

pub returns-in-Err-wait-clause-told : goal.returns-in-Err-wait-clause-told
returns-in-Err-wait-clause-told g c = so_broken c.in-Err-wait.ensures.told

pub returns-in-Ok-drained-clause-faults : goal.returns-in-Ok-drained-clause-faults
returns-in-Ok-drained-clause-faults g c = (ap g.D.Clock.faults c.drain-drained.ensures.driver) ∙ (rw c.in-Ok.is at c.submit-handed.ensures.faults)

pub returns-in-Err-drained-clause-faults : goal.returns-in-Err-drained-clause-faults
returns-in-Err-drained-clause-faults g c = (ap g.D.Clock.faults c.drain-drained.ensures.driver) ∙ (rw c.in-Ok.is at c.submit-handed.ensures.faults)

pub returns-in-Err-clause-faults : goal.returns-in-Err-clause-faults
returns-in-Err-clause-faults g c = risen_before _ _ _ (rw c.in-Err.is at c.submit-handed.ensures.faults).1 (ap g.D.Clock.faults c.drain-drained.ensures.driver)

pub returns-in-Err-wait-clause-faults : goal.returns-in-Err-wait-clause-faults
returns-in-Err-wait-clause-faults g c = c.in-Err-wait.ensures.faults

pub returns-in-Ok-true-clause-faults : goal.returns-in-Ok-true-clause-faults
returns-in-Ok-true-clause-faults g c = subst (λ b. RisesIf b (g.D.Clock.faults c.args.self.now.driver) (g.D.Clock.faults c.wait.new.self.driver)) c.in-Ok-true.field-0-test c.in-Ok-true.ensures.faults

pub returns-in-Ok-false-clause-faults : goal.returns-in-Ok-false-clause-faults
returns-in-Ok-false-clause-faults g c = subst (λ b. RisesIf b (g.D.Clock.faults c.args.self.now.driver) (g.D.Clock.faults c.wait.new.self.driver)) c.in-Ok-false.field-0-test c.in-Ok-false.ensures.faults

pub returns-in-Ok-drained-clause-idle : goal.returns-in-Ok-drained-clause-idle
returns-in-Ok-drained-clause-idle g c =
    let idle = c.drain-drained.ensures.idle in
    record { has_timers = idle.has_timers; turn = idle.turn; turns = idle.turns; adds = idle.adds; futures = idle.futures; shared = idle.shared; full = idle.full; held = idle.held; closes = idle.closes }

pub returns-in-Err-clause-idle : goal.returns-in-Err-clause-idle
returns-in-Err-clause-idle g c =
    let idle = c.drain-drained.ensures.idle in
    record { has_timers = idle.has_timers; turn = idle.turn; turns = idle.turns; adds = idle.adds; futures = idle.futures; shared = idle.shared; full = idle.full; held = idle.held; closes = idle.closes }

pub returns-in-Err-drained-clause-idle : goal.returns-in-Err-drained-clause-idle
returns-in-Err-drained-clause-idle g c =
    let idle = c.drain-drained.ensures.idle in
    record { has_timers = idle.has_timers; turn = idle.turn; turns = idle.turns; adds = idle.adds; futures = idle.futures; shared = idle.shared; full = idle.full; held = idle.held; closes = idle.closes }

pub returns-in-Err-wait-clause-idle : goal.returns-in-Err-wait-clause-idle
returns-in-Err-wait-clause-idle g c = c.wait.ensures.idle

pub returns-in-Ok-true-clause-idle : goal.returns-in-Ok-true-clause-idle
returns-in-Ok-true-clause-idle g c = c.wait.ensures.idle

pub returns-in-Ok-false-clause-idle : goal.returns-in-Ok-false-clause-idle
returns-in-Ok-false-clause-idle g c = c.wait.ensures.idle
