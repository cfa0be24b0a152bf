use Rattle.std.proofs.Common.{◌≡◌, true, false, ◌∙◌, ap, sym, subst, refl}
use Rattle.mono_rt.specs.Journals.{Does}
use Rattle.mono_rt.specs.Rounds.{Parks}
use Rattle.mono_rt.proofs.RoundLemmas.{does_parks, does_clocked, park_refused, drain_refused, clock_refused, wait_whole}
use Rattle.mono_rt.specs.Rounds.{IsPark, WaitEnds}
use Rattle.mono_rt.specs.Faults.{FaultsParked}
use Rattle.mono_rt.specs.DriverReadings.{EndsWaited, after_park, after_call}
use Rattle.mono_rt.proofs.DriverLemmas.{telling_on, telling_more, drained_wait, same_told, unfailed, broken_parked, broken_waited}
use Rattle.mono_rt.proofs.FaultLemmas.{rises_before, broken_faults}
use Rattle.mono_rt.proofs.OutputLemmas.{adds_itself}
use Rattle.mono_rt.proofs.ProgressLemmas.{idles_on}
use Rattle.mono_rt.proofs.runtimes.Runtime.wait.Goals as goal

pub returns-then-not-self-clause-parks : goal.returns-then-not-self-clause-parks
returns-then-not-self-clause-parks g c =
    let number = g.O.Outcome.output_number in
    let old = c.args.self.now in
    let parked = c.park.new.journal in
    let drained = c.drain.new.self in
    let none : old.cx.parts.has_timers ≡ false = sym c.drain.ensures.idle.has_timers ∙ c.if-not-self.true in
    wait_whole number c.in-Ok.failed old.cx.parts.has_timers old.cx.parts drained.cx.parts old.journal drained.journal
    (subst (λ h. Does number (Parks h) old.cx.parts drained.cx.parts old.journal drained.journal) (sym none)
    (does_parks number old.cx.parts old.cx.parts drained.cx.parts old.journal parked drained.journal (subst (λ h. Does number (IsPark h) old.cx.parts old.cx.parts old.journal parked) none c.in-Ok.ensures.parked) c.in-Ok-drain.ensures.drained))

pub returns-in-Ok-clock_step-clause-parks : goal.returns-in-Ok-clock_step-clause-parks
returns-in-Ok-clock_step-clause-parks g c =
    let number = g.O.Outcome.output_number in
    let old = c.args.self.now in
    let parked = c.park.new.journal in
    let drained = c.drain.new.self in
    let left = c.clock_step.new.self in
    let last = c.clock_step.new.journal in
    let timers : old.cx.parts.has_timers ≡ true = sym c.drain.ensures.idle.has_timers ∙ c.if-not-self.false in
    wait_whole number c.in-Ok.failed old.cx.parts.has_timers old.cx.parts left old.journal last
    (subst (λ h. Does number (Parks h) old.cx.parts left old.journal last) (sym timers)
    (does_clocked number old.cx.parts old.cx.parts drained.cx.parts left old.journal parked drained.journal last
    (subst (λ h. Does number (IsPark h) old.cx.parts old.cx.parts old.journal parked) timers c.in-Ok.ensures.parked) c.in-Ok-drain.ensures.drained c.in-Ok-clock_step.ensures.clocked))

pub returns-in_default-clause-parks : goal.returns-in_default-clause-parks
returns-in_default-clause-parks g c =
    let old = c.args.self.now in
    park_refused g.O.Outcome.output_number old.cx.parts.has_timers old.cx.parts old.cx.parts old.journal c.park.new.journal c.in_default.ensures.refused

pub returns-in_default-drain-clause-parks : goal.returns-in_default-drain-clause-parks
returns-in_default-drain-clause-parks g c =
    let old = c.args.self.now in
    let drained = c.drain.new.self in
    subst (λ r. Does g.O.Outcome.output_number (WaitEnds old.cx.parts.has_timers r) old.cx.parts drained.cx.parts old.journal drained.journal) (sym c.out_of_memory_after.ensures)
    (drain_refused g.O.Outcome.output_number c.in-Ok.failed old.cx.parts.has_timers old.cx.parts old.cx.parts drained.cx.parts old.journal c.park.new.journal drained.journal c.in-Ok.ensures.parked c.in_default-drain.ensures.refused)

pub returns-in-Err-clause-parks : goal.returns-in-Err-clause-parks
returns-in-Err-clause-parks g c =
    let old = c.args.self.now in
    let drained = c.drain.new.self in
    subst (λ r. Does g.O.Outcome.output_number (WaitEnds old.cx.parts.has_timers r) old.cx.parts c.clock_step.new.self old.journal c.clock_step.new.journal) (sym c.out_of_memory_after-in-Err.ensures)
    (clock_refused g.O.Outcome.output_number c.in-Ok.failed old.cx.parts.has_timers old.cx.parts old.cx.parts drained.cx.parts c.clock_step.new.self old.journal c.park.new.journal drained.journal c.clock_step.new.journal
    (sym c.drain.ensures.idle.has_timers ∙ c.if-not-self.false) c.in-Ok.ensures.parked c.in-Ok-drain.ensures.drained c.in-Err.ensures.undone)

pub returns-then-not-self-clause-told : goal.returns-then-not-self-clause-told
returns-then-not-self-clause-told g c =
    let failed = c.in-Ok.failed in
    telling_on {q = after_park failed} c.in-Ok.ensures.told (c.in-Ok-drain.ensures.told _ _ (after_park failed) (after_call failed) (drained_wait failed _ _ (same_told g.D.Clock.readings g.D.Clock.time g.D.Clock.parks g.D.Clock.submits g.D.Clock.faults g.D.Clock.can_fail c.drain.ensures.driver)))

pub returns-in-Ok-clock_step-clause-told : goal.returns-in-Ok-clock_step-clause-told
returns-in-Ok-clock_step-clause-told g c =
    let failed = c.in-Ok.failed in
    telling_on {q = after_call failed} (telling_on {q = after_park failed} c.in-Ok.ensures.told (c.in-Ok-drain.ensures.told _ _ (after_park failed) (after_call failed) (drained_wait failed _ _ (same_told g.D.Clock.readings g.D.Clock.time g.D.Clock.parks g.D.Clock.submits g.D.Clock.faults g.D.Clock.can_fail c.drain.ensures.driver)))) (c.clock_step.ensures.told (after_call failed))

pub returns-in_default-clause-told : goal.returns-in_default-clause-told
returns-in_default-clause-told g c = telling_more unfailed c.in_default.ensures.told

pub returns-in_default-drain-clause-told : goal.returns-in_default-drain-clause-told
returns-in_default-drain-clause-told g c =
    let failed = c.in-Ok.failed in
    telling_more (λ x e. subst (λ r. EndsWaited r x) (sym c.out_of_memory_after.ensures) (broken_parked failed x e)) (telling_on {q = after_park failed} c.in-Ok.ensures.told (c.in_default-drain.ensures.told _ _ (after_park failed) (after_park failed) (same_told g.D.Clock.readings g.D.Clock.time g.D.Clock.parks g.D.Clock.submits g.D.Clock.faults g.D.Clock.can_fail c.drain.ensures.driver, refl)))

pub returns-in-Err-clause-told : goal.returns-in-Err-clause-told
returns-in-Err-clause-told g c =
    let failed = c.in-Ok.failed in
    telling_more (λ x e. subst (λ r. EndsWaited r x) (sym c.out_of_memory_after-in-Err.ensures) (broken_waited failed x e)) (telling_on {q = after_call failed} (telling_on {q = after_park failed} c.in-Ok.ensures.told (c.in-Ok-drain.ensures.told _ _ (after_park failed) (after_call failed) (drained_wait failed _ _ (same_told g.D.Clock.readings g.D.Clock.time g.D.Clock.parks g.D.Clock.submits g.D.Clock.faults g.D.Clock.can_fail c.drain.ensures.driver)))) (c.clock_step.ensures.told (after_call failed)))

pub returns-in_default-clause-faults : goal.returns-in_default-clause-faults
returns-in_default-clause-faults g c = c.in_default.ensures.faults

pub returns-in_default-drain-clause-faults : goal.returns-in_default-drain-clause-faults
returns-in_default-drain-clause-faults g c =
    subst (λ r. FaultsParked r (g.D.Clock.faults c.args.self.now.driver) (g.D.Clock.faults c.drain.new.self.driver)) (sym c.out_of_memory_after.ensures)
    (broken_faults c.in-Ok.failed _ _ (rises_before c.in-Ok.failed _ _ _ c.in-Ok.ensures.faults (ap g.D.Clock.faults c.drain.ensures.driver)))

pub returns-in-Err-clause-faults : goal.returns-in-Err-clause-faults
returns-in-Err-clause-faults g c =
    subst (λ r. FaultsParked r (g.D.Clock.faults c.args.self.now.driver) (g.D.Clock.faults c.clock_step.new.driver)) (sym c.out_of_memory_after-in-Err.ensures)
    (broken_faults c.in-Ok.failed _ _ (rises_before c.in-Ok.failed _ _ _ c.in-Ok.ensures.faults (c.clock_step.ensures.faults ∙ (ap g.D.Clock.faults c.drain.ensures.driver))))

pub returns-then-not-self-clause-faults : goal.returns-then-not-self-clause-faults
returns-then-not-self-clause-faults g c = rises_before c.in-Ok.failed _ _ _ c.in-Ok.ensures.faults (ap g.D.Clock.faults c.drain.ensures.driver)

pub returns-in-Ok-clock_step-clause-faults : goal.returns-in-Ok-clock_step-clause-faults
returns-in-Ok-clock_step-clause-faults g c = rises_before c.in-Ok.failed _ _ _ c.in-Ok.ensures.faults (c.clock_step.ensures.faults ∙ (ap g.D.Clock.faults c.drain.ensures.driver))

pub returns-in_default-clause-idle : goal.returns-in_default-clause-idle
returns-in_default-clause-idle g c = record { has_timers = refl; turn = refl; turns = refl; adds = adds_itself _; futures = refl; shared = refl; full = c.park.ensures.full; held = c.park.ensures.held; closes = refl }

pub returns-in_default-drain-clause-idle : goal.returns-in_default-drain-clause-idle
returns-in_default-drain-clause-idle g c =
    idles_on c.args.self.now _ c.drain.new.self (record { has_timers = refl; turn = refl; turns = refl; adds = adds_itself _; futures = refl; shared = refl; full = c.park.ensures.full; held = c.park.ensures.held; closes = refl }) c.drain.ensures.idle

pub returns-then-not-self-clause-idle : goal.returns-then-not-self-clause-idle
returns-then-not-self-clause-idle g c =
    idles_on c.args.self.now _ c.drain.new.self (record { has_timers = refl; turn = refl; turns = refl; adds = adds_itself _; futures = refl; shared = refl; full = c.park.ensures.full; held = c.park.ensures.held; closes = refl }) c.drain.ensures.idle

pub returns-in-Err-clause-idle : goal.returns-in-Err-clause-idle
returns-in-Err-clause-idle g c =
    idles_on c.args.self.now c.drain.new.self _ (idles_on c.args.self.now _ c.drain.new.self (record { has_timers = refl; turn = refl; turns = refl; adds = adds_itself _; futures = refl; shared = refl; full = c.park.ensures.full; held = c.park.ensures.held; closes = refl }) c.drain.ensures.idle) (record {
      has_timers = c.clock_step.ensures.has_timers;
      turn = c.clock_step.ensures.turn;
      turns = c.clock_step.ensures.turns;
      adds = c.clock_step.ensures.adds;
      futures = refl;
      shared = refl;
      full = c.clock_step.ensures.full;
      held = c.clock_step.ensures.held;
      closes = refl;
    })

pub returns-in-Ok-clock_step-clause-idle : goal.returns-in-Ok-clock_step-clause-idle
returns-in-Ok-clock_step-clause-idle g c =
    idles_on c.args.self.now c.drain.new.self _ (idles_on c.args.self.now _ c.drain.new.self (record { has_timers = refl; turn = refl; turns = refl; adds = adds_itself _; futures = refl; shared = refl; full = c.park.ensures.full; held = c.park.ensures.held; closes = refl }) c.drain.ensures.idle) (record {
      has_timers = c.clock_step.ensures.has_timers;
      turn = c.clock_step.ensures.turn;
      turns = c.clock_step.ensures.turns;
      adds = c.clock_step.ensures.adds;
      futures = refl;
      shared = refl;
      full = c.clock_step.ensures.full;
      held = c.clock_step.ensures.held;
      closes = refl;
    })
