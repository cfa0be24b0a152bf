use Rattle.std.proofs.Common.{◌≡◌, ℕ, refl, ap, sym, ◌∙◌, subst, Ok}
use Rattle.std.specs.Prelude.{Result, Err}
use Rattle.mono_model.specs.Sleeps.{Sleeps}
use Rattle.mono_model.specs.SleepActs.{Adds}
use Rattle.mono_time.specs.Instants.{nanos_of}
use Rattle.mono_time.specs.Sleeps.{Added}
use Rattle.mono_time.specs.Refinement.{StandsForSleeps}
use Rattle.mono_time.specs.Timers.{sleeps_of}
use Rattle.mono_model.specs.declared.error.Error.TheVariants.{AtCapacity, Shutdown}
use Rattle.mono_model.specs.declared.error.SleepError.{SleepError}
use Rattle.mono_model.specs.declared.error.SleepError.TheVariants.{Memory, Timer}
use Rattle.mono_model.specs.Ticks.{up}
use Rattle.mono_model.specs.SleepActs as sleep
use Rattle.mono_time.specs.Sleeps.{with_added_sleep}
use Rattle.mono_time.proofs.RestLemmas.{rests-added}
use Rattle.mono_machine.specs.declared.events.Reply.TheVariants as reply
use Rattle.mono_time.proofs.SleepTableLemmas.{alike_added}
use Rattle.mono_time.proofs.RegistrationLemmas.{added-follows, sleeps-stay}
use Rattle.mono_rt.proofs.CallLemmas.{by_no_sleep, by_sleeps, added_at, refused_at}
use Rattle.mono_rt.proofs.parts.state.Parts.add_sleep.Goals as goal

abbrev failed : SleepError → Result ℕ SleepError
failed e = Err e

pub returns-in-Err-Memory-clause-leads : goal.returns-in-Err-Memory-clause-leads
returns-in-Err-Memory-clause-leads g c = λ hosting.
    let old = c.args.self.now.timers in
    let new = c.add.new.self in
    let n = nanos_of c.args.deadline in
    let is : c.add.result ≡ Err Memory = c.in-Err-Memory.is ∙ ap failed c.in-Err-Memory.field-0-is in
    let added : Added (sleeps_of old) n (Err Memory) (sleeps_of new) = subst (λ r. Added (sleeps_of old) n r (sleeps_of new)) is c.add.ensures.added in
    let stands : (m : Sleeps) → StandsForSleeps old m → Adds (sleeps_of old).is_enabled m n (Err Memory) (StandsForSleeps new) = λ m st. subst (λ r. Adds (sleeps_of old).is_enabled m n r (StandsForSleeps new)) is (c.add.ensures.stands m st) in
    by_no_sleep g.O.Outcome.output_number hosting c.args.self.now new _ added.2 c.add.ensures.elapsed (λ m st. (stands m st).2) c.add.ensures.registered (λ h. refl)

pub returns-in-Err-Timer-Shutdown-clause-leads : goal.returns-in-Err-Timer-Shutdown-clause-leads
returns-in-Err-Timer-Shutdown-clause-leads g c = λ hosting.
    let old = c.args.self.now.timers in
    let new = c.add.new.self in
    let n = nanos_of c.args.deadline in
    let is : c.add.result ≡ Err (Timer Shutdown) = c.in-Err-Timer-Shutdown.is ∙ ap failed (c.in-Err-Timer-Shutdown.field-0-is ∙ ap Timer c.in-Err-Timer-Shutdown.field-0-0-is) in
    let added : Added (sleeps_of old) n (Err (Timer Shutdown)) (sleeps_of new) = subst (λ r. Added (sleeps_of old) n r (sleeps_of new)) is c.add.ensures.added in
    let stands : (m : Sleeps) → StandsForSleeps old m → Adds (sleeps_of old).is_enabled m n (Err (Timer Shutdown)) (StandsForSleeps new) = λ m st. subst (λ r. Adds (sleeps_of old).is_enabled m n r (StandsForSleeps new)) is (c.add.ensures.stands m st) in
    by_no_sleep g.O.Outcome.output_number hosting c.args.self.now new _ added.1 c.add.ensures.elapsed (λ m st. (stands m st).1) c.add.ensures.registered (λ h. h)

pub returns-in-Ok-clause-leads : goal.returns-in-Ok-clause-leads
returns-in-Ok-clause-leads g c = λ hosting.
    let number = g.O.Outcome.output_number in
    let old = c.args.self.now in
    let n = nanos_of c.args.deadline in
    let stands : (m : Sleeps) → StandsForSleeps old.timers m → Adds (sleeps_of old.timers).is_enabled m n (Ok c.in-Ok.s) (StandsForSleeps c.add.new.self) = c.in-Ok.ensures.stands in
    by_sleeps number hosting old _ _ _ _ (with_added_sleep (sleeps_of old.timers) (up n)) (λ x. sleep.added x n) c.note.ensures
    (λ m st. ap (λ o. o.machine) (added_at m c.as_nanos.result n c.as_nanos.ensures c.args.deadline.in_range (stands m.sleeps st.sleeps).1))
    (λ m st. ap reply.Sleep (stands m.sleeps st.sleeps).2 ∙ sym (ap (λ o. o.reply) (added_at m c.as_nanos.result n c.as_nanos.ensures c.args.deadline.in_range (stands m.sleeps st.sleeps).1)))
    c.in-Ok.ensures.added.3 (alike_added (sleeps_of old.timers) (up n)) c.add.ensures.elapsed (λ m st. (stands m st).3) (rests-added (sleeps_of old.timers) (up n)) (λ m st. added-follows old.timers c.add.new.self m.sleeps n c.add.ensures.registered)

pub returns-in-Err-Timer-AtCapacity-clause-leads : goal.returns-in-Err-Timer-AtCapacity-clause-leads
returns-in-Err-Timer-AtCapacity-clause-leads g c = λ hosting.
    let number = g.O.Outcome.output_number in
    let old = c.args.self.now in
    let new = c.add.new.self in
    let n = nanos_of c.args.deadline in
    let is : c.add.result ≡ Err (Timer AtCapacity) = c.in-Err-Timer-AtCapacity.is ∙ ap failed (c.in-Err-Timer-AtCapacity.field-0-is ∙ ap Timer c.in-Err-Timer-AtCapacity.field-0-0-is) in
    let added : Added (sleeps_of old.timers) n (Err (Timer AtCapacity)) (sleeps_of new) = subst (λ r. Added (sleeps_of old.timers) n r (sleeps_of new)) is c.add.ensures.added in
    let stands : (m : Sleeps) → StandsForSleeps old.timers m → Adds (sleeps_of old.timers).is_enabled m n (Err (Timer AtCapacity)) (StandsForSleeps new) = λ m st. subst (λ r. Adds (sleeps_of old.timers).is_enabled m n r (StandsForSleeps new)) is (c.add.ensures.stands m st) in
    by_sleeps number hosting old _ _ _ _ (sleeps_of old.timers) (λ x. x) c.note-in-Err-Timer-AtCapacity.ensures
    (λ m st. ap (λ o. o.machine) (refused_at m c.as_nanos.result (stands m.sleeps st.sleeps).1))
    (λ m st. sym (ap (λ o. o.reply) (refused_at m c.as_nanos.result (stands m.sleeps st.sleeps).1)))
    added.2 (record { greatest = refl; is_enabled = refl }) c.add.ensures.elapsed (λ m st. (stands m st).2) (λ x. x) (λ m st. sleeps-stay old.timers new m.sleeps m.sleeps refl c.add.ensures.registered)
