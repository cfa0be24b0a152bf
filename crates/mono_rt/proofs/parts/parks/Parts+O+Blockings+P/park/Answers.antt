use Rattle.mono_model.specs.Ticks.{max_nanos}
use Rattle.std.proofs.Common.{◌≤◌, ℕ, Some, None, Option, refl, [], ◌∷◌, sym, subst}
use Rattle.std.specs.Prelude.{IfSome}
use Rattle.mono_time.specs.Instants.{nanos_of}
use Rattle.mono_time.specs.Timers.{registered_of}
use Rattle.mono_machine.specs.Machine.{Machine}
use Rattle.mono_rt.specs.Refinement.{hosting_of, Matches}
use Rattle.mono_rt.specs.Journals.{WaitsForNext}
use Rattle.mono_rt.proofs.RegistrationLemmas.{parked_registers}
use Rattle.mono_rt.specs.Rounds.{IsPark, IsWait}
use Rattle.mono_rt.specs.declared.parts.journals.Entry.TheVariants.{Now, Park}
use Rattle.mono_rt.proofs.FaultLemmas.{rises_after}
use Rattle.mono_rt.proofs.JournalLemmas.{goes_of, does_stay, does_past, goes_nowhere}
use Rattle.mono_rt.proofs.RoundLemmas.{stay_on, two_pushed}
use Rattle.mono_rt.specs.DriverReadings.{going, after_park}
use Rattle.mono_rt.proofs.DriverLemmas.{tells_nothing, tells_one, telling_on, read_at}
use Rattle.mono_rt.proofs.parts.parks.Parts+O+Blockings+P.park.Goals as goal

pub push-requires-in-Ok : goal.push-requires-in-Ok
push-requires-in-Ok g c = c.push.ensures.room 1 c.in-Ok.ensures.room

pub returns-in-Ok-clause-parked : goal.returns-in-Ok-clause-parked
returns-in-Ok-clause-parked g c =
    let number = g.O.Outcome.output_number in
    let parts = c.args.self.now in
    let opened = c.reserve.new.self in
    let n = c.as_nanos.result in
    let wait = c.wait_from-wait.result in
    let last = c.push-in-Ok.new.self in
    stay_on number (IsPark parts.has_timers) parts parts parts c.args.journal.now opened last
    (does_stay number parts parts c.args.journal.now opened refl refl refl refl c.reserve.ensures.history)
    (does_past number (IsPark parts.has_timers) parts opened last (Now n ∷ Park wait ∷ []) (two_pushed opened c.push.new.self last (Now n) (Park wait) c.push.ensures.history c.push-in-Ok.ensures.history)
    (λ m. refl) (λ m st. parked_registers n wait m (registered_of parts.timers) (by_reading m st wait c.wait_from-wait.ensures.next))
    (λ m st rest. (n, (wait, (subst (λ x. IsWait parts.has_timers m x wait) (sym c.as_nanos.ensures) (c.wait_from-wait.ensures.wait m st), (refl, (refl, subst (λ x. x ≤ max_nanos) (sym c.as_nanos.ensures) c.now-now.result.in_range)))))))
  where
    by_reading : (m : Machine) → Matches g.O.Outcome.output_number hosting_of c.args.self.now m → (wait : Option ℕ)
        → IfSome wait (λ v. (x : Machine) → Matches g.O.Outcome.output_number hosting_of c.args.self.now x → WaitsForNext x (registered_of c.args.self.now.timers) (Some (nanos_of c.now-now.result)) v)
        → IfSome wait (WaitsForNext m (registered_of c.args.self.now.timers) (Some c.as_nanos.result))
    by_reading m st None is = tt
    by_reading m st (Some v) is = subst (λ n. WaitsForNext m (registered_of c.args.self.now.timers) (Some n) v) (sym c.as_nanos.ensures) (is m st)

pub returns-in-Ok-clause-goes : goal.returns-in-Ok-clause-goes
returns-in-Ok-clause-goes g c = goes_of g.O.Outcome.output_number (IsPark c.args.self.now.has_timers) c.args.self.now c.args.self.now c.args.journal.now c.push-in-Ok.new.self (returns-in-Ok-clause-parked g c)

pub returns-in-Ok-clause-told : goal.returns-in-Ok-clause-told
returns-in-Ok-clause-told g c =
    let read = c.now-now.ensures in
    let failed = c.park_driver-failed.result in
    telling_on {j = c.reserve.new.self} (tells_nothing refl refl c.reserve.ensures.history)
    (telling_on {j = c.push.new.self} (tells_one going (Now c.as_nanos.result) refl (refl, (_, (read_at c.as_nanos.result (nanos_of c.now-now.result) c.as_nanos.ensures (record { reads = read.reads; reads_time = read.reads_time; time = read.time; parks = read.parks; submits = read.submits; faults = read.faults; can_fail = read.can_fail }), (refl, refl)))) c.push.ensures.history)
    (tells_one (after_park failed) (Park c.wait_from-wait.result) refl (refl, (_, (failed, (c.park_driver-failed.ensures.parked, (refl, refl))))) c.push-in-Ok.ensures.history))

pub returns-in-Err-clause-told : goal.returns-in-Err-clause-told
returns-in-Err-clause-told g c = tells_nothing refl refl c.reserve.ensures.history

pub returns-in-Err-clause-refused : goal.returns-in-Err-clause-refused
returns-in-Err-clause-refused g c = does_stay g.O.Outcome.output_number c.args.self.now c.args.self.now c.args.journal.now c.reserve.new.self refl refl refl refl c.reserve.ensures.history

pub returns-in-Err-clause-goes : goal.returns-in-Err-clause-goes
returns-in-Err-clause-goes g c = goes_nowhere g.O.Outcome.output_number c.args.self.now c.args.self.now c.args.journal.now c.reserve.new.self refl refl refl refl c.reserve.ensures.history

pub returns-in-Ok-clause-faults : goal.returns-in-Ok-clause-faults
returns-in-Ok-clause-faults g c = rises_after c.park_driver-failed.result _ _ _ c.now-now.ensures.faults c.park_driver-failed.ensures.faults
