use Rattle.std.proofs.Common.{◌≤◌, refl, sym, subst, [], ◌∷◌}
use Rattle.mono_model.specs.Ticks.{max_nanos}
use Rattle.mono_rt.specs.Journals.{IsReading}
use Rattle.mono_rt.specs.declared.parts.journals.Entry.TheVariants.{Now}
use Rattle.mono_rt.proofs.JournalLemmas.{goes_of, goes_nowhere, does_stay, does_past}
use Rattle.mono_rt.proofs.RoundLemmas.{stay_on}
use Rattle.mono_rt.specs.DriverReadings.{going}
use Rattle.mono_rt.proofs.DriverLemmas.{tells_nothing, tells_one, telling_on, read_at}
use Rattle.mono_time.specs.Instants.{nanos_of}
use Rattle.std.proofs.Common.{ap}
use Rattle.mono_rt.specs.Journals.{ReadsAt}
use Rattle.mono_rt.proofs.parts.turns.Parts+O+Blockings+P.open_turn.Goals as goal

pub returns-in-Ok-begin-clause-reading : goal.returns-in-Ok-begin-clause-reading
returns-in-Ok-begin-clause-reading g c =
    let number = g.O.Outcome.output_number in
    let parts = c.args.self.now in
    let opened = record parts { acts = c.begin.new.self } in
    let n = c.as_nanos.result in
    stay_on number IsReading parts opened opened c.args.journal.now c.reserve.new.self c.push.new.self
    (does_stay number parts opened c.args.journal.now c.reserve.new.self refl refl refl refl c.reserve.ensures.history)
    (does_past number IsReading opened c.reserve.new.self c.push.new.self (Now n ∷ []) c.push.ensures.history (λ m. refl) (λ m st. (refl, λ s. refl))
    (λ m st rest. (n, (refl, (refl, subst (λ x. x ≤ max_nanos) (sym c.as_nanos.ensures) c.now-now.result.in_range)))))

pub returns-in-Ok-begin-clause-goes : goal.returns-in-Ok-begin-clause-goes
returns-in-Ok-begin-clause-goes g c = goes_of g.O.Outcome.output_number IsReading c.args.self.now (record c.args.self.now { acts = c.begin.new.self }) c.args.journal.now c.push.new.self (returns-in-Ok-begin-clause-reading g c)

pub returns-in-Ok-begin-clause-place : goal.returns-in-Ok-begin-clause-place
returns-in-Ok-begin-clause-place g c = c.push.ensures.room 1 c.in-Ok.ensures.room

pub returns-in-Ok-begin-clause-told : goal.returns-in-Ok-begin-clause-told
returns-in-Ok-begin-clause-told g c =
    let read = c.now-now.ensures in
    telling_on {j = c.reserve.new.self} (tells_nothing refl refl c.reserve.ensures.history)
    (tells_one going (Now c.as_nanos.result) refl (refl, (_, (read_at c.as_nanos.result (nanos_of c.now-now.result) c.as_nanos.ensures (record { reads = read.reads; reads_time = read.reads_time; time = read.time; parks = read.parks; submits = read.submits; faults = read.faults; can_fail = read.can_fail }), (refl, refl)))) c.push.ensures.history)

pub returns-in-Err-clause-told : goal.returns-in-Err-clause-told
returns-in-Err-clause-told g c = tells_nothing refl refl c.reserve.ensures.history

pub returns-in-Err-begin-clause-told : goal.returns-in-Err-begin-clause-told
returns-in-Err-begin-clause-told g c = tells_nothing refl refl c.reserve.ensures.history

pub returns-in-Ok-begin-clause-at : goal.returns-in-Ok-begin-clause-at
returns-in-Ok-begin-clause-at g c =
    let number = g.O.Outcome.output_number in
    let parts = c.args.self.now in
    let opened = record parts { acts = c.begin.new.self } in
    let n = c.as_nanos.result in
    stay_on number (ReadsAt (nanos_of c.now-now.result)) parts opened opened c.args.journal.now c.reserve.new.self c.push.new.self
    (does_stay number parts opened c.args.journal.now c.reserve.new.self refl refl refl refl c.reserve.ensures.history)
    (does_past number (ReadsAt (nanos_of c.now-now.result)) opened c.reserve.new.self c.push.new.self (Now n ∷ []) c.push.ensures.history (λ m. refl) (λ m st. (refl, λ s. refl))
    (λ m st rest. (ap (λ x. Now x ∷ rest) c.as_nanos.ensures, refl)))

pub returns-in-Err-clause-unread : goal.returns-in-Err-clause-unread
returns-in-Err-clause-unread g c = does_stay g.O.Outcome.output_number c.args.self.now c.args.self.now c.args.journal.now c.reserve.new.self refl refl refl refl c.reserve.ensures.history

pub returns-in-Err-begin-clause-unread : goal.returns-in-Err-begin-clause-unread
returns-in-Err-begin-clause-unread g c = does_stay g.O.Outcome.output_number c.args.self.now (record c.args.self.now { acts = c.begin.new.self }) c.args.journal.now c.reserve.new.self refl refl refl refl c.reserve.ensures.history

pub returns-in-Err-clause-goes : goal.returns-in-Err-clause-goes
returns-in-Err-clause-goes g c = goes_nowhere g.O.Outcome.output_number c.args.self.now c.args.self.now c.args.journal.now c.reserve.new.self refl refl refl refl c.reserve.ensures.history

pub returns-in-Err-begin-clause-goes : goal.returns-in-Err-begin-clause-goes
returns-in-Err-begin-clause-goes g c = goes_nowhere g.O.Outcome.output_number c.args.self.now (record c.args.self.now { acts = c.begin.new.self }) c.args.journal.now c.reserve.new.self refl refl refl refl c.reserve.ensures.history
