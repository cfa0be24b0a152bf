use Rattle.std.proofs.Common.{◌∙◌, sym}
use Rattle.mono_model.specs.SleepActs as sleep
use Rattle.mono_time.specs.Instants.{nanos_of}
use Rattle.mono_time.specs.Sleeps.{with_reset_sleep}
use Rattle.mono_time.specs.Timers.{sleeps_of}
use Rattle.mono_replay.proofs.TimersLemmas.{rests, reset_took}
use Rattle.mono_time.proofs.SleepTableLemmas.{alike_reset}
use Rattle.mono_time.proofs.RegistrationLemmas.{registered-reset-act}
use Rattle.mono_replay.proofs.parts.Parts.reset.Goals as goal

pub returns-in-Ok-reset-clause-matches : goal.returns-in-Ok-reset-clause-matches
returns-in-Ok-reset-clause-matches c = λ m st.
    let old = c.args.self.now.timers in
    let s = c.args.s in
    let now = nanos_of c.in-Some.deadline in
    let stands = c.reset.ensures.stands m.sleeps st.sleeps.keeps.stands in
    reset_took c.args.self.now m s now c.reset.new.self c.wake_if_any.new.tasks c.in-Ok-reset.waker st c.args.n c.in-Some.ensures.some c.in-Some.deadline.in_range
    (rests old c.reset.new.self m.sleeps (sleep.reset m.sleeps s now) (with_reset_sleep (sleeps_of old) s now) st.sleeps c.reset.ensures.sleeps (alike_reset (sleeps_of old) s now) c.reset.ensures.elapsed stands.1)
    c.wake_if_any.ensures (sym c.in-Ok-reset.is ∙ stands.0)

pub returns-in-Err-reset-clause-registered : goal.returns-in-Err-reset-clause-registered
returns-in-Err-reset-clause-registered c = λ m st none.
    registered-reset-act c.args.self.now.timers c.reset.new.self m c.args.s c.args.n (nanos_of c.in-Some.deadline) c.in-Some.ensures.some c.in-Some.deadline.in_range st.sleeps.keeps.stands (c.reset.ensures.registered none)

pub returns-in-Ok-reset-clause-registered : goal.returns-in-Ok-reset-clause-registered
returns-in-Ok-reset-clause-registered c = λ m st none.
    registered-reset-act c.args.self.now.timers c.reset.new.self m c.args.s c.args.n (nanos_of c.in-Some.deadline) c.in-Some.ensures.some c.in-Some.deadline.in_range st.sleeps.keeps.stands (c.reset.ensures.registered none)
