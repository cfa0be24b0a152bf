use Rattle.std.proofs.Common.{◌∙◌, ap}
use Rattle.mono_model.specs.Joins.{joined}
use Rattle.mono_model.specs.SleepActs as sleep
use Rattle.mono_time.specs.Sleeps.{with_polled_sleep}
use Rattle.mono_time.specs.Timers.{sleeps_of}
use Rattle.mono_machine.specs.SleepCalls.{poll_reply}
use Rattle.mono_machine.proofs.FinishedSetLemmas.{alike_joined}
use Rattle.mono_replay.proofs.MatchLemmas.{changed}
use Rattle.mono_replay.proofs.TimersLemmas.{other_timers, rests}
use Rattle.mono_time.proofs.SleepTableLemmas.{alike_polled}
use Rattle.mono_time.proofs.RegistrationLemmas.{registered-polled}
use Rattle.mono_replay.proofs.parts.Parts.query.Goals as goal

pub returns-in-Sleep-clause-reply : goal.returns-in-Sleep-clause-reply
returns-in-Sleep-clause-reply c = λ m st. rw c.in-Sleep.is (c.poll_reply.ensures ∙ ap poll_reply (c.poll.ensures.stands m.sleeps st.sleeps.keeps.stands).0)

pub returns-in-Sleep-clause-matches : goal.returns-in-Sleep-clause-matches
returns-in-Sleep-clause-matches c = λ m st.
    let old = c.args.self.now.timers in
    let s = c.in-Sleep.s in
    let me = c.args.me in
    rw c.in-Sleep.is (other_timers c.args.self.now m c.poll.new.self (sleep.polled m.sleeps s me) st
    (rests old c.poll.new.self m.sleeps (sleep.polled m.sleeps s me) (with_polled_sleep (sleeps_of old) s me) st.sleeps c.poll.ensures.sleeps (alike_polled (sleeps_of old) s me) c.poll.ensures.elapsed (c.poll.ensures.stands m.sleeps st.sleeps.keeps.stands).1))

pub returns-in-Join-clause-matches : goal.returns-in-Join-clause-matches
returns-in-Join-clause-matches c = λ m st.
    rw c.in-Join.is (changed c.args.self.now m c.poll_join.new.self (λ x. joined x c.in-Join.t c.args.me) st c.poll_join.ensures.after (alike_joined m.tasks c.in-Join.t c.args.me))

pub returns-in-Sleep-clause-registered : goal.returns-in-Sleep-clause-registered
returns-in-Sleep-clause-registered c = λ m st none.
    rw c.in-Sleep.is (registered-polled c.args.self.now.timers c.poll.new.self m.sleeps st.sleeps.keeps.stands c.in-Sleep.s c.args.me c.poll.ensures.registered)
