use Rattle.std.proofs.Common.{ap, ◌∙◌, subst}
use Rattle.mono_replay.specs.PartRefinement.{Matches}
use Rattle.mono_machine.specs.Turns.{turn_report, after_turn}
use Rattle.mono_machine.specs.declared.events.Report.TheVariants.{Reply}
use Rattle.mono_replay.proofs.MatchLemmas.{act_done, turn_done, clock_done, remote_done, drain_done}
use Rattle.mono_time.specs.Timers.{registered_of}
use Rattle.mono_time.specs.Registrations.{registered_by_turn}
use Rattle.mono_time.proofs.SleepTableLemmas.{none_armed}
use Rattle.mono_replay.proofs.executor.Exec.apply_reusing.Goals as goal

pub returns-in_ok-reply-in-Act-clause-step : goal.returns-in_ok-reply-in-Act-clause-step
returns-in_ok-reply-in-Act-clause-step c = λ m st.
    rw c.in-Act.is (act_done _ m c.in-Act.act _ st.valid (ap Reply (c.in_ok-reply-in-Act.ensures.reply m st.matches)) (c.in_ok-reply-in-Act.ensures.matches m st.matches))

pub returns-in_ok-report-in-Turn-clause-step : goal.returns-in_ok-report-in-Turn-clause-step
returns-in_ok-report-in-Turn-clause-step c = λ m st.
    let end = c.in-Turn.end in
    rw c.in-Turn.is (turn_done _ m c.in-Turn.steps end _ st.valid
    (c.in_ok-report-in-Turn.ensures.report m st.matches st.valid ∙ ap (λ xs. turn_report xs end m) c.as_slice.ensures)
    (subst (λ xs. Matches c.turn.new.self (after_turn xs end m)) c.as_slice.ensures (c.in_ok-report-in-Turn.ensures.matches m st.matches st.valid)))

pub returns-in_ok-report-in-Clock-clause-step : goal.returns-in_ok-report-in-Clock-clause-step
returns-in_ok-report-in-Clock-clause-step c = λ m st. rw c.in-Clock.is (clock_done _ m c.in-Clock.n _ st.valid (c.in_ok-report-in-Clock.ensures.steps m st.matches))

pub returns-in-Remote-clause-step : goal.returns-in-Remote-clause-step
returns-in-Remote-clause-step c = λ m st. rw c.in-Remote.is (remote_done _ m c.in-Remote.t _ st.valid (c.remote.ensures.report m st.matches) (c.remote.ensures.matches m st.matches))

pub returns-in_ok-report-in-Drain-clause-step : goal.returns-in_ok-report-in-Drain-clause-step
returns-in_ok-report-in-Drain-clause-step c = λ m st. rw c.in-Drain.is (drain_done _ m _ st.valid (c.in_ok-report-in-Drain.ensures.report m st.matches) (c.in_ok-report-in-Drain.ensures.matches m st.matches))

pub returns-in_ok-reply-in-Act-clause-registered : goal.returns-in_ok-reply-in-Act-clause-registered
returns-in_ok-reply-in-Act-clause-registered c = λ m st.
    rw c.in-Act.is (c.in_ok-reply-in-Act.ensures.registered m st.matches (none_armed c.args.self.now.parts.timers _ m.sleeps st.matches.sleeps.keeps.stands st.valid.sleeps))

pub returns-in_ok-report-in-Turn-clause-registered : goal.returns-in_ok-report-in-Turn-clause-registered
returns-in_ok-report-in-Turn-clause-registered c = λ m st s.
    rw c.in-Turn.is (c.in_ok-report-in-Turn.ensures.registered m st.matches st.valid s
    ∙ ap (λ xs. registered_by_turn m.tasks.queue xs m s (registered_of c.args.self.now.parts.timers s)) c.as_slice.ensures)

pub returns-in_ok-report-in-Clock-clause-registered : goal.returns-in_ok-report-in-Clock-clause-registered
returns-in_ok-report-in-Clock-clause-registered c = λ m st s. rw c.in-Clock.is (c.in_ok-report-in-Clock.ensures.registered m st.matches s)

pub returns-in-Remote-clause-registered : goal.returns-in-Remote-clause-registered
returns-in-Remote-clause-registered c = λ m st s. rw c.in-Remote.is (ap (λ t. registered_of t s) c.remote.ensures.timers)

pub returns-in_ok-report-in-Drain-clause-registered : goal.returns-in_ok-report-in-Drain-clause-registered
returns-in_ok-report-in-Drain-clause-registered c = λ m st s. rw c.in-Drain.is (ap (λ t. registered_of t s) c.in_ok-report-in-Drain.ensures.timers)
