use Rattle.mono_model.specs.Ticks.{up}
use Rattle.mono_time.specs.Instants.{nanos_of}
use Rattle.mono_time.specs.Timers.{sleeps_of}
use Rattle.mono_session.proofs.SessionSleepLemmas.{arms}
use Rattle.mono_session.proofs.deadlines.add_armed.Goals as goal

pub returns-clause-armed : goal.returns-clause-armed
returns-clause-armed c =
    let added = c.in_ok-sleep.ensures.added in
    arms (sleeps_of c.args.timers.now) (sleeps_of c.add.new.self) (sleeps_of c.reset.new.self) (up (nanos_of c.args.deadline)) c.in_ok-sleep.sleep added.1 added.2 added.3 c.reset.ensures.sleeps
