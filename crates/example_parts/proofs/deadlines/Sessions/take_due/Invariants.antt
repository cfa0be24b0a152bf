use Rattle.std.proofs.Common.{ℕ}
use Rattle.mono_time.specs.Sleeps.{armed_count}
use Rattle.mono_time.specs.Timers.{sleeps_of}
use Rattle.example_parts.proofs.deadlines.Sessions.take_due.Given as goal

abbrev pub decreases-loop-session : goal.decreases-loop-session
decreases-loop-session g l = armed_count (sleeps_of l.self.timers)
