use Rattle.mono_time.specs.Sleeps.{IsNoneArmedUpTo}
use Rattle.mono_time.specs.Timers.{sleeps_of}
use Rattle.example_parts.proofs.deadlines.Sessions.expire_all.Given as goal

abbrev pub ghosts-take_due : goal.ghosts-take_due
ghosts-take_due a = record { name = a.blank.name; parts = a.blank.parts }

abbrev pub invariant-loop-session : goal.invariant-loop-session
invariant-loop-session l = IsNoneArmedUpTo (sleeps_of l.self.timers)
