use Rattle.std.proofs.Common.{Ok}
use Rattle.mono_rt.specs.Journals.{Does}
use Rattle.mono_rt.specs.Rounds.{Rounds}
use Rattle.mono_rt.specs.Progress.{Proceeds}
use Rattle.mono_rt.proofs.runtimes.Runtime.run.Given as goal

-- the steps so far are rounds
abbrev pub invariant-loop-units : goal.invariant-loop-units
invariant-loop-units g l = Does g.O.Outcome.output_number (Rounds l.fn.self.cx.parts.has_timers l.main l.turns l.units) l.fn.self.cx.parts l.self.cx.parts l.fn.self.journal l.self.journal
    × Proceeds g.O.Outcome.output_number g.W.SharedState g.D.Clock g.F.TaskFuture (Ok tt) l.fn.self l.self

-- each pass spends a unit
abbrev pub decreases-loop-units : goal.decreases-loop-units
decreases-loop-units g l = l.units
