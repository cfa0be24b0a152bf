use Rattle.std.proofs.Common.{◌≡◌, Ok}
use Rattle.mono_rt.specs.Journals.{Does}
use Rattle.mono_rt.specs.Rounds.{Turns}
use Rattle.mono_rt.specs.Progress.{Proceeds}
use Rattle.mono_rt.proofs.runtimes.Runtime.round.Given as goal

-- the steps so far are turns
abbrev pub invariant-loop-done : goal.invariant-loop-done
invariant-loop-done g l = Does g.O.Outcome.output_number (Turns l.done) l.initial.self.cx.parts l.self.cx.parts l.initial.self.journal l.self.journal
    × Proceeds g.O.Outcome.output_number g.W.SharedState g.D.Clock g.F.TaskFuture (Ok tt) l.initial.self l.self
    × (l.done ≡ 0 → l.self.cx.parts.tasks.tasks.queue ≡ l.initial.self.cx.parts.tasks.tasks.queue)
