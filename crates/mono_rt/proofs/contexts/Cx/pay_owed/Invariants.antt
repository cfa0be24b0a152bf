use Rattle.std.proofs.Common.{length}
use Rattle.mono_rt.specs.Payments.{Paying}
use Rattle.mono_rt.proofs.contexts.Cx.pay_owed.Given as goal

abbrev pub invariant-loop-task : goal.invariant-loop-task
invariant-loop-task g l = Paying g.O.Outcome.output_number g.W.SharedState l.fn.self l.self

-- each pass takes one task of those that are owed
abbrev pub decreases-loop-task : goal.decreases-loop-task
decreases-loop-task g l = length (g.W.SharedState.owes l.self.shared)
