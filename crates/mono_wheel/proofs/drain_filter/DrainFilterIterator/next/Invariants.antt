-- What the loop of `next` keeps, and why it ends.
use Rattle.std.proofs.Common.{length}
use Rattle.mono_wheel.specs.Drains.{left_of}
use Rattle.mono_wheel.proofs.DrainLemmas.{Going}
use Rattle.mono_wheel.proofs.drain_filter.DrainFilterIterator.next.Given as goal

abbrev pub invariant-loop-self : goal.invariant-loop-self
invariant-loop-self g l = Going (goal.F-step g) l.initial.self l.self × goal.F-IsAlwaysCallable g l.self.choose

abbrev pub decreases-loop-self : goal.decreases-loop-self
decreases-loop-self g l = length (left_of l.self)
