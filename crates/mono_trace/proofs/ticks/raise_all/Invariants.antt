use Rattle.std.proofs.Common.{ℕ, vec_len}
use Rattle.mono_trace.specs.TickCounts.{AreCountsBut}
use Rattle.mono_trace.proofs.ticks.raise_all.Given as goal

abbrev pub invariant-loop-tick : goal.invariant-loop-tick
invariant-loop-tick l = (f : ℕ → ℕ) → AreCountsBut f l.initial.left.items l.initial.counts → AreCountsBut f l.left.items l.counts

abbrev pub decreases-loop-tick : goal.decreases-loop-tick
decreases-loop-tick l = vec_len l.left
