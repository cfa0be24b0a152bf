use Rattle.std.proofs.Common.{ℕ, vec_len}
use Rattle.mono_trace.specs.TickCounts.{all_more, AreCounts}
use Rattle.mono_trace.proofs.ticks.lower_all.Given as goal

abbrev pub invariant-loop-tick : goal.invariant-loop-tick
invariant-loop-tick l = (f : ℕ → ℕ) → AreCounts (all_more f l.initial.taken.items) l.initial.counts → AreCounts (all_more f l.taken.items) l.counts

abbrev pub decreases-loop-tick : goal.decreases-loop-tick
decreases-loop-tick l = vec_len l.taken
