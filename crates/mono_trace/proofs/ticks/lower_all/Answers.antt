use Rattle.std.proofs.Common.{subst, [], ◌≡◌, rules}
use Rattle.mono_trace.specs.TickCounts.{AreCounts, all_more, one_more}
use Rattle.mono_trace.proofs.TickCountLemmas.{alike, put_last, none_taken}
use Rattle.mono_trace.proofs.ticks.lower_all.Goals as goal

pub loop-tick-preserved : goal.loop-tick-preserved
loop-tick-preserved c = λ f start.
    let taken = c.pop.new.self.items in
    let tick = c.in-Some.tick in
    c.lower.ensures (all_more f taken)
    (alike _ (one_more (all_more f taken) tick) c.loop-tick.counts (put_last f taken tick)
    (subst (λ xs. AreCounts (all_more f xs) c.loop-tick.counts) c.in-Some.ensures.items (c.loop-tick.invariant f start)))

pub returns-clause-counts : goal.returns-clause-counts
returns-clause-counts c = λ f start.
    let none : c.loop-tick.taken.items ≡ [] = search rules in
    none_taken f c.loop-tick.taken.items c.loop-tick.counts none (c.loop-tick.invariant f start)
