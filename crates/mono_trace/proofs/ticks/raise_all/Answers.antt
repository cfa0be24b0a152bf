use Rattle.std.proofs.Common.{subst, [], ◌≡◌, rules}
use Rattle.mono_trace.specs.TickCounts.{AreCountsBut}
use Rattle.mono_trace.proofs.TickCountLemmas.{popped, none_left}
use Rattle.mono_trace.proofs.ticks.raise_all.Goals as goal

pub loop-tick-preserved : goal.loop-tick-preserved
loop-tick-preserved c = λ f start.
    popped f c.pop.new.self.items c.in-Some.tick c.loop-tick.counts c.raise.new.counts (λ g are. c.in_ok-raise.ensures g are)
    (subst (λ xs. AreCountsBut f xs c.loop-tick.counts) c.in-Some.ensures.items (c.loop-tick.invariant f start))

pub returns-clause-counts : goal.returns-clause-counts
returns-clause-counts c = λ f start.
    let none : c.loop-tick.left.items ≡ [] = search rules in
    none_left f c.loop-tick.left.items c.loop-tick.counts none (c.loop-tick.invariant f start)
