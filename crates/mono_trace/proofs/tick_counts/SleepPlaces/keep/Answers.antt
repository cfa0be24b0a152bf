use Rattle.std.proofs.Common.{subst, sym}
use Rattle.mono_trace.specs.TickCounts.{AreTicks, armed_count}
use Rattle.mono_trace.proofs.tick_counts.SleepPlaces.keep.Goals as goal

pub invariant_of-self : goal.invariant_of-self
invariant_of-self c =
    let places = c.self.inside.places in
    subst (λ m. AreTicks (armed_count m.now) (armed_count m.before) c.keep-2.new.self) (sym c.keep.ensures)
    (c.keep-2.ensures (armed_count places.now) (armed_count places.before) c.self.invariant)
