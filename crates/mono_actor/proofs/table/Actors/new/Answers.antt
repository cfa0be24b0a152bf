use Rattle.mono_actor.proofs.SpawnLemmas.{none-hold}
use Rattle.mono_actor.proofs.table.Actors.new.Goals as goal

pub invariant_of-result : goal.invariant_of-result
invariant_of-result g c = record { holds = rw (c.new-2.ensures, c.new-3.ensures.items) (none-hold c.in_ok-timers.timers _ c.new-3.ensures.seats c.in_ok-timers.ensures.elapsed c.in_ok-timers.ensures.none c.in_ok-timers.ensures.free) }
