use Rattle.std.proofs.Common.{◌≡◌, ◌≤◌, ◌+◌, ℕ, List, None, vec_len, vec_capacity}
use Rattle.mono_actor.specs.Actors.{Actors}
use Rattle.mono_actor.specs.ClockSteps.{RingsAll, waiting_count}
use Rattle.mono_actor.specs.Callers.{actors_of, credit_left}
use Rattle.mono_actor.proofs.table.Actors.ring_all.Given as goal

-- If the remaining part is a clock step, so is the whole.
abbrev pub invariant-loop-actor : goal.invariant-loop-actor
invariant-loop-actor g l = record {
  over : (actors_of l.self).turn ≡ None;
  room : vec_len l.due + waiting_count (actors_of l.self) ≤ vec_capacity l.due;
  capacity : vec_capacity l.due ≡ vec_capacity l.fn.due;
  steps : l.steps + credit_left l.self ≡ l.fn.steps + credit_left l.fn.self;
  so_far : (items : List ℕ) (new : Actors g.row.M.Denot) → RingsAll (actors_of l.self) l.due.items items new → RingsAll (actors_of l.fn.self) l.fn.due.items items new;
}

abbrev pub decreases-loop-actor : goal.decreases-loop-actor
decreases-loop-actor g l = waiting_count (actors_of l.self)
