use Rattle.std.proofs.Common.{◌≡◌, true, None, is_some, set}
use Rattle.mono_model.specs.Table.{value_at}
use Rattle.mono_actor.specs.Store.{places_of}
use Rattle.mono_actor.proofs.StoreLemmas.{letters_left}
use Rattle.mono_actor.proofs.store.Store.take_away.Given as goal

-- Without the actor, the store is as it was.
abbrev pub invariant-loop : goal.invariant-loop
invariant-loop g l = record {
  there : is_some (value_at (places_of l.self) l.actor) ≡ true;
  others : set (places_of l.self) l.actor None ≡ set (places_of l.fn.self) l.actor None;
}

abbrev pub decreases-loop : goal.decreases-loop
decreases-loop g l = letters_left (value_at (places_of l.self) l.actor)
