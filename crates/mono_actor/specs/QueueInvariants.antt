-- The invariant of the queue, of the running actor, and of the counts.
use Rattle.std.specs.Prelude.{ℕ, Bool, true, false, Option, Some, None, is_some}
use Rattle.mono_model.specs.Valid.{once_if}
use Rattle.mono_actor.specs.Actors.{Mode, idle, queued, running, Actor}

abbrev pub is_queued : Mode → Bool
is_queued (idle waits_for) = false
is_queued queued = true
is_queued running = false

abbrev pub is_running : Mode → Bool
is_running (idle waits_for) = false
is_running queued = false
is_running running = true

module _ {M : Type 0} where
  abbrev pub of_actor : (Mode → Bool) → Option (Actor M) → Bool
  of_actor test None = false
  of_actor test (Some actor) = test actor.mode

  -- One for a queued actor, and for any actor.
  abbrev pub one_if_queued : Option (Actor M) → ℕ
  one_if_queued actor = once_if (of_actor is_queued actor)

  abbrev pub one_if_live : Option (Actor M) → ℕ
  one_if_live actor = once_if (is_some actor)
