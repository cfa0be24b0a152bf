-- The invariant between the places, the timers and the counts.
use Rattle.std.specs.Prelude.{◌≡◌, ◌<◌, ◌≤◌, ◌^◌, ℕ, Bool, true, List, length, map, sum_by, is_some, Option, Some, None}
use Rattle.mono_model.specs.Table.{value_at}
use Rattle.mono_model.specs.Valid.{times, once_if}
use Rattle.mono_actor.specs.Actors.{letters_of}
use Rattle.mono_actor.specs.Steps.{waiting_in}
use Rattle.mono_actor.specs.QueueInvariants.{is_queued, is_running, of_actor, one_if_queued, one_if_live}
use Rattle.mono_actor.specs.Places.{mode_of, table_of, Place}
use Rattle.mono_actor.specs.Timers.{tick_at, is_known, number_at}
use Rattle.mono_actor.specs.declared.timers.Alarms.{Alarms}

module _ {M : Type 0} where
  -- The key of the actor a is given out to it, and waits for the actor's tick.
  pub record Tied (timers : Alarms) (a : ℕ) (place : Place M) : Type 0 where
    pub known : is_known timers place.timer ≡ true
    pub number : number_at timers place.timer ≡ a
    pub tick : tick_at timers place.timer ≡ waiting_in (mode_of place.mode)

  abbrev pub timer_in : Option (Place M) → Option ℕ
  timer_in None = None
  timer_in (Some place) = Some place.timer

  -- Each live actor has a key, and each key that is given out or waits is that of a live actor.
  pub record Ties (places : List (Option (Place M))) (timers : Alarms) : Type 0 where
    pub tied : (a : ℕ) (place : Place M) → value_at places a ≡ Some place → Tied timers a place
    pub owned : (key tick : ℕ) → tick_at timers key ≡ Some tick → timer_in (value_at places (number_at timers key)) ≡ Some key
    pub held : (key : ℕ) → is_known timers key ≡ true → timer_in (value_at places (number_at timers key)) ≡ Some key

  -- The queue has each queued actor once, and no other. The actor that has the turn is running.
  pub record Lines (places : List (Option (Place M))) (queue : List ℕ) (turn : Option ℕ) : Type 0 where
    pub queue_is : (a : ℕ) → times queue a ≡ once_if (of_actor is_queued (value_at (table_of places) a))
    pub turn_is : (me : ℕ) → turn ≡ Some me → of_actor is_running (value_at (table_of places) me) ≡ true

  -- The counts of the live actors, of the messages and of the queue.
  pub record Counts (places : List (Option (Place M))) (queue : List ℕ) (live letters : ℕ) : Type 0 where
    pub live_is : live ≡ sum_by one_if_live (table_of places)
    pub letters_is : letters ≡ sum_by letters_of (table_of places)
    pub listed : length queue ≡ sum_by one_if_queued (table_of places)

  -- Exactly the live actors have a seat in the queue, and the wheel's clock is not past the greatest tick.
  pub record Holds (places : List (Option (Place M))) (timers : Alarms) (queue : List ℕ) (turn : Option ℕ) (greatest live letters : ℕ) (seats : List Bool) : Type 0 where
    pub ties : Ties places timers
    pub lines : Lines places queue turn
    pub counts : Counts places queue live letters
    pub elapsed : timers.wheel.elapsed ≤ greatest
    pub below : greatest < 2 ^ 63
    pub seated : seats ≡ map is_some places
