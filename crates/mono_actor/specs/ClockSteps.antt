-- The queueing of one actor after another whose wait has come.
use Rattle.std.specs.Prelude.{◌≡◌, ◌++◌, ℕ, List, sum_by, Option, Some, None}
use Rattle.mono_model.specs.Table.{value_at}
use Rattle.mono_model.specs.Due.{HasCome, Ascends, ListsDue}
use Rattle.mono_actor.specs.Actors.{Actor, Actors}
use Rattle.mono_actor.specs.Steps.{waiting_value, queued_value, all_queued}

-- The number of actors that wait for a tick.
abbrev pub one_if_any : Option ℕ → ℕ
one_if_any None = 0
one_if_any (Some tick) = 1

module _ {M : Type 0} where
  abbrev pub one_if_waits : Option (Actor M) → ℕ
  one_if_waits actor = one_if_any (waiting_value actor)

  abbrev pub waiting_count : Actors M → ℕ
  waiting_count actors = sum_by one_if_waits actors.table

  -- No actor's wait has come.
  abbrev pub IsNoneDue : Actors M → Type 0
  IsNoneDue actors = (a : ℕ) → HasCome actors.greatest (waiting_value (value_at actors.table a)) → ⊥

  -- The actor with the earliest tick that has come is queued.
  pub record RingsFirst (old new : Actors M) (a : ℕ) : Type 0 where
    pub is_due : HasCome old.greatest (waiting_value (value_at old.table a))
    pub first : (other : ℕ) → Ascends (waiting_value (value_at old.table a)) (waiting_value (value_at old.table other))
    pub queued : new ≡ queued_value (value_at old.table a) old a

  -- All actors whose wait has come are listed, and queued in that order.
  pub record RingsAll (old : Actors M) (items with_due : List ℕ) (new : Actors M) : Type 0 where
    pub due : List ℕ
    pub appended : with_due ≡ items ++ due
    pub lists : ListsDue waiting_value old.table old.greatest due
    pub queued : new ≡ all_queued old due
