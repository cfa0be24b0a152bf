-- That the futures of a runtime can be polled, and with them those that a turn spawns.
use Rattle.std.specs.Prelude.{◌≡◌, ◌≤◌, ℕ, false, List, length, Option, Some}
use Rattle.mono_model.specs.Table.{value_at}
use Rattle.mono_model.specs.declared.poll.Poll.{Poll}
use Rattle.mono_model.specs.declared.poll.Poll.TheVariants.{Ready}
use Rattle.mono_task.specs.Members.{FutureOf}
use Rattle.mono_rt.specs.Reaches.{IsAligned}
use Rattle.mono_rt.specs.declared.contexts.Cx.{Cx}

module _ {F : Type 0} (can_poll : F → Type 0) where
  -- Each future of the table can be polled.
  abbrev pub EachCanPoll : List (Option F) → Type 0
  EachCanPoll futures = (t : ℕ) (f : F) → value_at futures t ≡ Some f → can_poll f

  -- Each future at a number that the old table had not given out can be polled.
  abbrev pub AddsPollable : List (Option F) → List (Option F) → Type 0
  AddsPollable old new = (t : ℕ) (f : F) → length old ≤ t → value_at new t ≡ Some f → can_poll f

module _ {F O P U W J A V : Type 0} (future : FutureOf F (Cx F O P U W J A V) O) where
  -- Each future that a turn spawns can be polled. If `is_aligned` holds, each future has its task's number in the contexts
  -- of that turn.
  pub record SpawnsPollable (is_aligned : Type 0) : Type 0 where
    -- what a poll spawns
    pub polls : (f g : F) (answer : Poll O) (c d : Cx F O P U W J A V) → (is_aligned → IsAligned c) → (is_aligned → IsAligned d) → future.is_spent f ≡ false → future.can_poll f → future.polls f c answer g d
        → AddsPollable future.can_poll c.futures.items d.futures.items
    -- what the cancel of a future that has answered spawns
    pub cancels : (f g : F) (output : O) (c d e : Cx F O P U W J A V) → (is_aligned → IsAligned d) → (is_aligned → IsAligned e) → future.can_poll f → future.polls f c (Ready output) g d → future.cancels g d e
        → AddsPollable future.can_poll d.futures.items e.futures.items

  -- Each future in the table can be polled, and so can each that a turn spawns from here on.
  pub record CanTurn (start : Cx F O P U W J A V) : Type 0 where
    pub table : EachCanPoll future.can_poll start.futures.items
    pub spawns : SpawnsPollable (IsAligned start)
