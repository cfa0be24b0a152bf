-- The tick at which a sleep is registered in the wheel: its slot is the slot of this tick. A moved sleep is registered
-- at an earlier tick than its own, until the clock reaches the start of that slot.
use Rattle.std.specs.Prelude.{◌≡◌, ◌≢◌, ◌<◌, ◌≤◌, ◌⊎◌, ℕ, if◌then◌else◌, Option, Some, None, nat_le}
use Rattle.mono_model.specs.Table.{Table, value_at}
use Rattle.mono_wheel.specs.Start.{start, top_level}
use Rattle.mono_wheel.specs.Model.{Wheel, Timed, timed_at}
use Rattle.mono_time.specs.Sleeps.{Kept, SleepTable, fresh, armed, elapsed}

abbrev pub registered_in : Option Timed → Option ℕ
registered_in None = None
registered_in (Some timed) = Some timed.registered

abbrev pub registered_under : Wheel → Option ℕ → Option ℕ
registered_under wheel None = None
registered_under wheel (Some key) = registered_in (timed_at wheel key)

-- The registered tick of the sleep with this number, while it is armed.
abbrev pub registered_at : Wheel → Table ℕ → ℕ → Option ℕ
registered_at wheel keys s = registered_under wheel (value_at keys s)

-- This sleep alone has another registered tick, or none.
pub record RegistersOnly (old new : ℕ → Option ℕ) (s : ℕ) (tick : Option ℕ) : Type 0 where
  pub here : new s ≡ tick
  pub others : (q : ℕ) → q ≢ s → new q ≡ old q

-- The registered tick of a sleep that is armed anew: its tick.
abbrev pub anew_above : ℕ → ℕ → Option ℕ
anew_above greatest tick = if nat_le tick greatest then None else Some tick

-- The registered tick after a poll.
abbrev pub polled_registered : ℕ → Option Kept → Option ℕ → Option ℕ
polled_registered greatest None registered = registered
polled_registered greatest (Some (fresh tick)) registered = anew_above greatest tick
polled_registered greatest (Some (armed tick waker)) registered = registered
polled_registered greatest (Some elapsed) registered = registered

-- The registered tick after a reset to a tick: an armed sleep that does not become due earlier keeps its registered
-- tick.
abbrev pub reset_registered : ℕ → ℕ → Option Kept → Option ℕ → Option ℕ
reset_registered greatest tick None registered = registered
reset_registered greatest tick (Some (fresh before)) registered = anew_above greatest tick
reset_registered greatest tick (Some (armed before waker)) registered =
    if nat_le tick greatest then None else if nat_le before tick then registered else Some tick
reset_registered greatest tick (Some elapsed) registered = anew_above greatest tick

-- The registered tick after the wheel moved from one tick to another. A sleep is registered at its own tick once the
-- start of its slot was passed or reached.
abbrev pub moved_registered : ℕ → ℕ → Option Kept → Option ℕ → Option ℕ
moved_registered old new (Some (armed tick waker)) (Some registered) = Some (if nat_le (start top_level old registered) new then tick else registered)
moved_registered old new (Some (armed tick waker)) None = None
moved_registered old new (Some (fresh tick)) registered = registered
moved_registered old new (Some elapsed) registered = registered
moved_registered old new None registered = registered

-- The registered tick after a whole clock step: a due sleep has fired and has none.
abbrev pub stepped_registered : ℕ → ℕ → Option Kept → Option ℕ → Option ℕ
stepped_registered old new None registered = registered
stepped_registered old new (Some (fresh tick)) registered = registered
stepped_registered old new (Some (armed tick waker)) registered = if nat_le tick new then None else moved_registered old new (Some (armed tick waker)) registered
stepped_registered old new (Some elapsed) registered = registered

-- A sleep is registered if and only if it is armed. Either it is pending, or its registered tick is above the tick that
-- the wheel has reached and at most its own tick.
abbrev pub IsRegistered : ℕ → Option Kept → Option ℕ → Type 0
IsRegistered reached None registered = registered ≡ None
IsRegistered reached (Some (fresh tick)) registered = registered ≡ None
IsRegistered reached (Some (armed tick waker)) None = ⊥
IsRegistered reached (Some (armed tick waker)) (Some registered) = ((registered ≡ reached) × (tick ≡ reached)) ⊎ ((reached < registered) × (registered ≤ tick))
IsRegistered reached (Some elapsed) registered = registered ≡ None

-- Some sleep's slot starts at this tick, and none starts before.
pub record FirstSlot (reached : ℕ) (registered : ℕ → Option ℕ) (next : ℕ) : Type 0 where
  pub sleep : ℕ
  pub tick : ℕ
  pub is_there : registered sleep ≡ Some tick
  pub is_start : next ≡ start top_level reached tick
  pub is_least : (other later : ℕ) → registered other ≡ Some later → next ≤ start top_level reached later

-- A sleep is armed at the tick that the wheel has reached.
abbrev pub IsOnePending : ℕ → SleepTable → Type 0
IsOnePending reached sleeps = (s : ℕ) × ((waker : Option ℕ) × (value_at sleeps.table s ≡ Some (armed reached waker)))

-- The next tick at which the wheel has something to do. It is the tick that the wheel has reached if a sleep is
-- pending, else the first start of a slot with a sleep, or None if no sleep is armed.
abbrev pub NextExpiration : ℕ → (ℕ → Option ℕ) → SleepTable → Option ℕ → Type 0
NextExpiration reached registered sleeps None = (s tick : ℕ) (waker : Option ℕ) → value_at sleeps.table s ≡ Some (armed tick waker) → ⊥
NextExpiration reached registered sleeps (Some next) =
    (IsOnePending reached sleeps × (next ≡ reached))
    ⊎ ((IsOnePending reached sleeps → ⊥) × FirstSlot reached registered next)
