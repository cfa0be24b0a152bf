-- The representation of sleeps: a number has a key of the wheel, and the key has the sleep's number and state.
use Rattle.std.specs.Prelude.{◌≡◌, ◌≢◌, ◌<◌, ◌≤◌, ◌⊎◌, ℕ, ◌^◌, true, false, List, [], ◌∷◌, ◌++◌, length, Option, Some, None, is_some, slice_get}
use Rattle.mono_model.specs.Table.{Table, value_at, count_of}
use Rattle.mono_wheel.specs.Model.{Wheel, Timed, timed_at, is_reserved, Precedes, KeepsOrder, Changed}
use Rattle.mono_time.specs.Sleeps.{Kept}
use Rattle.mono_time.specs.Entries.{kept_of, owner_of, is_armed_entry, fresh_tick_of, tick_in}
use Rattle.mono_time.specs.declared.entry.Entry.{Entry}

-- The sleep with this number, as the timers keep it.
abbrev pub kept_under : Wheel → List Entry → Option ℕ → Option Kept
kept_under wheel entries None = None
kept_under wheel entries (Some key) = kept_of (timed_at wheel key) (slice_get entries key)

abbrev pub kept_at : Wheel → Table ℕ → List Entry → ℕ → Option Kept
kept_at wheel keys entries s = kept_under wheel entries (value_at keys s)

-- Each key in the wheel is registered at the elapsed tick or above, and at most at its tick. If it is registered at the
-- elapsed tick, it is due there.
abbrev pub AllAhead : Wheel → Type 0
AllAhead wheel =
    (key : ℕ) (timed : Timed) → timed_at wheel key ≡ Some timed
    → (wheel.elapsed ≤ timed.registered) × (timed.registered ≤ timed.tick) × (timed.registered ≡ wheel.elapsed → timed.tick ≡ wheel.elapsed)

-- Each live sleep has a reserved key with its number. The key is in the wheel if and only if the sleep is armed. Each
-- key in the wheel, and each reserved key, belongs to a live sleep. A key in the wheel is pending, or registered ahead
-- (`ahead`).
pub record Holds (wheel : Wheel) (keys : Table ℕ) (entries : List Entry) (greatest live : ℕ) : Type 0 where
  pub owners : (s k : ℕ) → value_at keys s ≡ Some k → owner_of (slice_get entries k) ≡ Some s
  pub reserved : (s k : ℕ) → value_at keys s ≡ Some k → is_reserved wheel k ≡ true
  pub is_in : (s k : ℕ) → value_at keys s ≡ Some k → is_some (timed_at wheel k) ≡ is_armed_entry (slice_get entries k)
  pub fresh_below : (s k : ℕ) → value_at keys s ≡ Some k → fresh_tick_of (slice_get entries k) < 2 ^ 63
  pub owned : (k : ℕ) → is_some (timed_at wheel k) ≡ true → is_some (owner_of (slice_get entries k)) ≡ true
  pub back : (k s : ℕ) → is_some (timed_at wheel k) ≡ true → owner_of (slice_get entries k) ≡ Some s → value_at keys s ≡ Some k
  pub used : (k : ℕ) → is_reserved wheel k ≡ true → ((s : ℕ) → value_at keys s ≢ Some k) → ⊥
  pub elapsed : wheel.elapsed ≤ greatest
  pub greatest_below : greatest < 2 ^ 63
  pub live_count : live ≡ count_of keys
  pub ahead : AllAhead wheel

-- All keys but one keep their tick and their order, and a key that is registered at its tick stays so.
pub record KeepsBut (old new : Wheel) (key : ℕ) : Type 0 where
  pub ticks : (other : ℕ) → other ≢ key → tick_in (timed_at new other) ≡ tick_in (timed_at old other)
  pub in_or_out : (other : ℕ) → other ≢ key → is_some (timed_at new other) ≡ is_some (timed_at old other)
  pub registered : (other tick : ℕ) → other ≢ key → timed_at old other ≡ Some record { tick = tick; registered = tick } → timed_at new other ≡ Some record { tick = tick; registered = tick }
  pub order : (a b tick : ℕ) → a ≢ key → b ≢ key → timed_at old a ≡ Some record { tick = tick; registered = tick } → timed_at old b ≡ Some record { tick = tick; registered = tick } → Precedes old a b → Precedes new a b
  pub reserved : (other : ℕ) → is_reserved new other ≡ is_reserved old other

-- The key was inserted anew, after those that are registered at the same tick.
pub record ArmedAnew (old new : Wheel) (key tick : ℕ) : Type 0 where
  pub here : timed_at new key ≡ Some record { tick = tick; registered = tick }
  pub others : (other : ℕ) → other ≢ key → timed_at new other ≡ timed_at old other
  pub keeps : KeepsBut old new key
  pub last : (other : ℕ) → other ≢ key → timed_at old other ≡ Some record { tick = tick; registered = tick } → Precedes new other key
  pub elapsed : new.elapsed ≡ old.elapsed

-- The key is due at another tick. If that is not before its tick, and the key is not pending, the key keeps its place.
-- Otherwise it was inserted anew.
pub record Rearmed (old new : Wheel) (key tick : ℕ) : Type 0 where
  pub timed : Timed
  pub was : timed_at old key ≡ Some timed
  pub how : ((timed.tick ≢ old.elapsed) × (timed.tick ≤ tick) × Changed old new key (Some record { tick = tick; registered = timed.registered }))
      ⊎ (((timed.tick ≡ old.elapsed) ⊎ (tick < timed.tick)) × ArmedAnew old new key tick)

-- A key that is out was reserved or given back: all other keys, and all keys in the wheel, stay.
pub record KeysStay (old new : Wheel) (key : ℕ) : Type 0 where
  pub same_ticks : (other : ℕ) → timed_at new other ≡ timed_at old other
  pub same_reserved : (other : ℕ) → other ≢ key → is_reserved new other ≡ is_reserved old other
  pub same_order : KeepsOrder old new
  pub same_elapsed : new.elapsed ≡ old.elapsed

-- The entries stay, and there may be more.
abbrev pub EntriesStay : List Entry → List Entry → Type 0
EntriesStay old new = (k : ℕ) → k < length old → slice_get new k ≡ slice_get old k

-- A further number has a new key, which is out of the wheel, and there is a place for its entry.
pub record KeyMade (old new : Wheel) (old_keys new_keys : Table ℕ) (old_entries new_entries : List Entry) (key : ℕ) : Type 0 where
  pub was_free : is_reserved old key ≡ false
  pub now_reserved : is_reserved new key ≡ true
  pub is_out : timed_at new key ≡ None
  pub keys_stay : KeysStay old new key
  pub one_more : new_keys ≡ old_keys ++ Some key ∷ []
  pub inside : key < length new_entries
  pub entries_stay : EntriesStay old_entries new_entries

-- There is no further key, and everything else stays.
pub record NoKeyMade (old new : Wheel) (old_keys new_keys : Table ℕ) (old_entries new_entries : List Entry) : Type 0 where
  pub same_ticks : (other : ℕ) → timed_at new other ≡ timed_at old other
  pub same_reserved : (other : ℕ) → is_reserved new other ≡ is_reserved old other
  pub same_order : KeepsOrder old new
  pub same_elapsed : new.elapsed ≡ old.elapsed
  pub same_keys : new_keys ≡ old_keys
  pub entries_stay : EntriesStay old_entries new_entries
