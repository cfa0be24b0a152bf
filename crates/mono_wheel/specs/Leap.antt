-- The leap of the clock over slots of the top level in which no key is due.
use Rattle.std.specs.Prelude.{◌≡◌, ◌≢◌, ℕ, ◌<◌, ◌≤◌, ◌⊎◌, List, Option, Some, None, slice_index_or}
use Rattle.mono_wheel.specs.Start.{above, top_level}
use Rattle.mono_wheel.specs.Model.{Timed, Wheel, timed_at}
use Rattle.mono_wheel.specs.Skips.{at_tick}
use Rattle.mono_wheel.specs.Holdings.{timed_in}
use Rattle.mono_wheel.specs.declared.entry.Entry.{Entry}

-- A key that is in is registered at its true tick, in a later slot of the top level than `to`.
abbrev pub IsFar : ℕ → Option Timed → Type 0
IsFar to None = Unit {0}
IsFar to (Some timed) = (timed.registered ≡ timed.tick) × (above top_level to < above top_level timed.tick)

-- A key that is in is registered at its true tick, which is at least `least`.
abbrev pub IsDueFrom : ℕ → Option Timed → Type 0
IsDueFrom least None = Unit {0}
IsDueFrom least (Some timed) = (timed.registered ≡ timed.tick) × (least ≤ timed.tick)

-- A key that is in is registered at its true tick, which is at least `limit` unless the key is one of these.
abbrev pub IsKnown : ℕ → List ℕ → ℕ → Option Timed → Type 0
IsKnown limit near key None = Unit {0}
IsKnown limit near key (Some timed) = (timed.registered ≡ timed.tick) × ((limit ≤ timed.tick) ⊎ ((place : ℕ) × (place < 512) × (slice_index_or near place 0 ≡ key)))

-- This holds for each key, unless the limit is 0.
abbrev pub Known : ℕ → List ℕ → List Entry → Type 0
Known limit near entries = 0 < limit → (key : ℕ) → IsKnown limit near key (timed_in entries key)

-- The key is due at this tick, which is at most `now` and in a later slot of the top level than the elapsed tick. Each
-- other key is due in a later slot still, and registered at its true tick.
pub record IsFirstFar (wheel : Wheel) (now key : ℕ) : Type 0 where
  pub tick : ℕ
  pub is : timed_at wheel key ≡ at_tick tick
  pub by : tick ≤ now
  pub ahead : above top_level wheel.elapsed < above top_level tick
  pub others : (other : ℕ) → other ≢ key → IsFar tick (timed_at wheel other)
