-- The move of the clock into a slot of the top level, whose keys are registered anew one by one.
use Rattle.std.specs.Prelude.{◌≡◌, ◌≢◌, ℕ, ◌+◌, ◌*◌, ◌<◌, ◌≤◌, ◌⊎◌, List, Option, Some, None, slice_index_or}
use Rattle.mono_wheel.specs.Start.{above, top_level}
use Rattle.mono_wheel.specs.Lists.{Lists, entry_at}
use Rattle.mono_wheel.specs.Model.{Timed, Wheel, timed_at}
use Rattle.mono_wheel.specs.Credit.{credit}
use Rattle.mono_wheel.specs.Holdings.{Advanced}

-- A key that is in is registered at its true tick. It is due in a later slot of the top level than `goal`, or it is one
-- of the first `count` of these and not due before `goal`.
abbrev pub IsNear : ℕ → List ℕ → ℕ → ℕ → Option Timed → Type 0
IsNear goal near count key None = Unit {0}
IsNear goal near count key (Some timed) =
    (timed.registered ≡ timed.tick)
    × ((above top_level goal < above top_level timed.tick) ⊎ ((goal ≤ timed.tick) × ((place : ℕ) × (place < count) × (slice_index_or near place 0 ≡ key))))

-- No two of the first `count` keys are due at one tick of the slot of the top level in which `goal` lies.
abbrev pub AreApart : Wheel → ℕ → List ℕ → ℕ → Type 0
AreApart wheel goal near count =
    (a b : ℕ) (first second : Timed) → a < count → b < count → timed_at wheel (slice_index_or near a 0) ≡ Some first → timed_at wheel (slice_index_or near b 0) ≡ Some second
    → above top_level first.tick ≡ above top_level goal → first.tick ≡ second.tick → slice_index_or near a 0 ≡ slice_index_or near b 0

-- If the key at this place is due in the slot of the top level in which `goal` lies, each key before it is due at
-- another tick.
abbrev pub HasNoTie : ℕ → List ℕ → Lists → ℕ → Type 0
HasNoTie goal near links place =
    (entry_at links (slice_index_or near place 0)).tick ≢ 0 → above top_level (entry_at links (slice_index_or near place 0)).tick ≡ above top_level goal
    → (other : ℕ) → other < place → slice_index_or near other 0 ≢ slice_index_or near place 0
    → (entry_at links (slice_index_or near other 0)).tick ≢ (entry_at links (slice_index_or near place 0)).tick

abbrev pub HasNoTies : ℕ → List ℕ → Lists → ℕ → Type 0
HasNoTies goal near links count = (place : ℕ) → place < count → HasNoTie goal near links place

-- The clock moved to `goal`. Keys moved at most twice for each step by which the credit fell, by both counts.
pub record Hopped (old new : Wheel) (goal : ℕ) : Type 0 where
  pub advanced : Advanced old new
  pub at : new.elapsed ≡ goal
  pub less : credit new ≤ credit old
  pub moved : new.moves.slots + 2 * credit new ≤ old.moves.slots + 2 * credit old
  pub all_moved : new.moves.all + 2 * credit new ≤ old.moves.all + 2 * credit old
