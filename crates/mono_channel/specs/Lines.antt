-- The line of those who wait to send: each stands at its seat, lower seats first.
use Rattle.std.specs.Prelude.{◌≡◌, ◌<◌, ℕ, List, [], ◌∷◌, ◌++◌, Option, Some, None}
use Rattle.std.specs.Ordering.{nat_cmp}
use Rattle.std.specs.List.{AllByRecursion}
use Rattle.std.specs.Map.{lookup, remove_entry}
use Rattle.std.specs.BTreeMap.{insert_entry, is_at}

module _ {W : Type 0} where
  -- each seat in line was given out
  abbrev pub AreBelow : ℕ → List (ℕ × W) → Type 0
  AreBelow next line = AllByRecursion (λ e. e.0 < next) line

  -- One that begins to wait gets the next seat, at the back. One that waited before stands at its seat again: behind those
  -- that began to wait before it, and before those that did later.
  abbrev pub Enters : List (ℕ × W) → ℕ → Option ℕ → W → ℕ → List (ℕ × W) → Type 0
  Enters line next None waiter seat after = (seat ≡ next) × (after ≡ line ++ (next, waiter) ∷ [])
  Enters line next (Some s) waiter seat after = s < next → (seat ≡ s) × (after ≡ insert_entry nat_cmp line s waiter)

  -- The first in line is called, and leaves the line.
  abbrev pub Calls : List (ℕ × W) → Option W → List (ℕ × W) → Type 0
  Calls line None after = (line ≡ []) × (after ≡ [])
  Calls line (Some waiter) after = (seat : ℕ) × (line ≡ (seat, waiter) ∷ after)

  -- the one at this seat, if it stands in line
  abbrev pub standing_at : ℕ → List (ℕ × W) → Option W
  standing_at seat line = lookup (is_at (nat_cmp seat)) line

  -- the line without the one at this seat
  abbrev pub without : ℕ → List (ℕ × W) → List (ℕ × W)
  without seat line = remove_entry (is_at (nat_cmp seat)) line

  -- the line without the one of a sender that waits no more
  abbrev pub spent : Option ℕ → List (ℕ × W) → List (ℕ × W)
  spent None line = line
  spent (Some seat) line = without seat line

  -- One that gives up leaves the line. If it had been called, the first in line is called in its place.
  abbrev pub GivesUp : List (ℕ × W) → Option W → Option W → List (ℕ × W) → List (ℕ × W) → Type 0
  GivesUp line (Some waiter) called shorter after = (called ≡ None) × (after ≡ shorter)
  GivesUp line None called shorter after = Calls line called after
