-- The keys of parts that may owe a wake.
use Rattle.std.specs.Prelude.{Bool, true, ◌≡◌, ◌≤◌, ◌<◌, ◌+◌, ◌-◌, ◌==◌, ◌⊎◌, if◌then◌else◌, nat_lt, ℕ, List, [], ◌∷◌, length, slice_index_or, Option, Some, None}
use Rattle.std.specs.List.{list_any}

-- The noted keys, and the least of those that are noted because no memory was left.
pub record Marks : Type 0 where
  pub keys : List ℕ
  pub from : ℕ

-- A key is noted if it is in the list, or is `from` or greater.
abbrev pub IsMarked : Marks → ℕ → Type 0
IsMarked m k = (list_any (λ j. j == k) m.keys ≡ true) ⊎ (m.from ≤ k)

-- Each key is greater than the one before it. All are at least `low` and less than `high`.
abbrev pub Rises : ℕ → List ℕ → ℕ → Type 0
Rises low [] high = low ≤ high
Rises low (k ∷ ks) high = (low ≤ k) × Rises (k + 1) ks high

-- The least noted key.
abbrev pub first_in : List ℕ → ℕ → ℕ → Option ℕ
first_in [] from count = if nat_lt from count then Some from else None
first_in (k ∷ ks) from count = Some k

abbrev pub first_of : Marks → ℕ → Option ℕ
first_of m count = first_in m.keys m.from count

-- How many noted keys are left to be looked at.
abbrev pub left : ℕ → Marks → ℕ
left count m = length m.keys + (count - m.from)

abbrev pub IsAscending : List ℕ → Type 0
IsAscending ks = (i j d : ℕ) → i ≤ j → j < length ks → slice_index_or ks i d ≤ slice_index_or ks j d

-- The first n keys are less than `key`, and the others are not.
pub record Splits (ks : List ℕ) (n key : ℕ) : Type 0 where
  pub bound : n ≤ length ks
  pub below : (i : ℕ) → i < n → slice_index_or ks i 0 < key
  pub above : (i : ℕ) → n ≤ i → i < length ks → key ≤ slice_index_or ks i 0
