-- The layout of the tasks' standings in pages, parts and the directory: each is a list of lists of one size.
use Rattle.std.specs.Prelude.{◌≡◌, ◌≤◌, ◌<◌, zero, suc, ℕ, ◌+◌, ◌-◌, ◌/◌, ◌%◌, Bool, true, ◌==◌, ◌&&◌, if◌then◌else◌, List, [], ◌∷◌, ◌++◌, length, replicate, slice_index_or, slice_set, nat_lt}
use Rattle.mono_inbox.specs.declared.standings.Standing.{Standing}
use Rattle.mono_inbox.specs.declared.standings.Standing.TheVariants.{Unknown}
use Rattle.mono_inbox.specs.Standings.{has_place, standing_at, count_where}

-- The standings with an entry for each number up to the task's.
abbrev pub grown : List Standing → ℕ → List Standing
grown standings t = standings ++ replicate (t + 1 - length standings) Unknown

-- The standings after a task that was unknown got this one.
abbrev pub with_mark : List Standing → ℕ → Standing → List Standing
with_mark standings t standing = slice_set (grown standings t) t standing

-- The child, or the empty list if the child is closed and no task of it has a place.
abbrev pub left_of : Bool → List Standing → List Standing
left_of is_closed child = if is_closed && (count_where has_place child == 0) then [] else child

abbrev pub child_at : List (List Standing) → ℕ → List Standing
child_at children i = slice_index_or children i []

-- The task's standing, if each child has the standings of `size` numbers.
abbrev pub look_in : ℕ → List (List Standing) → ℕ → Standing
look_in size children t = standing_at (child_at children (t / size)) (t % size)

-- The standings of the numbers below n, given by a look-up.
abbrev pub standings_of : (ℕ → Standing) → ℕ → List Standing
standings_of look_up zero = []
standings_of look_up (suc n) = standings_of look_up n ++ look_up n ∷ []

abbrev pub laid_standings : ℕ → List (List Standing) → ℕ → List Standing
laid_standings size children len = standings_of (look_in size children) len

-- The children before a number of the child at this place is added: an earlier child that was open is closed.
abbrev pub closed_before : List (List Standing) → ℕ → ℕ → List (List Standing)
closed_before children begun at = if nat_lt begun at then slice_set children begun (left_of true (child_at children begun)) else children

-- The invariant of a page: it counts its places, has at most 4,096 entries, and has memory only while it has entries.
pub record IsPage (standings : List Standing) (room placed : ℕ) : Type 0 where
  pub placed_is : placed ≡ count_where has_place standings
  pub within : length standings ≤ 4096
  pub bare : length standings ≡ 0 → room ≡ 0

-- The invariant of a layout: only numbers below `len` were made known, and a closed child without a place is empty.
pub record IsLaid (size : ℕ) (children : List (List Standing)) (len : ℕ) : Type 0 where
  pub past : (t : ℕ) → len ≤ t → look_in size children t ≡ Unknown
  pub unopened : (i : ℕ) → len / size < i → child_at children i ≡ []
  pub gone : (i : ℕ) → i < len / size → count_where has_place (child_at children i) ≡ 0 → child_at children i ≡ []

pub record IsPart (size most : ℕ) (children : List (List Standing)) (room len placed : ℕ) : Type 0 where
  pub laid : IsLaid size children len
  pub within : len ≤ most
  pub placed_is : placed ≡ count_where has_place (laid_standings size children len)
  pub bare : length children ≡ 0 → room ≡ 0
