-- How the numbers of a table lie in pages, those in parts, and those in the directory: each is a list of tables of one
-- size.
use Rattle.std.specs.Prelude.{◌≡◌, ◌≤◌, ◌<◌, ℕ, ◌+◌, ◌/◌, ◌%◌, Bool, ◌==◌, ◌&&◌, if◌then◌else◌, List, [], Option, length, slice_index_or}
use Rattle.mono_model.specs.Table.{Table, value_at, count_of, table_of}

abbrev pub child_at : {V : Type 0} → List (Table V) → ℕ → Table V
child_at children i = slice_index_or children i []

-- The value of a number, if each child has the places of `size` numbers.
abbrev pub look_in : {V : Type 0} → ℕ → List (Table V) → ℕ → Option V
look_in size children n = value_at (child_at children (n / size)) (n % size)

-- The table of the first `len` numbers.
abbrev pub laid_table : {V : Type 0} → ℕ → List (Table V) → ℕ → Table V
laid_table size children len = table_of (look_in size children) len

-- What remains of a child: no places if it is closed and none of its numbers has a value, else all of them.
abbrev pub left_of : {V : Type 0} → Bool → Table V → Table V
left_of is_closed child = if is_closed && (count_of child == 0) then [] else child

-- A page has memory only while it has places.
pub record IsPage {V : Type 0} (places : Table V) (room live : ℕ) : Type 0 where
  pub live_is : live ≡ count_of places
  pub bare : length places ≡ 0 → room ≡ 0

pub record IsLaid {V : Type 0} (size : ℕ) (children : List (Table V)) (room len live : ℕ) : Type 0 where
  pub live_is : live ≡ count_of (laid_table size children len)
  -- The child of the next number has the places before it, and no child follows it.
  pub is_open : length (child_at children (len / size)) ≡ len % size
  pub enough : len / size ≤ length children
  pub no_more : length children ≤ len / size + 1
  -- A closed child without values has no places.
  pub gone : (i : ℕ) → i < len / size → count_of (child_at children i) ≡ 0 → child_at children i ≡ []
  pub bare : length children ≡ 0 → room ≡ 0
