-- A table by number in which a place for the next number may be ready.
use Rattle.std.specs.Prelude.{◌≡◌, ◌≤◌, ◌<◌, ◌+◌, ℕ, true, length, Option, is_some}
use Rattle.mono_model.specs.Table.{Table, value_at, next_number}

-- The values of the numbers that were given out; the count of places, one for each of them and perhaps one more; and
-- the value in that last place.
pub record Places (V : Type 0) : Type 0 where
  pub table : Table V
  pub room : ℕ
  pub reserved : Option V

-- Whether a place for the next number is ready.
abbrev pub HasPlace : {V : Type 0} → Places V → Type 0
HasPlace places = next_number places.table < places.room

-- The places lie in one table: those of the numbers below the next one, then at most one with a value for the next
-- number.
pub record Lies {V : Type 0} (places : Table V) (next : ℕ) : Type 0 where
  pub enough : next ≤ length places
  pub no_more : length places ≤ next + 1
  pub ready : next < length places → is_some (value_at places next) ≡ true
