-- The number of a boolean output.
use Rattle.std.specs.Prelude.{ℕ, Bool, true, false}

abbrev pub bool_number : Bool → ℕ
bool_number true = 1
bool_number false = 0
