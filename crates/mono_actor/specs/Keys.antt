-- The view of each key, given by a wheel and a list of numbers.
use Rattle.std.specs.Prelude.{◌≡◌, ◌<◌, ℕ, true, List, length, slice_index_or, Option, Some, None}
use Rattle.mono_wheel.specs.Model.{Wheel, Timed, timed_at, is_reserved}

abbrev pub tick_in : Option Timed → Option ℕ
tick_in None = None
tick_in (Some timed) = Some timed.tick

abbrev pub number_in : List ℕ → ℕ → ℕ
number_in numbers key = slice_index_or numbers key 0

-- Each key that is given out or waits has a place for its number.
pub record Within (wheel : Wheel) (numbers : List ℕ) : Type 0 where
  pub known : (key : ℕ) → is_reserved wheel key ≡ true → key < length numbers
  pub waits : (key : ℕ) (timed : Timed) → timed_at wheel key ≡ Some timed → key < length numbers
