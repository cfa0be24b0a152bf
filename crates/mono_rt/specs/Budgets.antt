-- How a budget of turns is spent, by counts of entries.
use Rattle.std.specs.Prelude.{◌≡◌, ◌≤◌, ℕ, ◌+◌, List, [], ◌∷◌}
use Rattle.mono_machine.specs.declared.events.Event.TheVariants as event
use Rattle.mono_rt.specs.declared.parts.journals.Entry.{Entry}
use Rattle.mono_rt.specs.declared.parts.journals.Entry.TheVariants.{Ran, Now, Park}

abbrev pub turns_in : List Entry → ℕ
turns_in [] = 0
turns_in (Ran (event.Turn steps e) r ∷ part) = 1 + turns_in part
turns_in (Ran (event.Act a) r ∷ part) = turns_in part
turns_in (Ran (event.Clock n) r ∷ part) = turns_in part
turns_in (Ran (event.Remote t) r ∷ part) = turns_in part
turns_in (Ran event.Drain r ∷ part) = turns_in part
turns_in (Now n ∷ part) = turns_in part
turns_in (Park wait ∷ part) = turns_in part

abbrev pub parks_in : List Entry → ℕ
parks_in [] = 0
parks_in (Ran e r ∷ part) = parks_in part
parks_in (Now n ∷ part) = parks_in part
parks_in (Park wait ∷ part) = 1 + parks_in part

-- From this budget so much is left: each turn took a unit, and so did some of the parks.
pub record Spends (budget left : ℕ) (part rest : List Entry) : Type 0 where
  pub turns : ℕ
  pub idle : ℕ
  pub are_turns : turns_in part ≡ turns + turns_in rest
  pub are_parks : idle + parks_in rest ≤ parks_in part
  pub all : budget ≡ turns + idle + left
