-- Numbers that only proofs read: a sum, and a fall from one number to the next.
use Rattle.std.specs.Prelude.{ℕ, ◌+◌, ◌-◌, List, [], ◌∷◌}

abbrev pub sum_of : List ℕ → ℕ
sum_of [] = 0
sum_of (number ∷ rest) = number + sum_of rest

-- By how much the second number is below the first.
abbrev pub fall_of : List ℕ → ℕ
fall_of [] = 0
fall_of (first ∷ []) = 0
fall_of (first ∷ second ∷ rest) = first - second
