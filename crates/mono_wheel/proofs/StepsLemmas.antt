-- Numbers in the count of steps that only proofs read.
use Rattle.std.proofs.Common.{arith, ◌≡◌, ℕ, ◌+◌, ◌-◌, List, [], ◌∷◌, ◌++◌, ap, ◌∙◌}
use Rattle.mono_wheel.specs.Falls.{sum_of, fall_of}

pub sum-more : (numbers more : List ℕ) (number : ℕ) → more ≡ numbers ++ number ∷ [] → sum_of more ≡ sum_of numbers + number
sum-more numbers more number is = ap sum_of is ∙ at_end numbers
  where
    at_end : (xs : List ℕ) → sum_of (xs ++ number ∷ []) ≡ sum_of xs + number
    at_end [] = omega arith
    at_end (x ∷ xs) = let r = at_end xs in omega (arith, r)

-- a history of two numbers
pub fall-told : (none one two : List ℕ) (first second : ℕ) → none ≡ [] → one ≡ none ++ first ∷ [] → two ≡ one ++ second ∷ [] → fall_of two ≡ first - second
fall-told none one two first second a b c = ap fall_of (c ∙ ap (λ z. z ++ second ∷ []) (b ∙ ap (λ z. z ++ first ∷ []) a))
