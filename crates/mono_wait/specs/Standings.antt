-- Whether some entry of a list passes a test, along appends and removals.
use Rattle.std.specs.Prelude.{◌≡◌, ◌⊎◌, ◌||◌, ℕ, Bool, true, false, zero, suc, List, [], ◌∷◌, ◌++◌, slice_index_or}
use Rattle.std.specs.List.{list_any, remove}
use Rattle.std.proofs.Common.{inl, inr, ap, ◌∙◌, refl}

pub false-true : false ≡ true → ⊥
false-true e = cc

pub or_right : (a b : Bool) → b ≡ true → (a || b) ≡ true
or_right true b is = refl
or_right false b is = is

pub or_left : (a b : Bool) → a ≡ true → (a || b) ≡ true
or_left a b is = ap (λ x. x || b) is

or_split : (a b : Bool) → (a || b) ≡ true → (a ≡ true) ⊎ (b ≡ true)
or_split true b is = inl refl
or_split false b is = inr is

module _ {X : Type 0} (f : X → Bool) where
  pub any_first : (xs ys : List X) → list_any f xs ≡ true → list_any f (xs ++ ys) ≡ true
  any_first [] ys is = absurd (false-true is)
  any_first (x ∷ xs) ys is = elim (or_split (f x) (list_any f xs) is) [ inl here ↦ or_left (f x) _ here | inr later ↦ or_right (f x) _ (any_first xs ys later) ]

  pub any_second : (xs ys : List X) → list_any f ys ≡ true → list_any f (xs ++ ys) ≡ true
  any_second [] ys is = is
  any_second (x ∷ xs) ys is = or_right (f x) _ (any_second xs ys is)

  pub any_split : (xs ys : List X) → list_any f (xs ++ ys) ≡ true → (list_any f xs ≡ true) ⊎ (list_any f ys ≡ true)
  any_split [] ys is = inr is
  any_split (x ∷ xs) ys is = elim (or_split (f x) (list_any f (xs ++ ys)) is) [
    | inl here ↦ inl (or_left (f x) _ here)
    | inr later ↦ elim (any_split xs ys later) [ inl first ↦ inl (or_right (f x) _ first) | inr second ↦ inr second ]
  ]

  -- an entry that passes stays, or is the one that was removed
  pub any_removed : (xs : List X) (i : ℕ) (w : X) → w ≡ slice_index_or xs i w → list_any f xs ≡ true → (list_any f (remove xs i) ≡ true) ⊎ (f w ≡ true)
  any_removed [] i w is any = absurd (false-true any)
  any_removed (x ∷ xs) zero w is any = elim (or_split (f x) (list_any f xs) any) [ inl here ↦ inr (ap f is ∙ here) | inr later ↦ inl later ]
  any_removed (x ∷ xs) (suc i) w is any = elim (or_split (f x) (list_any f xs) any) [
    | inl here ↦ inl (or_left (f x) _ here)
    | inr later ↦ elim (any_removed xs i w is later) [ inl stays ↦ inl (or_right (f x) _ stays) | inr one ↦ inr one ]
  ]
