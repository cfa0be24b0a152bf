-- What holds of one value before and after a change holds of each.
use Rattle.std.proofs.Common.{◌≡◌, ◌⊎◌, ℕ, zero, suc, [], ◌∷◌, length, Option, Some, None, refl, sym, ap, subst, inl, inr}
use Rattle.std.specs.Prelude.{slice_set}
use Rattle.mono_model.specs.Table.{Table, value_at, with_next}

none-some : {X : Type 0} (x : X) → None ≡ Some x → ⊥
none-some x e = cc

pub same_some : {X : Type 0} (x y : X) → Some x ≡ Some y → x ≡ y
same_some x y e = cc

module _ {X : Type 0} (P : Option X → Option X → Type 0) (itself : (o : Option X) → P o o) where
  pub pairs_set : (xs : Table X) (k : ℕ) (x : X) (n : Option X) → value_at xs k ≡ Some x → P (Some x) n → (j : ℕ) → P (value_at xs j) (value_at (slice_set xs k n) j)
  pairs_set [] k x n at p j = itself None
  pairs_set (z ∷ zs) zero x n at p zero = subst (λ o. P o n) (sym at) p
  pairs_set (z ∷ zs) zero x n at p (suc j) = itself (value_at zs j)
  pairs_set (z ∷ zs) (suc k) x n at p zero = itself z
  pairs_set (z ∷ zs) (suc k) x n at p (suc j) = pairs_set zs k x n at p j

module _ {X : Type 0} where
  -- the key that was set has the value
  pub value_set : (xs : Table X) (k : ℕ) (x : X) (n : Option X) → value_at xs k ≡ Some x → value_at (slice_set xs k n) k ≡ n
  value_set [] k x n at = absurd (none-some x at)
  value_set (z ∷ zs) zero x n at = refl
  value_set (z ∷ zs) (suc k) x n at = value_set zs k x n at

  -- a key that is added
  pub at_next : (xs : Table X) (x : X) (j : ℕ) → (value_at (with_next xs x) j ≡ value_at xs j) ⊎ ((j ≡ length xs) × (value_at (with_next xs x) j ≡ Some x))
  at_next [] x zero = inr (refl, refl)
  at_next [] x (suc j) = inl refl
  at_next (z ∷ zs) x zero = inl refl
  at_next (z ∷ zs) x (suc j) = elim (at_next zs x j) [ inl same ↦ inl same | inr here ↦ inr (ap suc here.0, here.1) ]

  -- who has a value keeps it
  pub some_next : (xs : Table X) (x y : X) (j : ℕ) → value_at xs j ≡ Some y → value_at (with_next xs x) j ≡ Some y
  some_next [] x y j at = absurd (none-some y at)
  some_next (z ∷ zs) x y zero at = at
  some_next (z ∷ zs) x y (suc j) at = some_next zs x y j at
