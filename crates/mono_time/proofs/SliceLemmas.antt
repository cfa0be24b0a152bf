-- Look-ups in a list after a write and after a push.
use Rattle.std.proofs.Common.{◌≡◌, ◌≢◌, ◌<◌, ℕ, zero, suc, List, [], ◌∷◌, ◌++◌, length, set, Some, None, refl, ap, arith}
use Rattle.std.specs.Prelude.{slice_get}

pub slice_get-push : {X : Type 0} (xs : List X) (y : X) (k : ℕ) → k < length xs → slice_get (xs ++ y ∷ []) k ≡ slice_get xs k
slice_get-push [] y k inside = absurd (omega (arith, inside))
slice_get-push (x ∷ xs) y zero inside = refl
slice_get-push (x ∷ xs) y (suc k) inside = slice_get-push xs y k (omega (arith, inside))

pub slice_get-set_same : {X : Type 0} (xs : List X) (k : ℕ) (old new : X) → slice_get xs k ≡ Some old → slice_get (set xs k new) k ≡ Some new
slice_get-set_same [] k old new at = absurd (none old at)
  where
    none : {X : Type 0} (x : X) → None ≡ Some x → ⊥
    none x e = cc
slice_get-set_same (x ∷ xs) zero old new at = refl
slice_get-set_same (x ∷ xs) (suc k) old new at = slice_get-set_same xs k old new at

pub slice_get-set_other : {X : Type 0} (xs : List X) (k j : ℕ) (new : X) → j ≢ k → slice_get (set xs k new) j ≡ slice_get xs j
slice_get-set_other [] k j new apart = refl
slice_get-set_other (x ∷ xs) zero zero new apart = absurd (apart refl)
slice_get-set_other (x ∷ xs) zero (suc j) new apart = refl
slice_get-set_other (x ∷ xs) (suc k) zero new apart = refl
slice_get-set_other (x ∷ xs) (suc k) (suc j) new apart = slice_get-set_other xs k j new (λ same. apart (ap suc same))

pub slice_get-set_in : {X : Type 0} (xs : List X) (k : ℕ) (new : X) → k < length xs → slice_get (set xs k new) k ≡ Some new
slice_get-set_in [] k new inside = absurd (omega (arith, inside))
slice_get-set_in (x ∷ xs) zero new inside = refl
slice_get-set_in (x ∷ xs) (suc k) new inside = slice_get-set_in xs k new (omega (arith, inside))
