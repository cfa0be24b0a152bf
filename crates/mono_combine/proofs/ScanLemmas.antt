-- A search through a list, up to the first that passes a test.
use Rattle.std.proofs.Common.{◌≡◌, ◌<◌, ◌≤◌, ◌+◌, ℕ, zero, suc, Bool, true, false, List, [], ◌∷◌, length, take, set, get_or, refl, sym, ap, subst, ◌∙◌, arith}
use Rattle.std.specs.List.{list_any}
use Rattle.std.proofs.lemmas.List.{set-get_or, take_all}
use Rattle.mono_combine.proofs.ListLemmas.{any_more, or_true}

pub none_yet : {X : Type 0} (p : X → Bool) (xs : List X) (i : ℕ) (x : X) → i < length xs → x ≡ get_or xs i x → list_any p (take i xs) ≡ false → p x ≡ false
    → list_any p (take (i + 1) xs) ≡ false
none_yet p xs i x less is before now =
    let own : set xs i x ≡ xs = ap (λ y. set xs i y) is ∙ set-get_or xs i x in
    subst (λ ys. list_any p (take (i + 1) ys) ≡ false) own (rw (any_more p xs i x less, before, now) refl)

pub one_found : {X : Type 0} (p : X → Bool) (xs : List X) (i : ℕ) (x : X) → i < length xs → x ≡ get_or xs i x → p x ≡ true → true ≡ list_any p xs
one_found p [] i x less is now = absurd (omega arith)
one_found p (y ∷ ys) zero x less is now = rw (← is, now) refl
one_found p (y ∷ ys) (suc i) x less is now = rw (← one_found p ys i x (omega arith) is now) (sym (or_true (p y)))

pub none_found : {X : Type 0} (p : X → Bool) (xs : List X) (i : ℕ) → length xs ≤ i → list_any p (take i xs) ≡ false → false ≡ list_any p xs
none_found p xs i past none = sym none ∙ ap (list_any p) (take_all i xs past)
