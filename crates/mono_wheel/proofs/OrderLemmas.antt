-- The order of keys in the lists, after a key is inserted or removed.
use Rattle.std.proofs.Common.{◌≡◌, ◌≢◌, ℕ, ◌<◌, ◌⊎◌, inl, inr, length, List, [], ◌∷◌, ◌++◌, set, sym, ◌∙◌, subst, get_or-set_same, get_or-set_other}
use Rattle.std.proofs.lemmas.Bool.Decides.{eqb_tells}
use Rattle.mono_wheel.specs.Lists.{IsIn, without}
use Rattle.mono_wheel.specs.Rings.{at}
use Rattle.mono_wheel.specs.Model.{StandsBehind}
use Rattle.mono_wheel.proofs.ChainLemmas.{without-stays}

pub behind-lower : (xs : List ℕ) (a b : ℕ) → StandsBehind xs a b → IsIn a xs
behind-lower [] a b h = absurd h
behind-lower (x ∷ xs) a b (inl h) = inr h.1
behind-lower (x ∷ xs) a b (inr h) = inr (behind-lower xs a b h)

pub behind-upper : (xs : List ℕ) (a b : ℕ) → StandsBehind xs a b → IsIn b xs
behind-upper [] a b h = absurd h
behind-upper (x ∷ xs) a b (inl h) = inl (sym h.0)
behind-upper (x ∷ xs) a b (inr h) = inr (behind-upper xs a b h)

pub behind-without : (xs : List ℕ) (key a b : ℕ) → a ≢ key → b ≢ key → StandsBehind xs a b → StandsBehind (without key xs) a b
behind-without [] key a b na nb h = h
behind-without (x ∷ xs) key a b na nb h = elim (eqb_tells key x) [
  | inl e ↦ rw (e.0) (elim h [
    | inl t ↦ absurd (nb (sym t.0 ∙ sym e.1))
    | inr t ↦ t
  ])
  | inr e ↦ rw (e.0) (elim h [
    | inl t ↦ inl (t.0, without-stays a key xs na t.1)
    | inr t ↦ inr (behind-without xs key a b na nb t)
  ])
]

-- of a list with one more at its end
pub behind-last : (front : List ℕ) (key a b : ℕ) → StandsBehind (front ++ key ∷ []) a b → (StandsBehind front a b) ⊎ ((a ≡ key) × IsIn b front)
behind-last [] key a b (inl h) = absurd h.1
behind-last [] key a b (inr h) = absurd h
behind-last (x ∷ xs) key a b (inl h) = elim (in-last xs key a h.1) [
  | inl i ↦ inl (inl (h.0, i))
  | inr e ↦ inr (e, inl (sym h.0))
]
  where
    in-last : (front : List ℕ) (key a : ℕ) → IsIn a (front ++ key ∷ []) → (IsIn a front) ⊎ (a ≡ key)
    in-last [] key a (inl e) = inr e
    in-last [] key a (inr e) = absurd e
    in-last (y ∷ ys) key a (inl e) = inl (inl e)
    in-last (y ∷ ys) key a (inr i) = elim (in-last ys key a i) [ inl j ↦ inl (inr j) | inr e ↦ inr e ]
behind-last (x ∷ xs) key a b (inr h) = elim (behind-last xs key a b h) [
  | inl t ↦ inl (inr t)
  | inr t ↦ inr (t.0, inr t.1)
]

-- one list of these has one more at its front
pub behind-pushed : (lines : List (List ℕ)) (list key a b l : ℕ) → list < length lines → StandsBehind (at lines l) a b → StandsBehind (at (set lines list (key ∷ at lines list)) l) a b
behind-pushed lines list key a b l low h = elim (eqb_tells l list) [
  | inl e ↦ subst (λ z. StandsBehind (at (set lines list (key ∷ at lines list)) z) a b) (sym e.1)
      (subst (λ zs. StandsBehind zs a b) (sym (get_or-set_same lines list (key ∷ at lines list) [] low)) (inr (subst (λ z. StandsBehind (at lines z) a b) e.1 h)))
  | inr e ↦ subst (λ zs. StandsBehind zs a b) (sym (get_or-set_other lines list l (key ∷ at lines list) [] e.1)) h
]

-- one list of these has a key less
pub behind-removed : (lines : List (List ℕ)) (list key a b l : ℕ) → list < length lines → a ≢ key → b ≢ key → StandsBehind (at lines l) a b →
    StandsBehind (at (set lines list (without key (at lines list))) l) a b
behind-removed lines list key a b l low na nb h = elim (eqb_tells l list) [
  | inl e ↦ subst (λ z. StandsBehind (at (set lines list (without key (at lines list))) z) a b) (sym e.1)
      (subst (λ zs. StandsBehind zs a b) (sym (get_or-set_same lines list (without key (at lines list)) [] low)) (behind-without (at lines list) key a b na nb (subst (λ z. StandsBehind (at lines z) a b) e.1 h)))
  | inr e ↦ subst (λ zs. StandsBehind zs a b) (sym (get_or-set_other lines list l (without key (at lines list)) [] e.1)) h
]
