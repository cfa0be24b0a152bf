-- Who stands in a list after one leaves it or joins it.
use Rattle.std.proofs.Common.{◌≡◌, ◌==◌, ◌&&◌, ◌||◌, ◌⊎◌, ℕ, zero, suc, Bool, true, false, cond, List, [], ◌∷◌, ◌++◌, filter, refl, sym, ap, ◌∙◌, inl, inr, slice_index_or}
use Rattle.std.specs.List.{list_any, remove}
use Rattle.std.proofs.lemmas.Bool.Decides.{eqb_tells}
use Rattle.mono_serve.specs.Stands.{stands}

pub false-true : false ≡ true → ⊥
false-true e = cc

pub same_number : (u t : ℕ) → (u == t) ≡ true → u ≡ t
same_number u t is = elim (eqb_tells u t) [ inl here ↦ here.1 | inr apart ↦ absurd (false-true (sym apart.0 ∙ is)) ]

pub and_left : (a b : Bool) → (a && b) ≡ true → a ≡ true
and_left true b is = refl
and_left false b is = is

pub or_mono : (b x y : Bool) → (x ≡ true → y ≡ true) → (b || x) ≡ true → (b || y) ≡ true
or_mono true x y f is = refl
or_mono false x y f is = f is

pub or_split : (b x : Bool) → (b || x) ≡ true → (b ≡ true) ⊎ (x ≡ true)
or_split true x is = inl refl
or_split false x is = inr is

pub or_right : (b x : Bool) → x ≡ true → (b || x) ≡ true
or_right true x is = refl
or_right false x is = is

pub or_left : (b x : Bool) → b ≡ true → (b || x) ≡ true
or_left b x is = ap (λ y. y || x) is

module _ {X : Type 0} (test : X → Bool) where
  pub any_left : (xs ys : List X) → list_any test xs ≡ true → list_any test (xs ++ ys) ≡ true
  any_left [] ys is = absurd (false-true is)
  any_left (x ∷ xs) ys is = or_mono (test x) (list_any test xs) (list_any test (xs ++ ys)) (any_left xs ys) is

  pub any_right : (xs ys : List X) → list_any test ys ≡ true → list_any test (xs ++ ys) ≡ true
  any_right [] ys is = is
  any_right (x ∷ xs) ys is = or_right (test x) (list_any test (xs ++ ys)) (any_right xs ys is)

  pub any_split : (xs ys : List X) → list_any test (xs ++ ys) ≡ true → (list_any test xs ≡ true) ⊎ (list_any test ys ≡ true)
  any_split [] ys is = inr is
  any_split (x ∷ xs) ys is = elim (or_split (test x) (list_any test (xs ++ ys)) is) [
    | inl here ↦ inl (or_left (test x) (list_any test xs) here)
    | inr later ↦ elim (any_split xs ys later) [ inl first ↦ inl (or_right (test x) (list_any test xs) first) | inr second ↦ inr second ]
  ]

  -- who stands in a list stands in it without one element, or is that element
  pub any_removed : (xs : List X) (i : ℕ) (x : X) → x ≡ slice_index_or xs i x → list_any test xs ≡ true → (list_any test (remove xs i) ≡ true) ⊎ (test x ≡ true)
  any_removed [] i x at is = absurd (false-true is)
  any_removed (y ∷ ys) zero x at is = elim (or_split (test y) (list_any test ys) is) [
    | inl here ↦ inr (ap test at ∙ here)
    | inr later ↦ inl later
  ]
  any_removed (y ∷ ys) (suc i) x at is = elim (or_split (test y) (list_any test ys) is) [
    | inl here ↦ inl (or_left (test y) (list_any test (remove ys i)) here)
    | inr later ↦ elim (any_removed ys i x at later) [
      | inl stays ↦ inl (or_right (test y) (list_any test (remove ys i)) stays)
      | inr gone ↦ inr gone
    ]
  ]

module _ {X : Type 0} (task_of : X → ℕ) (is_at : List ℕ → X → Bool) where
  -- who stands is the element's task
  pub stands_as : (x : X) (p : List ℕ) (t : ℕ) → ((task_of x == t) && is_at p x) ≡ true → t ≡ task_of x
  stands_as x p t is = sym (same_number (task_of x) t (and_left (task_of x == t) (is_at p x) is))

  -- Whoever stands in the first list stands in the second, but for one task.
  abbrev pub KeptIn : ℕ → List X → List X → Type 0
  KeptIn me xs ys = (p : List ℕ) (t : ℕ) → stands task_of is_at xs p t ≡ true → (stands task_of is_at ys p t ≡ true) ⊎ (t ≡ me)

  pub kept_same : (me : ℕ) (xs ys : List X) → ys ≡ xs → KeptIn me xs ys
  kept_same me xs ys same p t is = inl (ap (λ zs. stands task_of is_at zs p t) same ∙ is)

  -- one joins the first of two lists
  pub kept_joined : (me : ℕ) (xs ds : List X) (x : X) → KeptIn me (xs ++ ds) ((xs ++ x ∷ []) ++ ds)
  kept_joined me xs ds x p t is = elim (any_split (λ z. (task_of z == t) && is_at p z) xs ds is) [
    | inl first ↦ inl (any_left (λ z. (task_of z == t) && is_at p z) (xs ++ x ∷ []) ds (any_left (λ z. (task_of z == t) && is_at p z) xs (x ∷ []) first))
    | inr second ↦ inl (any_right (λ z. (task_of z == t) && is_at p z) (xs ++ x ∷ []) ds second)
  ]

  -- the first of the second list leaves it
  pub kept_handed : (xs ds : List X) (x : X) → KeptIn (task_of x) (xs ++ x ∷ ds) (xs ++ ds)
  kept_handed xs ds x p t is = elim (any_split (λ z. (task_of z == t) && is_at p z) xs (x ∷ ds) is) [
    | inl first ↦ inl (any_left (λ z. (task_of z == t) && is_at p z) xs ds first)
    | inr second ↦ elim (or_split ((task_of x == t) && is_at p x) (stands task_of is_at ds p t) second) [
      | inl here ↦ inr (stands_as x p t here)
      | inr later ↦ inl (any_right (λ z. (task_of z == t) && is_at p z) xs ds later)
    ]
  ]

  -- one leaves the first list, and joins the second unless it is the running task
  pub kept_moved : (me : ℕ) (xs ds more : List X) (i : ℕ) (x : X) → x ≡ slice_index_or xs i x → ((p : List ℕ) (t : ℕ) → ((task_of x == t) && is_at p x) ≡ true → (stands task_of is_at more p t ≡ true) ⊎ (t ≡ me))
      → KeptIn me (xs ++ ds) (remove xs i ++ (ds ++ more))
  kept_moved me xs ds more i x at goes p t is = elim (any_split (λ z. (task_of z == t) && is_at p z) xs ds is) [
    | inl first ↦ elim (any_removed (λ z. (task_of z == t) && is_at p z) xs i x at first) [
      | inl stays ↦ inl (any_left (λ z. (task_of z == t) && is_at p z) (remove xs i) (ds ++ more) stays)
      | inr gone ↦ elim (goes p t gone) [
        | inl there ↦ inl (any_right (λ z. (task_of z == t) && is_at p z) (remove xs i) (ds ++ more) (any_right (λ z. (task_of z == t) && is_at p z) ds more there))
        | inr mine ↦ inr mine
      ]
    ]
    | inr second ↦ inl (any_right (λ z. (task_of z == t) && is_at p z) (remove xs i) (ds ++ more) (any_left (λ z. (task_of z == t) && is_at p z) ds more second))
  ]

  -- one that is not the running task joins, and maybe others do
  pub others_stand : (b : Bool) (x : X) (me : ℕ) (more : List X) → (task_of x == me) ≡ b → (p : List ℕ) (t : ℕ) → ((task_of x == t) && is_at p x) ≡ true → (stands task_of is_at (cond b [] (x ∷ []) ++ more) p t ≡ true) ⊎ (t ≡ me)
  others_stand true x me more is p t here = inr (stands_as x p t here ∙ same_number (task_of x) me is)
  others_stand false x me more is p t here = inl (or_left ((task_of x == t) && is_at p x) (stands task_of is_at more p t) here)

module _ {X : Type 0} (task_of : X → ℕ) (is_at : List ℕ → X → Bool) (keep : X → Bool) (me : ℕ) (mine : (x : X) → keep x ≡ false → task_of x ≡ me) where
  abbrev at : List ℕ → ℕ → X → Bool
  at p t x = (task_of x == t) && is_at p x

  here_if : (c : Bool) (x : X) (us : List X) (p : List ℕ) (t : ℕ) → keep x ≡ c → at p t x ≡ true → (list_any (at p t) (cond c (x ∷ us) us) ≡ true) ⊎ (t ≡ me)
  here_if true x us p t is here = inl (or_left (at p t x) (list_any (at p t) us) here)
  here_if false x us p t is here = inr (stands_as task_of is_at x p t here ∙ mine x is)

  later_if : (c : Bool) (x : X) (us : List X) (p : List ℕ) (t : ℕ) → list_any (at p t) us ≡ true → list_any (at p t) (cond c (x ∷ us) us) ≡ true
  later_if true x us p t later = or_right (at p t x) (list_any (at p t) us) later
  later_if false x us p t later = later

  filtered : (xs : List X) (p : List ℕ) (t : ℕ) → list_any (at p t) xs ≡ true → (list_any (at p t) (filter keep xs) ≡ true) ⊎ (t ≡ me)
  filtered [] p t is = absurd (false-true is)
  filtered (x ∷ xs) p t is = elim (or_split (at p t x) (list_any (at p t) xs) is) [
    | inl here ↦ here_if (keep x) x (filter keep xs) p t refl here
    | inr later ↦ elim (filtered xs p t later) [ inl stays ↦ inl (later_if (keep x) x (filter keep xs) p t stays) | inr gone ↦ inr gone ]
  ]

  -- those that are not kept in the first list are the running task's
  pub kept_filtered : (xs ds : List X) → KeptIn task_of is_at me (xs ++ ds) (filter keep xs ++ ds)
  kept_filtered xs ds p t is = elim (any_split (at p t) xs ds is) [
    | inl first ↦ elim (filtered xs p t first) [ inl stays ↦ inl (any_left (at p t) (filter keep xs) ds stays) | inr gone ↦ inr gone ]
    | inr second ↦ inl (any_right (at p t) (filter keep xs) ds second)
  ]
