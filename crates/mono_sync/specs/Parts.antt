-- A value of several parts: whom it lists and whom it owes, by its parts.
use Rattle.std.specs.Prelude.{Bool, true, false, ◌≡◌, ◌==◌, ◌||◌, ℕ, zero, suc, List, [], ◌∷◌, ◌++◌, Some, None}
use Rattle.std.specs.List.{list_any}
use Rattle.std.proofs.Common.{refl, sym, ap, ◌∙◌, inl}
use Rattle.mono_task.specs.Owed.{Keeps, Hands}

false-true : false ≡ true → ⊥
false-true e = cc

cons-nil : (t : ℕ) (ts : List ℕ) → t ∷ ts ≡ [] → ⊥
cons-nil t ts e = cc

or_right : (b x : Bool) → x ≡ true → (b || x) ≡ true
or_right true x is = refl
or_right false x is = is

or_later : (b x y : Bool) → (x ≡ true → y ≡ true) → (b || x) ≡ true → (b || y) ≡ true
or_later true x y f is = refl
or_later false x y f is = f is

any_first : (t : ℕ) (us vs : List ℕ) → list_any (λ u. u == t) us ≡ true → list_any (λ u. u == t) (us ++ vs) ≡ true
any_first t [] vs is = absurd (false-true is)
any_first t (u ∷ us) vs is = or_later (u == t) (list_any (λ v. v == t) us) (list_any (λ v. v == t) (us ++ vs)) (any_first t us vs) is

any_second : (t : ℕ) (us vs : List ℕ) → list_any (λ u. u == t) vs ≡ true → list_any (λ u. u == t) (us ++ vs) ≡ true
any_second t [] vs is = is
any_second t (u ∷ us) vs is = or_right (u == t) _ (any_second t us vs is)

pub nil_first : (ts us : List ℕ) → ts ++ us ≡ [] → ts ≡ []
nil_first [] us is = refl
nil_first (t ∷ ts) us is = absurd (cons-nil t (ts ++ us) is)

pub nil_second : (ts us : List ℕ) → ts ++ us ≡ [] → us ≡ []
nil_second [] us is = is
nil_second (t ∷ ts) us is = absurd (cons-nil t (ts ++ us) is)

module _ {W : Type 0} (one two : W → List ℕ → ℕ → Bool) where
  -- The places of the first part begin with 0, those of the second with a greater number. A third part is a part of the
  -- second.
  abbrev pub lists_two : W → List ℕ → ℕ → Bool
  lists_two w [] t = false
  lists_two w (zero ∷ p) t = one w p t
  lists_two w (suc n ∷ p) t = two w p t

  -- the value keeps its tasks if each part does
  pub two_keep : (me : ℕ) (a b : W) → Keeps one me a b → Keeps two me a b → Keeps lists_two me a b
  two_keep me a b p q [] t is = absurd (false-true is)
  two_keep me a b p q (zero ∷ r) t is = p r t is
  two_keep me a b p q (suc n ∷ r) t is = q r t is

  -- each task that the value lists waits in one of its parts
  pub two_some : (us vs : W → List ℕ) → ((w : W) (p : List ℕ) (t : ℕ) → one w p t ≡ true → list_any (λ u. u == t) (us w) ≡ true) → ((w : W) (p : List ℕ) (t : ℕ) → two w p t ≡ true → list_any (λ u. u == t) (vs w) ≡ true)
      → (w : W) (p : List ℕ) (t : ℕ) → lists_two w p t ≡ true → list_any (λ u. u == t) (us w ++ vs w) ≡ true
  two_some us vs p q w [] t is = absurd (false-true is)
  two_some us vs p q w (zero ∷ r) t is = any_first t (us w) (vs w) (p w r t is)
  two_some us vs p q w (suc n ∷ r) t is = any_second t (us w) (vs w) (q w r t is)

  module _ (owes_one owes_two : W → List ℕ) where
    abbrev pub owes_both : W → List ℕ
    owes_both w = owes_one w ++ owes_two w

    -- the first part hands out a task, and the second stays
    pub one_hands : (a b : W) (t : ℕ) → Hands one owes_one a (Some t) b → Keeps two t a b → owes_two a ≡ owes_two b → Hands lists_two owes_both a (Some t) b
    one_hands a b t p kept same = (ap (λ ts. ts ++ owes_two a) p.0 ∙ ap (λ ts. t ∷ (owes_one b ++ ts)) same, two_keep t a b p.1 kept)

    -- the first part owes nothing, and the second hands out a task
    pub two_hands : (a b : W) (t : ℕ) → owes_one a ≡ [] → owes_one b ≡ [] → Keeps one t a b → Hands two owes_two a (Some t) b → Hands lists_two owes_both a (Some t) b
    two_hands a b t none still kept p = (ap (λ ts. ts ++ owes_two a) none ∙ p.0 ∙ ap (λ ts. t ∷ (ts ++ owes_two b)) (sym still), two_keep t a b kept p.1)

    -- neither part owes a task
    pub none_hand : (a b : W) → owes_one a ≡ [] → owes_two a ≡ [] → b ≡ a → Hands lists_two owes_both a None b
    none_hand a b one_none two_none same = (ap (λ ts. ts ++ owes_two a) one_none ∙ two_none, same)

module _ {W X : Type 0} (part : W → X) (lists : X → List ℕ → ℕ → Bool) where
  -- a part that stays keeps its tasks
  pub part_stays : (me : ℕ) (a b : W) → part b ≡ part a → Keeps (λ w. lists (part w)) me a b
  part_stays me a b same p t is = inl (ap (λ x. lists x p t) same ∙ is)

-- A value of two parts, and perhaps of others that list and owe nobody.
module _ {W X Y : Type 0} (first : W → X) (second : W → Y) (x_lists : X → List ℕ → ℕ → Bool) (y_lists : Y → List ℕ → ℕ → Bool) where
  abbrev pub lists_parts : W → List ℕ → ℕ → Bool
  lists_parts = lists_two (λ w. x_lists (first w)) (λ w. y_lists (second w))

  -- the first part alone changed
  pub first_keeps : (me : ℕ) (a b : W) → Keeps x_lists me (first a) (first b) → second b ≡ second a → Keeps lists_parts me a b
  first_keeps me a b p same = two_keep (λ w. x_lists (first w)) (λ w. y_lists (second w)) me a b p (part_stays second y_lists me a b same)

  -- the second part alone changed
  pub second_keeps : (me : ℕ) (a b : W) → first b ≡ first a → Keeps y_lists me (second a) (second b) → Keeps lists_parts me a b
  second_keeps me a b same q = two_keep (λ w. x_lists (first w)) (λ w. y_lists (second w)) me a b (part_stays first x_lists me a b same) q

  pub some_parts : (us : X → List ℕ) (vs : Y → List ℕ) → ((x : X) (p : List ℕ) (t : ℕ) → x_lists x p t ≡ true → list_any (λ u. u == t) (us x) ≡ true) → ((y : Y) (p : List ℕ) (t : ℕ) → y_lists y p t ≡ true → list_any (λ u. u == t) (vs y) ≡ true)
      → (w : W) (p : List ℕ) (t : ℕ) → lists_parts w p t ≡ true → list_any (λ u. u == t) (us (first w) ++ vs (second w)) ≡ true
  some_parts us vs p q = two_some (λ w. x_lists (first w)) (λ w. y_lists (second w)) (λ w. us (first w)) (λ w. vs (second w)) (λ w. p (first w)) (λ w. q (second w))

  module _ (x_owes : X → List ℕ) (y_owes : Y → List ℕ) where
    abbrev pub owes_parts : W → List ℕ
    owes_parts = owes_both (λ w. x_lists (first w)) (λ w. y_lists (second w)) (λ w. x_owes (first w)) (λ w. y_owes (second w))

    -- the first part hands out a task
    pub first_next : (a b : W) (t : ℕ) → Hands x_lists x_owes (first a) (Some t) (first b) → second b ≡ second a → Hands lists_parts owes_parts a (Some t) b
    first_next a b t p same = one_hands (λ w. x_lists (first w)) (λ w. y_lists (second w)) (λ w. x_owes (first w)) (λ w. y_owes (second w)) a b t p (part_stays second y_lists t a b same) (sym (ap y_owes same))

    -- the first part owes nobody, and the second hands out a task
    pub second_next : (a b : W) (t : ℕ) → Hands x_lists x_owes (first a) None (first b) → Hands y_lists y_owes (second a) (Some t) (second b) → Hands lists_parts owes_parts a (Some t) b
    second_next a b t p q = two_hands (λ w. x_lists (first w)) (λ w. y_lists (second w)) (λ w. x_owes (first w)) (λ w. y_owes (second w)) a b t p.0 (ap x_owes p.1 ∙ p.0) (part_stays first x_lists t a b p.1) q

    -- neither part owes a task, and the value is the same if its parts are
    pub none_next : (a b : W) → Hands x_lists x_owes (first a) None (first b) → Hands y_lists y_owes (second a) None (second b) → (first b ≡ first a → second b ≡ second a → b ≡ a) → Hands lists_parts owes_parts a None b
    none_next a b p q whole = none_hand (λ w. x_lists (first w)) (λ w. y_lists (second w)) (λ w. x_owes (first w)) (λ w. y_owes (second w)) a b p.0 q.0 (whole p.1 q.1)
