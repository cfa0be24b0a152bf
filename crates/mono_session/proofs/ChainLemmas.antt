-- The neighbours of the members of a list, as members come and leave.
use Rattle.std.proofs.Common.{◌≡◌, ◌≢◌, ◌⊎◌, inl, inr, ℕ, true, false, Bool, cond, List, [], ◌∷◌, ◌++◌, Some, None, Option, refl, ap, sym, ◌∙◌, arith}
use Rattle.std.specs.Prelude.{◌==◌, ◌||◌, ◌&&◌, not, nat_eq, is_some}
use Rattle.std.proofs.lemmas.Bool.Decides.{eqb_tells, nat_tests}
use Rattle.mono_session.specs.Keeper.{first_of}
use Rattle.mono_session.specs.Links.{pair_eq, is_in, IsOnce, last_of, ends_with, ends_of, place_in, left_by, with_after, with_before, linked_after, linked_before, with_last_end, last_end, closed_ends}
use Rattle.mono_session.specs.declared.places.Place.{Place}

abbrev pub between : Option ℕ → Option ℕ → Place
between before after = record { before = before; after = after }

-- A map of pairs after the value of one pair changed.
pub changed_here : {X : Type 0} (change : Option X → Option X) (f g : ℕ × ℕ → Option X) (queue member : ℕ) (w : X)
    → ((k : ℕ × ℕ) → g k ≡ cond (pair_eq (queue, member) k) (Some w) (f k)) → change (f (queue, member)) ≡ Some w
    → (q m : ℕ) → g (q, m) ≡ cond (nat_eq queue q && nat_eq member m) (change (f (q, m))) (f (q, m))
changed_here change f g queue member w all here q m = all (q, m) ∙ by (nat_eq queue q) (nat_eq member m) (eqb_tells queue q) (eqb_tells member m)
  where
    by : (a b : Bool) → ((a ≡ true) × (queue ≡ q)) ⊎ ((a ≡ false) × (queue ≢ q)) → ((b ≡ true) × (member ≡ m)) ⊎ ((b ≡ false) × (member ≢ m))
        → cond (a && b) (Some w) (f (q, m)) ≡ cond (a && b) (change (f (q, m))) (f (q, m))
    by true true (inl x) (inl y) = sym (ap (λ p. change (f (p, m))) (sym x.1) ∙ ap (λ p. change (f (queue, p))) (sym y.1) ∙ here)
    by true true (inl x) (inr y) = cc
    by true true (inr x) y = cc
    by true false x y = refl
    by false b x y = refl

-- ---- who stands there
pub place_in-some : (before : Option ℕ) (xs : List ℕ) (m : ℕ) → is_some (place_in before xs m) ≡ is_in xs m
place_in-some before [] m = refl
place_in-some before (x ∷ xs) m = by (x == m) (place_in-some (Some x) xs m)
  where
    by : (b : Bool) → is_some (place_in (Some x) xs m) ≡ is_in xs m → is_some (cond b (Some (between before (first_of xs))) (place_in (Some x) xs m)) ≡ (b || is_in xs m)
    by true rest = refl
    by false rest = rest

none_from_some : (o : Option Place) → is_some o ≡ false → o ≡ None
none_from_some None e = refl
none_from_some (Some place) e = cc

pub place_in-none : (before : Option ℕ) (xs : List ℕ) (m : ℕ) → is_in xs m ≡ false → place_in before xs m ≡ None
place_in-none before xs m out = none_from_some (place_in before xs m) (place_in-some before xs m ∙ out)

or_false : (a b : Bool) → (a || b) ≡ false → (a ≡ false) × (b ≡ false)
or_false true b e = cc
or_false false b e = (refl, e)

-- ---- a last member comes
is_in-last : (xs : List ℕ) (m y : ℕ) → is_in (xs ++ m ∷ []) y ≡ (is_in xs y || (m == y))
is_in-last [] m y = by (m == y)
  where
    by : (b : Bool) → (b || false) ≡ b
    by true = refl
    by false = refl
is_in-last (x ∷ xs) m y = by (x == y) (is_in-last xs m y)
  where
    by : (b : Bool) → is_in (xs ++ m ∷ []) y ≡ (is_in xs y || (m == y)) → (b || is_in (xs ++ m ∷ []) y) ≡ ((b || is_in xs y) || (m == y))
    by true rest = refl
    by false rest = rest

apart_is_false : (a b : ℕ) → (a == b) ≡ false → (b == a) ≡ false
apart_is_false a b e = grind (arith, nat_tests)

pub once-last : (xs : List ℕ) (m : ℕ) → IsOnce xs → is_in xs m ≡ false → IsOnce (xs ++ m ∷ [])
once-last [] m once out = (refl, tt)
once-last (x ∷ xs) m once out =
    let parts = or_false (x == m) (is_in xs m) out in
    (is_in-last xs m x ∙ ap (λ b. b || (m == x)) once.0 ∙ apart_is_false x m parts.0, once-last xs m once.1 parts.1)

pub last-last : (before : Option ℕ) (xs : List ℕ) (m : ℕ) → last_of before (xs ++ m ∷ []) ≡ Some m
last-last before [] m = refl
last-last before (x ∷ xs) m = last-last (Some x) xs m

-- The last of a list is in it.
last_within : (x : ℕ) (xs : List ℕ) (l : ℕ) → last_of (Some x) xs ≡ Some l → ((x == l) || is_in xs l) ≡ true
last_within x [] l e = grind (arith, nat_tests)
last_within x (y ∷ ys) l e = by (x == l) (last_within y ys l e)
  where
    by : (b : Bool) → ((y == l) || is_in ys l) ≡ true → (b || ((y == l) || is_in ys l)) ≡ true
    by true rest = refl
    by false rest = rest

clash : (x y l z : ℕ) (xs : List ℕ) → (x == y) ≡ true → (l == y) ≡ true → ((z == l) || is_in xs l) ≡ true → ((z == x) || is_in xs x) ≡ false → ⊥
clash x y l z xs is f within out = grind (arith, nat_tests)

-- The place of each after a last member came: the former last gets it as its successor, and the others' places stay.
pub place-last : (before : Option ℕ) (xs : List ℕ) (m y : ℕ) → IsOnce xs → (m == y) ≡ false
    → place_in before (xs ++ m ∷ []) y ≡ linked_after (last_of None xs) y (Some m) (place_in before xs y)
place-last before [] m y once apart = ap (λ b. cond b (Some (between before None)) None) apart
place-last before (x ∷ []) m y once apart = by (x == y)
  where
    by : (b : Bool) → cond b (Some (between before (Some m))) (cond (m == y) (Some (between (Some x) None)) None)
        ≡ cond b (with_after (Some m) (cond b (Some (between before None)) None)) (cond b (Some (between before None)) None)
    by true = refl
    by false = ap (λ b. cond b (Some (between (Some x) None)) None) apart
place-last before (x ∷ z ∷ xs) m y once apart = by (x == y) refl (place-last (Some x) (z ∷ xs) m y once.1 apart)
  where
    by : (b : Bool) → (x == y) ≡ b
        → place_in (Some x) ((z ∷ xs) ++ m ∷ []) y ≡ linked_after (last_of None (z ∷ xs)) y (Some m) (place_in (Some x) (z ∷ xs) y)
        → cond b (Some (between before (Some z))) (place_in (Some x) ((z ∷ xs) ++ m ∷ []) y)
        ≡ linked_after (last_of (Some z) xs) y (Some m) (cond b (Some (between before (Some z))) (place_in (Some x) (z ∷ xs) y))
    by false is rest = rest
    by true is rest = ends (last_of (Some z) xs) refl
      where
        ends : (l : Option ℕ) → last_of (Some z) xs ≡ l → Some (between before (Some z)) ≡ linked_after l y (Some m) (Some (between before (Some z)))
        ends None e = refl
        ends (Some l) e = same (l == y) refl
          where
            same : (b : Bool) → (l == y) ≡ b → Some (between before (Some z)) ≡ cond b (Some (between before (Some m))) (Some (between before (Some z)))
            same false f = refl
            same true f =
                let within = last_within z xs l e in
                let out : ((z == x) || is_in xs x) ≡ false = once.0 in
                absurd (clash x y l z xs is f within out)

-- ---- a member leaves
pub true-false : true ≡ false → ⊥
true-false e = cc

some_none : {X : Type 0} (x : X) → Some x ≡ None → ⊥
some_none x e = cc

pub left_by-none : (m : ℕ) (xs : List ℕ) → is_in xs m ≡ false → left_by m xs ≡ xs
left_by-none m [] out = refl
left_by-none m (x ∷ xs) out = by (x == m) (or_false (x == m) (is_in xs m) out) (left_by-none m xs)
  where
    by : (b : Bool) → (b ≡ false) × (is_in xs m ≡ false) → (is_in xs m ≡ false → left_by m xs ≡ xs) → cond (not b) (x ∷ left_by m xs) (left_by m xs) ≡ x ∷ xs
    by true parts rest = absurd (true-false parts.0)
    by false parts rest = ap (λ ys. x ∷ ys) (rest parts.1)

is_in-left : (m : ℕ) (xs : List ℕ) (y : ℕ) → is_in xs y ≡ false → is_in (left_by m xs) y ≡ false
is_in-left m [] y out = refl
is_in-left m (x ∷ xs) y out = by (x == m) (or_false (x == y) (is_in xs y) out) (is_in-left m xs y)
  where
    by : (b : Bool) → ((x == y) ≡ false) × (is_in xs y ≡ false) → (is_in xs y ≡ false → is_in (left_by m xs) y ≡ false) → is_in (cond (not b) (x ∷ left_by m xs) (left_by m xs)) y ≡ false
    by true parts rest = rest parts.1
    by false parts rest = ap (λ b. b || is_in (left_by m xs) y) parts.0 ∙ rest parts.1

pub once-left : (m : ℕ) (xs : List ℕ) → IsOnce xs → IsOnce (left_by m xs)
once-left m [] once = tt
once-left m (x ∷ xs) once = by (x == m) (once-left m xs once.1)
  where
    by : (b : Bool) → IsOnce (left_by m xs) → IsOnce (cond (not b) (x ∷ left_by m xs) (left_by m xs))
    by true rest = rest
    by false rest = (is_in-left m xs x once.0, rest)

-- A member's successor is in the list. So is its predecessor, unless that is the number before the list.
after_within : (before : Option ℕ) (xs : List ℕ) (m : ℕ) (p : Place) (c : ℕ) → place_in before xs m ≡ Some p → p.after ≡ Some c → is_in xs c ≡ true
after_within before [] m p c e at = cc
after_within before (x ∷ xs) m p c e at = by (x == m) e (after_within (Some x) xs m p c)
  where
    or_true : (b : Bool) → (b || true) ≡ true
    or_true true = refl
    or_true false = refl

    first_within : (ys : List ℕ) → first_of ys ≡ Some c → is_in ys c ≡ true
    first_within [] f = cc
    first_within (z ∷ zs) f = grind (arith, nat_tests)

    by : (b : Bool) → cond b (Some (between before (first_of xs))) (place_in (Some x) xs m) ≡ Some p
        → (place_in (Some x) xs m ≡ Some p → p.after ≡ Some c → is_in xs c ≡ true) → ((x == c) || is_in xs c) ≡ true
    by true f rest = ap (λ b. (x == c) || b) (first_within xs cc) ∙ or_true (x == c)
    by false f rest = ap (λ b. (x == c) || b) (rest f at) ∙ or_true (x == c)

before_within : (b : ℕ) (xs : List ℕ) (m : ℕ) (p : Place) (c : ℕ) → place_in (Some b) xs m ≡ Some p → p.before ≡ Some c → ((b == c) || is_in xs c) ≡ true
before_within b [] m p c e at = cc
before_within b (x ∷ xs) m p c e at = by (x == m) e (before_within x xs m p c)
  where
    or_true : (t : Bool) → (t || true) ≡ true
    or_true true = refl
    or_true false = refl

    same : (s t : ℕ) → Some s ≡ Some t → (s == t) ≡ true
    same s t f = grind (arith, nat_tests)

    by : (t : Bool) → cond t (Some (between (Some b) (first_of xs))) (place_in (Some x) xs m) ≡ Some p
        → (place_in (Some x) xs m ≡ Some p → p.before ≡ Some c → ((x == c) || is_in xs c) ≡ true) → ((b == c) || ((x == c) || is_in xs c)) ≡ true
    by true f rest = ap (λ t. t || ((x == c) || is_in xs c)) (same b c cc)
    by false f rest = ap (λ t. (b == c) || t) (rest f at) ∙ or_true (b == c)

-- who is not meant keeps its place
pub other_after : (o : Option ℕ) (y : ℕ) (after : Option ℕ) (v : Option Place) → ((c : ℕ) → o ≡ Some c → (c == y) ≡ false) → linked_after o y after v ≡ v
other_after None y after v apart = refl
other_after (Some c) y after v apart = ap (λ b. cond b (with_after after v) v) (apart c refl)

other_before : (o : Option ℕ) (y : ℕ) (before : Option ℕ) (v : Option Place) → ((c : ℕ) → o ≡ Some c → (c == y) ≡ false) → linked_before o y before v ≡ v
other_before None y before v apart = refl
other_before (Some c) y before v apart = ap (λ b. cond b (with_before before v) v) (apart c refl)

-- The number before a list is not in it.
abbrev Outside : Option ℕ → List ℕ → Type 0
Outside None xs = Unit {0}
Outside (Some b) xs = is_in xs b ≡ false

outside_after : (before : Option ℕ) (x : ℕ) (xs : List ℕ) (y : ℕ) (after : Option ℕ) (a : Option ℕ) → Outside before (x ∷ xs) → linked_after before y after (place_in a xs y) ≡ place_in a xs y
outside_after None x xs y after a out = refl
outside_after (Some b) x xs y after a out = by (b == y) refl
  where
    eq : (s t : ℕ) → (s == t) ≡ true → s ≡ t
    eq s t f = grind (arith, nat_tests)

    by : (t : Bool) → (b == y) ≡ t → cond t (with_after after (place_in a xs y)) (place_in a xs y) ≡ place_in a xs y
    by false f = refl
    by true f =
        let none : place_in a xs y ≡ None = place_in-none a xs y (ap (is_in xs) (sym (eq b y f)) ∙ (or_false (x == b) (is_in xs b) out).1) in
        ap (with_after after) none ∙ sym none

-- the first of a list has another before it
first_before : (before a : Option ℕ) (xs : List ℕ) (y : ℕ) → place_in before xs y ≡ linked_before (first_of xs) y before (place_in a xs y)
first_before before a [] y = refl
first_before before a (z ∷ zs) y = by (z == y)
  where
    by : (b : Bool) → cond b (Some (between before (first_of zs))) (place_in (Some z) zs y)
        ≡ cond b (with_before before (cond b (Some (between a (first_of zs))) (place_in (Some z) zs y))) (cond b (Some (between a (first_of zs))) (place_in (Some z) zs y))
    by true = refl
    by false = refl

-- A member that leaves a chain joins its neighbours: the places are those of the list without it.
abbrev pub joined : Place → ℕ → ℕ → Option Place → Option Place
joined p m y v = linked_before p.after y p.before (linked_after p.before y p.after (cond (m == y) None v))

eq-from : (s t : ℕ) → (s == t) ≡ true → s ≡ t
eq-from s t f = grind (arith, nat_tests)

eq-tells : (s t : ℕ) → s ≡ t → (s == t) ≡ true
eq-tells s t f = grind (arith, nat_tests)

joined_other : (p : Place) (m y : ℕ) (v : Option Place) → (m == y) ≡ false → ((c : ℕ) → p.after ≡ Some c → (c == y) ≡ false) → ((c : ℕ) → p.before ≡ Some c → (c == y) ≡ false) → joined p m y v ≡ v
joined_other p m y v apart after before =
    other_before p.after y p.before (linked_after p.before y p.after (cond (m == y) None v)) after
    ∙ other_after p.before y p.after (cond (m == y) None v) before
    ∙ ap (λ t. cond t None v) apart

joined_next : (p : Place) (m y : ℕ) (a b : Option ℕ) → (m == y) ≡ false → ((c : ℕ) → p.after ≡ Some c → (c == y) ≡ false) → p.before ≡ Some y → joined p m y (Some (between a b)) ≡ Some (between a p.after)
joined_next p m y a b apart after at =
    let v : Option Place = cond (m == y) None (Some (between a b)) in
    other_before p.after y p.before (linked_after p.before y p.after v) after
    ∙ ap (λ o. linked_after o y p.after v) at
    ∙ ap (λ t. cond t (with_after p.after v) v) (eq-tells y y refl)
    ∙ ap (λ t. with_after p.after (cond t None (Some (between a b)))) apart

-- A number in a list differs from a number that is not in it.
differs : (xs : List ℕ) (c y : ℕ) → is_in xs c ≡ true → is_in xs y ≡ false → (c == y) ≡ false
differs xs c y within out = by (c == y) refl
  where
    by : (b : Bool) → (c == y) ≡ b → b ≡ false
    by false f = refl
    by true f = absurd (true-false (sym within ∙ ap (is_in xs) (eq-from c y f) ∙ out))

joined_first : (before : Option ℕ) (x : ℕ) (xs : List ℕ) (y : ℕ) → Outside before (x ∷ xs) → is_in xs x ≡ false
    → place_in before xs y ≡ joined (between before (first_of xs)) x y (cond (x == y) (Some (between before (first_of xs))) (place_in (Some x) xs y))
joined_first before x xs y out once = first_before before (Some x) xs y ∙ ap (linked_before (first_of xs) y before) (sym (outside_after before x xs y (first_of xs) (Some x) out)
    ∙ ap (linked_after before y (first_of xs)) (by (x == y) refl))
  where
    by : (b : Bool) → (x == y) ≡ b → place_in (Some x) xs y ≡ cond b None (cond b (Some (between before (first_of xs))) (place_in (Some x) xs y))
    by true f = place_in-none (Some x) xs y (ap (is_in xs) (sym (eq-from x y f)) ∙ once)
    by false f = refl

after_of : (p : Place) (before after : Option ℕ) → Some (between before after) ≡ Some p → p.after ≡ after
after_of p before after e = cc

before_of : (p : Place) (before after : Option ℕ) → Some (between before after) ≡ Some p → p.before ≡ before
before_of p before after e = cc

-- The place of the first, x, after a member m that follows it left.
first_joined : (before : Option ℕ) (x : ℕ) (xs : List ℕ) (m : ℕ) (p : Place) → is_in xs x ≡ false → IsOnce xs → (m == x) ≡ false → place_in (Some x) xs m ≡ Some p
    → Some (between before (first_of (left_by m xs))) ≡ joined p m x (Some (between before (first_of xs)))
first_joined before x [] m p out once apart e = cc
first_joined before x (z ∷ zs) m p out once apart e = by (z == m) refl e
  where
    after : (c : ℕ) → p.after ≡ Some c → (c == x) ≡ false
    after c at = differs (z ∷ zs) c x (after_within (Some x) (z ∷ zs) m p c e at) out

    by : (b : Bool) → (z == m) ≡ b → cond b (Some (between (Some x) (first_of zs))) (place_in (Some z) zs m) ≡ Some p
        → Some (between before (first_of (cond (not b) (z ∷ left_by m zs) (left_by m zs)))) ≡ joined p m x (Some (between before (Some z)))
    by true is f =
        let all : left_by m zs ≡ zs = left_by-none m zs (ap (is_in zs) (sym (eq-from z m is)) ∙ once.0) in
        ap (λ ys. Some (between before (first_of ys))) all ∙ ap (λ o. Some (between before o)) (sym (after_of p (Some x) (first_of zs) f))
        ∙ sym (joined_next p m x before (Some z) apart after (before_of p (Some x) (first_of zs) f))
    by false is f = sym (joined_other p m x (Some (between before (Some z))) apart after (λ c at. differs (z ∷ zs) c x (before_within z zs m p c f at) out))

pub place-left : (before : Option ℕ) (xs : List ℕ) (m : ℕ) (p : Place) (y : ℕ) → Outside before xs → IsOnce xs → place_in before xs m ≡ Some p
    → place_in before (left_by m xs) y ≡ joined p m y (place_in before xs y)
place-left before [] m p y out once e = cc
place-left before (x ∷ xs) m p y out once e = by (x == m) refl e (place-left (Some x) xs m p y once.0 once.1)
  where
    by : (b : Bool) → (x == m) ≡ b → cond b (Some (between before (first_of xs))) (place_in (Some x) xs m) ≡ Some p
        → (place_in (Some x) xs m ≡ Some p → place_in (Some x) (left_by m xs) y ≡ joined p m y (place_in (Some x) xs y))
        → place_in before (cond (not b) (x ∷ left_by m xs) (left_by m xs)) y ≡ joined p m y (cond (x == y) (Some (between before (first_of xs))) (place_in (Some x) xs y))
    by true is f rest =
        let all : left_by m xs ≡ xs = left_by-none m xs (ap (is_in xs) (sym (eq-from x m is)) ∙ once.0) in
        let is-p : between before (first_of xs) ≡ p = cc in
        ap (λ ys. place_in before ys y) all ∙ joined_first before x xs y out once.0
        ∙ ap (λ q. joined q x y (cond (x == y) (Some (between before (first_of xs))) (place_in (Some x) xs y))) is-p
        ∙ ap (λ q. joined p q y (cond (x == y) (Some (between before (first_of xs))) (place_in (Some x) xs y))) (eq-from x m is)
    by false is f rest = here (x == y) refl
      where
        here : (b : Bool) → (x == y) ≡ b → cond b (Some (between before (first_of (left_by m xs)))) (place_in (Some x) (left_by m xs) y) ≡ joined p m y (cond b (Some (between before (first_of xs))) (place_in (Some x) xs y))
        here false g = rest f
        here true g =
            let is-y : x ≡ y = eq-from x y g in
            first_joined before x xs m p once.0 once.1 (apart_is_false x m is) f ∙ ap (λ q. joined p m q (Some (between before (first_of xs)))) is-y

-- ---- the ends
last_is_some : (x : ℕ) (xs : List ℕ) → last_of (Some x) xs ≡ None → ⊥
last_is_some x [] e = cc
last_is_some x (y ∷ ys) e = last_is_some y ys e

pub last-end : (xs : List ℕ) → last_end (ends_of xs) ≡ last_of None xs
last-end [] = refl
last-end (x ∷ xs) = by (last_of (Some x) xs) (last_is_some x xs)
  where
    by : (o : Option ℕ) → (o ≡ None → ⊥) → last_end (ends_with (Some x) o) ≡ o
    by None some = absurd (some refl)
    by (Some l) some = refl

pub ends-last : (xs : List ℕ) (m : ℕ) → ends_of (xs ++ m ∷ []) ≡ with_last_end m (ends_of xs)
ends-last [] m = refl
ends-last (x ∷ xs) m = ap (ends_with (Some x)) (last-last (Some x) xs m) ∙ by (last_of (Some x) xs) (last_is_some x xs)
  where
    by : (o : Option ℕ) → (o ≡ None → ⊥) → ends_with (Some x) (Some m) ≡ with_last_end m (ends_with (Some x) o)
    by None some = absurd (some refl)
    by (Some l) some = refl

-- A member that follows another has a predecessor.
before_is_some : (b : ℕ) (xs : List ℕ) (m : ℕ) (p : Place) → place_in (Some b) xs m ≡ Some p → p.before ≡ None → ⊥
before_is_some b [] m p e none = cc
before_is_some b (x ∷ xs) m p e none = by (x == m) e (before_is_some x xs m p)
  where
    by : (t : Bool) → cond t (Some (between (Some b) (first_of xs))) (place_in (Some x) xs m) ≡ Some p → (place_in (Some x) xs m ≡ Some p → p.before ≡ None → ⊥) → ⊥
    by true f rest = some_none b (sym (before_of p (Some b) (first_of xs) f) ∙ none)
    by false f rest = rest f none

-- The last after m left: it stays if m was not the last.
abbrev last-from : Option ℕ → Option ℕ → Option ℕ → Option ℕ
last-from None before last = before
last-from (Some after) before last = last

last-left : (before : Option ℕ) (xs : List ℕ) (m : ℕ) (p : Place) → IsOnce xs → place_in before xs m ≡ Some p → last_of before (left_by m xs) ≡ last-from p.after p.before (last_of before xs)
last-left before [] m p once e = cc
last-left before (x ∷ xs) m p once e = by (x == m) refl e (last-left (Some x) xs m p once.1)
  where
    stays : (ys : List ℕ) → last_of before ys ≡ last-from (first_of ys) before (last_of (Some x) ys)
    stays [] = refl
    stays (z ∷ zs) = refl

    by : (b : Bool) → (x == m) ≡ b → cond b (Some (between before (first_of xs))) (place_in (Some x) xs m) ≡ Some p
        → (place_in (Some x) xs m ≡ Some p → last_of (Some x) (left_by m xs) ≡ last-from p.after p.before (last_of (Some x) xs))
        → last_of before (cond (not b) (x ∷ left_by m xs) (left_by m xs)) ≡ last-from p.after p.before (last_of (Some x) xs)
    by true is f rest =
        let all : left_by m xs ≡ xs = left_by-none m xs (ap (is_in xs) (sym (eq-from x m is)) ∙ once.0) in
        let is-p : between before (first_of xs) ≡ p = cc in
        ap (last_of before) all ∙ stays xs ∙ ap (λ q. last-from q.after q.before (last_of (Some x) xs)) is-p
    by false is f rest = rest f

pub ends-left : (xs : List ℕ) (m : ℕ) (p : Place) → IsOnce xs → place_in None xs m ≡ Some p → ends_of (left_by m xs) ≡ closed_ends p.before p.after (ends_of xs)
ends-left [] m p once e = cc
ends-left (x ∷ xs) m p once e = by (x == m) refl e
  where
    first_goes : (ys : List ℕ) → ends_of ys ≡ closed_ends None (first_of ys) (ends_with (Some x) (last_of (Some x) ys))
    first_goes [] = refl
    first_goes (z ∷ zs) = at (last_of (Some z) zs) (last_is_some z zs)
      where
        at : (o : Option ℕ) → (o ≡ None → ⊥) → ends_with (Some z) o ≡ closed_ends None (Some z) (ends_with (Some x) o)
        at None some = absurd (some refl)
        at (Some l) some = refl

    stays : (before after last : Option ℕ) → (before ≡ None → ⊥) → (last ≡ None → ⊥) → ends_with (Some x) (last-from after before last) ≡ closed_ends before after (ends_with (Some x) last)
    stays None after last some known = absurd (some refl)
    stays (Some b) after None some known = absurd (known refl)
    stays (Some b) None (Some l) some known = refl
    stays (Some b) (Some a) (Some l) some known = refl

    by : (b : Bool) → (x == m) ≡ b → cond b (Some (between None (first_of xs))) (place_in (Some x) xs m) ≡ Some p
        → ends_of (cond (not b) (x ∷ left_by m xs) (left_by m xs)) ≡ closed_ends p.before p.after (ends_with (Some x) (last_of (Some x) xs))
    by true is f =
        let all : left_by m xs ≡ xs = left_by-none m xs (ap (is_in xs) (sym (eq-from x m is)) ∙ once.0) in
        let is-p : between None (first_of xs) ≡ p = cc in
        ap ends_of all ∙ first_goes xs ∙ ap (λ q. closed_ends q.before q.after (ends_with (Some x) (last_of (Some x) xs))) is-p
    by false is f =
        ap (ends_with (Some x)) (last-left (Some x) xs m p once.1 f)
        ∙ stays p.before p.after (last_of (Some x) xs) (before_is_some x xs m p f) (last_is_some x xs)

-- The place of a member that came last.
pub place-new : (before : Option ℕ) (xs : List ℕ) (m : ℕ) → is_in xs m ≡ false → place_in before (xs ++ m ∷ []) m ≡ Some (between (last_of before xs) None)
place-new before [] m out = ap (λ b. cond b (Some (between before None)) None) (eq-tells m m refl)
place-new before (x ∷ xs) m out =
    let parts = or_false (x == m) (is_in xs m) out in
    ap (λ b. cond b (Some (between before (first_of (xs ++ m ∷ [])))) (place_in (Some x) (xs ++ m ∷ []) m)) parts.0 ∙ place-new (Some x) xs m parts.1

pub last_apart : (xs : List ℕ) (m l : ℕ) → is_in xs m ≡ false → last_of None xs ≡ Some l → (l == m) ≡ false
last_apart [] m l out e = cc
last_apart (x ∷ xs) m l out e = differs (x ∷ xs) l m (last_within x xs l e) out
