-- The numbers of a table whose tick has come can be listed in ascending ticks.
use Rattle.std.proofs.Common.{◌≡◌, ◌≢◌, ◌<◌, ◌≤◌, ◌⊎◌, inl, inr, ℕ, zero, suc, true, false, Bool, if◌then◌else◌, List, [], ◌∷◌, length, get_or, Some, None, Option, refl, ap, sym, subst, ◌∙◌, arith}
use Rattle.std.specs.Prelude.{nat_le, AllPairs, Contains}
use Rattle.std.proofs.lemmas.Bool.{cases_lt, leb-true, leb-false}
use Rattle.std.proofs.lemmas.Bool.Decides.{leb_tells}
use Rattle.std.proofs.lemmas.List.{get_or_past}
use Rattle.mono_model.specs.Table.{Table, value_at}
use Rattle.mono_model.specs.Due.{HasCome, Ascends, ListsDue}

true-false : true ≡ false → ⊥
true-false e = cc

-- ---- what a list has, and what its pairs satisfy

abbrev Has : List ℕ → ℕ → Type 0
Has [] s = ⊥
Has (x ∷ xs) s = (x ≡ s) ⊎ Has xs s

abbrev Pairs : (ℕ → ℕ → Type 0) → List ℕ → Type 0
Pairs R [] = Unit {0}
Pairs R (x ∷ xs) = ((y : ℕ) → Has xs y → R x y) × Pairs R xs

has_from : (xs : List ℕ) (s : ℕ) → Contains xs s → Has xs s
has_from [] s (k, inside, at) = absurd (omega (arith, inside))
has_from (x ∷ xs) s (zero, inside, at) = inl at
has_from (x ∷ xs) s (suc k, inside, at) = inr (has_from xs s (k, omega (arith, inside), at))

contains_from : (xs : List ℕ) (s : ℕ) → Has xs s → Contains xs s
contains_from [] s has = absurd has
contains_from (x ∷ xs) s (inl here) = (0, omega arith, here)
contains_from (x ∷ xs) s (inr there) = let c = contains_from xs s there in (suc c.0, omega (arith, c.1), c.2)

has_at : (xs : List ℕ) (k d : ℕ) → k < length xs → Has xs (get_or xs k d)
has_at [] k d inside = absurd (omega (arith, inside))
has_at (x ∷ xs) zero d inside = inl refl
has_at (x ∷ xs) (suc k) d inside = inr (has_at xs k d (omega (arith, inside)))

pairs_cons : (R : ℕ → ℕ → Type 0) (x : ℕ) (xs : List ℕ) → ((k d : ℕ) → k < length xs → R x (get_or xs k d)) → AllPairs R xs → AllPairs R (x ∷ xs)
pairs_cons R x xs first rest zero zero d below inside = absurd (omega (arith, below))
pairs_cons R x xs first rest zero (suc j) d below inside = first j d (omega (arith, inside))
pairs_cons R x xs first rest (suc i) zero d below inside = absurd (omega (arith, below))
pairs_cons R x xs first rest (suc i) (suc j) d below inside = rest i j d (omega (arith, below)) (omega (arith, inside))

all_pairs : (R : ℕ → ℕ → Type 0) (xs : List ℕ) → Pairs R xs → AllPairs R xs
all_pairs R [] pairs = λ i j d below inside. absurd (omega (arith, inside))
all_pairs R (x ∷ xs) pairs = pairs_cons R x xs (λ k d inside. pairs.0 (get_or xs k d) (has_at xs k d inside)) (all_pairs R xs pairs.1)

pairs_so : (R Q : ℕ → ℕ → Type 0) → ((x y : ℕ) → R x y → Q x y) → (xs : List ℕ) → Pairs R xs → Pairs Q xs
pairs_so R Q so [] pairs = tt
pairs_so R Q so (x ∷ xs) pairs = (λ y has. so x y (pairs.0 y has), pairs_so R Q so xs pairs.1)

-- ---- a number at its place in a list whose keys ascend

module _ (key : ℕ → ℕ) where
  abbrev put : ℕ → List ℕ → List ℕ
  put s [] = s ∷ []
  put s (x ∷ xs) = if nat_le (key s) (key x) then s ∷ (x ∷ xs) else x ∷ put s xs

  abbrev Rises : ℕ → ℕ → Type 0
  Rises x y = key x ≤ key y

  abbrev Differs : ℕ → ℕ → Type 0
  Differs x y = x ≢ y

  has_put_by : (s x : ℕ) (xs : List ℕ) (y : ℕ) (b : Bool) → (Has (put s xs) y → (s ≡ y) ⊎ Has xs y) → Has (if b then s ∷ (x ∷ xs) else x ∷ put s xs) y → (s ≡ y) ⊎ Has (x ∷ xs) y
  has_put_by s x xs y true later h = h
  has_put_by s x xs y false later (inl e) = inr (inl e)
  has_put_by s x xs y false later (inr there) = elim (later there) [ inl e ↦ inl e | inr h ↦ inr (inr h) ]

  has_put : (s : ℕ) (xs : List ℕ) (y : ℕ) → Has (put s xs) y → (s ≡ y) ⊎ Has xs y
  has_put s [] y has = has
  has_put s (x ∷ xs) y has = has_put_by s x xs y (nat_le (key s) (key x)) (λ there. has_put s xs y there) has

  put_has_by : (s x : ℕ) (xs : List ℕ) (y : ℕ) (b : Bool) → ((s ≡ y) ⊎ Has xs y → Has (put s xs) y) → (s ≡ y) ⊎ Has (x ∷ xs) y → Has (if b then s ∷ (x ∷ xs) else x ∷ put s xs) y
  put_has_by s x xs y true later h = h
  put_has_by s x xs y false later (inl e) = inr (later (inl e))
  put_has_by s x xs y false later (inr (inl e)) = inl e
  put_has_by s x xs y false later (inr (inr h)) = inr (later (inr h))

  put_has : (s : ℕ) (xs : List ℕ) (y : ℕ) → (s ≡ y) ⊎ Has xs y → Has (put s xs) y
  put_has s [] y has = has
  put_has s (x ∷ xs) y has = put_has_by s x xs y (nat_le (key s) (key x)) (λ h. put_has s xs y h) has

  rises_after : (s x : ℕ) (xs : List ℕ) → Pairs Rises (x ∷ xs) → key s ≤ key x → (y : ℕ) → Has (x ∷ xs) y → key s ≤ key y
  rises_after s x xs pairs le y (inl e) = subst (λ z. key s ≤ key z) e le
  rises_after s x xs pairs le y (inr h) = let more = pairs.0 y h in omega (arith, le, more)

  rises_before : (s x : ℕ) (xs : List ℕ) → Pairs Rises (x ∷ xs) → key x ≤ key s → (y : ℕ) → Has (put s xs) y → key x ≤ key y
  rises_before s x xs pairs le y has = elim (has_put s xs y has) [ inl e ↦ subst (λ z. key x ≤ key z) e le | inr h ↦ pairs.0 y h ]

  put_rises_by : (s x : ℕ) (xs : List ℕ) (b : Bool) → nat_le (key s) (key x) ≡ b → Pairs Rises (x ∷ xs) → Pairs Rises (put s xs) → Pairs Rises (if b then s ∷ (x ∷ xs) else x ∷ put s xs)
  put_rises_by s x xs true is pairs rest = (rises_after s x xs pairs (leb-true (key s) (key x) is), pairs)
  put_rises_by s x xs false is pairs rest = let less = leb-false (key s) (key x) is in (rises_before s x xs pairs (omega (arith, less)), rest)

  put_rises : (s : ℕ) (xs : List ℕ) → Pairs Rises xs → Pairs Rises (put s xs)
  put_rises s [] pairs = (λ y has. absurd has, tt)
  put_rises s (x ∷ xs) pairs = put_rises_by s x xs (nat_le (key s) (key x)) refl pairs (put_rises s xs pairs.1)

  differs_before : (s x : ℕ) (xs : List ℕ) → (Has (x ∷ xs) s → ⊥) → Pairs Differs (x ∷ xs) → (y : ℕ) → Has (put s xs) y → x ≢ y
  differs_before s x xs none pairs y has = elim (has_put s xs y has) [ inl e ↦ (λ same. none (inl (same ∙ sym e))) | inr h ↦ pairs.0 y h ]

  put_differs_by : (s x : ℕ) (xs : List ℕ) (b : Bool) → (Has (x ∷ xs) s → ⊥) → Pairs Differs (x ∷ xs) → Pairs Differs (put s xs) → Pairs Differs (if b then s ∷ (x ∷ xs) else x ∷ put s xs)
  put_differs_by s x xs true none pairs rest = (λ y h same. none (subst (λ z. Has (x ∷ xs) z) (sym same) h), pairs)
  put_differs_by s x xs false none pairs rest = (differs_before s x xs none pairs, rest)

  put_differs : (s : ℕ) (xs : List ℕ) → (Has xs s → ⊥) → Pairs Differs xs → Pairs Differs (put s xs)
  put_differs s [] none pairs = (λ y has. absurd has, tt)
  put_differs s (x ∷ xs) none pairs = put_differs_by s x xs (nat_le (key s) (key x)) none pairs (put_differs s xs (λ h. none (inr h)) pairs.1)

  -- ---- the numbers below n that have come

  module _ (come : ℕ → Bool) where
    abbrev due : ℕ → List ℕ
    due zero = []
    due (suc n) = if come n then put n (due n) else due n

    due_come_by : (n s : ℕ) (b : Bool) → come n ≡ b → (Has (due n) s → (s < n) × (come s ≡ true)) → Has (if b then put n (due n) else due n) s → (s < suc n) × (come s ≡ true)
    due_come_by n s true is later h = elim (has_put n (due n) s h) [
      | inl e ↦ (omega (arith, e), subst (λ z. come z ≡ true) e is)
      | inr m ↦ (let more = later m in (omega (arith, more.0), more.1))
    ]
    due_come_by n s false is later h = let more = later h in (omega (arith, more.0), more.1)

    due_come : (n s : ℕ) → Has (due n) s → (s < n) × (come s ≡ true)
    due_come zero s has = absurd has
    due_come (suc n) s has = due_come_by n s (come n) refl (λ h. due_come n s h) has

    come_due_by : (n s : ℕ) (b : Bool) → come n ≡ b → (s < n) ⊎ (s ≡ n) → come s ≡ true → (s < n → Has (due n) s) → Has (if b then put n (due n) else due n) s
    come_due_by n s true told (inl less) is later = put_has n (due n) s (inr (later less))
    come_due_by n s true told (inr same) is later = put_has n (due n) s (inl (sym same))
    come_due_by n s false told (inl less) is later = later less
    come_due_by n s false told (inr same) is later = absurd (true-false (sym is ∙ ap come same ∙ told))

    below_or : (n s : ℕ) → s < suc n → (s < n) ⊎ (s ≡ n)
    below_or n s below = elim (cases_lt s n) [ inl less ↦ inl less | inr le ↦ inr (omega (arith, le, below)) ]

    come_due : (n s : ℕ) → s < n → come s ≡ true → Has (due n) s
    come_due zero s below is = absurd (omega (arith, below))
    come_due (suc n) s below is = come_due_by n s (come n) refl (below_or n s below) is (λ less. come_due n s less is)

    due_rises_by : (n : ℕ) (b : Bool) → Pairs Rises (due n) → Pairs Rises (if b then put n (due n) else due n)
    due_rises_by n true rest = put_rises n (due n) rest
    due_rises_by n false rest = rest

    due_rises : (n : ℕ) → Pairs Rises (due n)
    due_rises zero = tt
    due_rises (suc n) = due_rises_by n (come n) (due_rises n)

    due_differs_by : (n : ℕ) (b : Bool) → Pairs Differs (due n) → Pairs Differs (if b then put n (due n) else due n)
    due_differs_by n true rest = put_differs n (due n) (λ h. absurd (let below = (due_come n n h).0 in omega (arith, below))) rest
    due_differs_by n false rest = rest

    due_differs : (n : ℕ) → Pairs Differs (due n)
    due_differs zero = tt
    due_differs (suc n) = due_differs_by n (come n) (due_differs n)

-- ---- a table's list

abbrev has_come : ℕ → Option ℕ → Bool
has_come g None = false
has_come g (Some tick) = nat_le tick g

abbrev tick_or_0 : Option ℕ → ℕ
tick_or_0 None = 0
tick_or_0 (Some tick) = tick

come_told : (g : ℕ) (v : Option ℕ) → has_come g v ≡ true → HasCome g v
come_told g None e = absurd (true-false (sym e))
come_told g (Some tick) e = elim (leb_tells tick g) [ inl t ↦ t.1 | inr t ↦ absurd (true-false (sym e ∙ t.0)) ]

come_tells : (g : ℕ) (v : Option ℕ) → HasCome g v → has_come g v ≡ true
come_tells g None come = absurd come
come_tells g (Some tick) come = elim (leb_tells tick g) [ inl t ↦ t.0 | inr t ↦ absurd (omega (arith, t.1, come)) ]

pub lists_some : {V : Type 0} (waits : Option V → Option ℕ) (table : Table V) (g : ℕ) → waits None ≡ None → (listed : List ℕ) × ListsDue waits table g listed
lists_some {V} waits table g no_wait = (
  listed,
  record {
    no_doubles = all_pairs (λ s t. s ≢ t) listed (due_differs key come n);
    all_due = λ s. (λ has. come_told g (tick s) (due_come key come n s (has_from listed s has)).1, λ is. contains_from listed s (come_due key come n s (inside s is) (come_tells g (tick s) is)));
    in_order = all_pairs (λ s t. Ascends (tick s) (tick t)) listed (pairs_so (Rises key) (λ s t. Ascends (tick s) (tick t)) ascends listed (due_rises key come n));
  },
)
  where
    n : ℕ
    n = length table

    tick : ℕ → Option ℕ
    tick s = waits (value_at table s)

    key : ℕ → ℕ
    key s = tick_or_0 (tick s)

    come : ℕ → Bool
    come s = has_come g (tick s)

    listed : List ℕ
    listed = due key come n

    ascends : (s t : ℕ) → key s ≤ key t → Ascends (tick s) (tick t)
    ascends s t le a b first second =
        let one : key s ≡ a = ap tick_or_0 first in
        let two : key t ≡ b = ap tick_or_0 second in
        omega (arith, le, one, two)

    inside : (s : ℕ) → HasCome g (tick s) → s < n
    inside s is = elim (cases_lt s n) [
      | inl l ↦ l
      | inr past ↦ absurd (subst (λ v. HasCome g v) (ap waits (get_or_past table s None past) ∙ no_wait) is)
    ]
