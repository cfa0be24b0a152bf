-- A key that is noted stays in the list, which rises.
use Rattle.std.proofs.Common.{◌≡◌, ◌==◌, ◌≢◌, ◌⊎◌, ◌<◌, ◌≤◌, ◌+◌, ◌-◌, ◌^◌, ℕ, zero, suc, Bool, true, false, ◌||◌, List, [], ◌∷◌, ◌++◌, length, take, drop, Option, Some, None, refl, sym, ap, subst, ◌∙◌, inl, inr, arith}
use Rattle.std.specs.Prelude.{slice_index_or, nat_lt, if◌then◌else◌, IfSome, IfNone}
use Rattle.std.specs.List.{list_any, insert}
use Rattle.std.proofs.lemmas.Bool.{cases_lt, or_cases, or_left, or_right, eqb-true, eq-eqb, ltb-true, ltb-false}
use Rattle.std.proofs.lemmas.Option.{cond_some}
use Rattle.mono_sync.specs.Touched.{Rises, Splits, first_in}

false-true : false ≡ true → ⊥
false-true e = cc

same_some : (i j : ℕ) → Some i ≡ Some j → i ≡ j
same_some i j e = cc

none-some : (i : ℕ) → None ≡ Some i → ⊥
none-some i e = cc

abbrev has : List ℕ → ℕ → Bool
has ks j = list_any (λ k. k == j) ks

pub reach : (low : ℕ) (ks : List ℕ) (high : ℕ) → Rises low ks high → low ≤ high
reach low [] high r = r
reach low (k ∷ ks) high r = omega (arith, r.0, reach (k + 1) ks high r.1)

pub inside : (low : ℕ) (ks : List ℕ) (high j : ℕ) → Rises low ks high → has ks j ≡ true → (low ≤ j) × (j < high)
inside low [] high j r is = absurd (false-true is)
inside low (k ∷ ks) high j r is = elim (or_cases (k == j) (has ks j) is) [
  | inl here ↦ let same = eqb-true k j here in (omega (arith, r.0, same), omega (arith, reach (k + 1) ks high r.1, same))
  | inr there ↦ let rest = inside (k + 1) ks high j r.1 there in (omega (arith, r.0, rest.0), rest.1)
]

at_least : (low : ℕ) (ks : List ℕ) (high i d : ℕ) → Rises low ks high → i < length ks → low ≤ slice_index_or ks i d
at_least low [] high i d r within = absurd (omega (arith, within))
at_least low (k ∷ ks) high zero d r within = r.0
at_least low (k ∷ ks) high (suc i) d r within = omega (arith, r.0, at_least (k + 1) ks high i d r.1 (omega (arith, within)))

pub rising : (low : ℕ) (ks : List ℕ) (high i j d : ℕ) → Rises low ks high → i ≤ j → j < length ks → slice_index_or ks i d ≤ slice_index_or ks j d
rising low [] high i j d r le within = absurd (omega (arith, within))
rising low (k ∷ ks) high zero zero d r le within = omega arith
rising low (k ∷ ks) high zero (suc j) d r le within = omega (arith, at_least (k + 1) ks high j d r.1 (omega (arith, within)))
rising low (k ∷ ks) high (suc i) zero d r le within = absurd (omega (arith, le))
rising low (k ∷ ks) high (suc i) (suc j) d r le within = rising (k + 1) ks high i j d r.1 (omega (arith, le)) (omega (arith, within))

lower : (low : ℕ) (ks : List ℕ) (high : ℕ) → Rises low ks high → Rises 0 ks high
lower low [] high r = omega arith
lower low (k ∷ ks) high r = (omega arith, r.1)

nat_less : (x key : ℕ) → key ≤ x → x ≢ key → key < x
nat_less x key le other = elim (cases_lt key x) [
  | inl less ↦ less
  | inr past ↦ absurd (other (omega (arith, le, past)))
]

next_split : (k : ℕ) (ks : List ℕ) (n key : ℕ) → Splits (k ∷ ks) (suc n) key → Splits ks n key
next_split k ks n key s = record { bound = omega (arith, s.bound); below = λ i less. s.below (suc i) (omega (arith, less)); above = λ i from within. s.above (suc i) (omega (arith, from)) (omega (arith, within)) }

from_head : (low : ℕ) (ks : List ℕ) (high key : ℕ) → Rises low ks high → (0 < length ks → key ≤ slice_index_or ks 0 0) → key ≤ high → Rises key ks high
from_head low [] high key r head less = less
from_head low (k ∷ ks) high key r head less = (head (omega arith), r.1)

-- the rest of the list, from its first key that is not less
rest_rises : (low : ℕ) (ks : List ℕ) (high key : ℕ) → Rises low ks high → Splits ks 0 key → key ≤ high → Rises key ks high
rest_rises low ks high key r s less = from_head low ks high key r (λ within. s.above 0 (omega arith) within) less

pub inserts : (low : ℕ) (ks : List ℕ) (high n key : ℕ) → Rises low ks high → Splits ks n key → low ≤ key → key < high → (n < length ks → slice_index_or ks n 0 ≢ key) → Rises low (insert ks n key) high
inserts low ks high zero key r s from less other = (from, from_head low ks high (key + 1) r (λ within. omega (arith, s.above 0 (omega arith) within, nat_less (slice_index_or ks 0 0) key (s.above 0 (omega arith) within) (other within))) (omega (arith, less)))
inserts low [] high (suc n) key r s from less other = absurd (omega (arith, s.bound))
inserts low (k ∷ ks) high (suc n) key r s from less other = (r.0, inserts (k + 1) ks high n key r.1 (next_split k ks n key s) (omega (arith, s.below 0 (omega arith))) less (λ within. other (omega (arith, within))))

pub cuts : (low : ℕ) (ks : List ℕ) (high n key : ℕ) → Rises low ks high → Splits ks n key → low ≤ key → Rises low (take n ks) key
cuts low ks high zero key r s from = from
cuts low [] high (suc n) key r s from = from
cuts low (k ∷ ks) high (suc n) key r s from = (r.0, cuts (k + 1) ks high n key r.1 (next_split k ks n key s) (omega (arith, s.below 0 (omega arith))))

-- the key itself, and each other key
pub has_new : (ks : List ℕ) (n key : ℕ) → has (insert ks n key) key ≡ true
has_new ks zero key = or_left (key == key) (has ks key) (eq-eqb key key refl)
has_new [] (suc n) key = or_left (key == key) false (eq-eqb key key refl)
has_new (k ∷ ks) (suc n) key = or_right (k == key) (has (insert ks n key) key) (has_new ks n key)

pub has_still : (ks : List ℕ) (n key j : ℕ) → has ks j ≡ true → has (insert ks n key) j ≡ true
has_still ks zero key j is = or_right (key == j) (has ks j) is
has_still [] (suc n) key j is = absurd (false-true is)
has_still (k ∷ ks) (suc n) key j is = elim (or_cases (k == j) (has ks j) is) [
  | inl here ↦ or_left (k == j) (has (insert ks n key) j) here
  | inr there ↦ or_right (k == j) (has (insert ks n key) j) (has_still ks n key j there)
]

pub has_cut : (low : ℕ) (ks : List ℕ) (high n key j : ℕ) → Rises low ks high → Splits ks n key → key ≤ high → has ks j ≡ true → (has (take n ks) j ≡ true) ⊎ (key ≤ j)
has_cut low ks high zero key j r s less is = inr (inside key ks high j (rest_rises low ks high key r s less) is).0
has_cut low [] high (suc n) key j r s less is = absurd (false-true is)
has_cut low (k ∷ ks) high (suc n) key j r s less is = elim (or_cases (k == j) (has ks j) is) [
  | inl here ↦ inl (or_left (k == j) (has (take n ks) j) here)
  | inr there ↦ elim (has_cut (k + 1) ks high n key j r.1 (next_split k ks n key s) less there) [
    | inl kept ↦ inl (or_right (k == j) (has (take n ks) j) kept)
    | inr past ↦ inr past
  ]
]

pub has_at : (ks : List ℕ) (n key : ℕ) → n < length ks → slice_index_or ks n 0 ≡ key → has ks key ≡ true
has_at [] n key within is = absurd (omega (arith, within))
has_at (k ∷ ks) zero key within is = or_left (k == key) (has ks key) (eq-eqb k key is)
has_at (k ∷ ks) (suc n) key within is = or_right (k == key) (has ks key) (has_at ks n key (omega (arith, within)) is)

absent : (b : Bool) (n : ℕ) → (if b then Some n else None) ≡ None → b ≡ false
absent true n is = absurd (none-some n (sym is))
absent false n is = refl

-- the least noted key
pub least : (ks : List ℕ) (from count k : ℕ) → Rises 0 ks from → first_in ks from count ≡ Some k → (j : ℕ) → j < k → (has ks j ≡ true) ⊎ (from ≤ j) → ⊥
least [] from count k r is j less marked = elim marked [
  | inl there ↦ false-true there
  | inr past ↦ let same = (cond_some (nat_lt from count) from k is).1 in omega (arith, less, past, same)
]
least (z ∷ zs) from count k r is j less marked =
    let same = same_some z k is in
    elim marked [
      | inl there ↦ let within = inside z (z ∷ zs) from j (omega arith, r.1) there in omega (arith, within.0, less, same)
      | inr past ↦ let end = reach (z + 1) zs from r.1 in omega (arith, end, past, less, same)
    ]

pub none : (ks : List ℕ) (from count : ℕ) → first_in ks from count ≡ None → (j : ℕ) → j < count → (has ks j ≡ true) ⊎ (from ≤ j) → ⊥
none [] from count is j less marked = elim marked [
  | inl there ↦ false-true there
  | inr past ↦ let end = ltb-false from count (absent (nat_lt from count) from is) in omega (arith, less, past, end)
]
none (z ∷ zs) from count is j less marked = none-some z (sym is)

pub first_marked : (ks : List ℕ) (from count k : ℕ) → first_in ks from count ≡ Some k → (has ks k ≡ true) ⊎ (from ≤ k)
first_marked [] from count k is = let same = (cond_some (nat_lt from count) from k is).1 in inr (omega (arith, same))
first_marked (z ∷ zs) from count k is = inl (or_left (z == k) (has zs k) (eq-eqb z k (same_some z k is)))

pub first_below : (ks : List ℕ) (from count k : ℕ) → Rises 0 ks from → from ≤ 2 ^ 64 - 1 → count ≤ 2 ^ 64 - 1 → first_in ks from count ≡ Some k → k < 2 ^ 64 - 1
first_below [] from count k r fits within is = let same = cond_some (nat_lt from count) from k is in omega (arith, ltb-true from count same.0, same.1, within)
first_below (z ∷ zs) from count k r fits within is = omega (arith, same_some z k is, reach (z + 1) zs from r.1, fits)

-- the note of a key is removed
pub has_rest : (ks : List ℕ) (key j : ℕ) → slice_index_or ks 0 0 ≡ key → j ≢ key → has ks j ≡ true → has (drop 1 ks) j ≡ true
has_rest [] key j front other is = absurd (false-true is)
has_rest (k ∷ ks) key j front other is = elim (or_cases (k == j) (has ks j) is) [
  | inl here ↦ absurd (other (sym (eqb-true k j here) ∙ front))
  | inr there ↦ there
]

pub rest_shorter : (ks : List ℕ) → 0 < length ks → length (drop 1 ks) < length ks
rest_shorter [] some = absurd (omega (arith, some))
rest_shorter (k ∷ ks) some = omega arith

pub rest_rising : (ks : List ℕ) (high : ℕ) → Rises 0 ks high → Rises 0 (drop 1 ks) high
rest_rising [] high r = r
rest_rising (k ∷ ks) high r = lower (k + 1) ks high r.1

pub alone : (ks : List ℕ) (from count key : ℕ) → first_in ks from count ≡ Some key → (0 < length ks → slice_index_or ks 0 0 ≡ key → ⊥) → (from ≡ key) × (from < count)
alone [] from count key is other = let same = cond_some (nat_lt from count) from key is in (same.1, ltb-true from count same.0)
alone (k ∷ ks) from count key is other = absurd (other (omega arith) (same_some k key is))

pub past_key : (from key j : ℕ) → from ≡ key → j ≢ key → from ≤ j → key + 1 ≤ j
past_key from key j same other past = elim (cases_lt key j) [
  | inl less ↦ omega (arith, less)
  | inr from_it ↦ absurd (other (omega (arith, same, past, from_it)))
]

pub wider : (low : ℕ) (ks : List ℕ) (high top : ℕ) → Rises low ks high → high ≤ top → Rises low ks top
wider low [] high top r le = omega (arith, r, le)
wider low (k ∷ ks) high top r le = (r.0, wider (k + 1) ks high top r.1 le)

pub head_first : (ks : List ℕ) (from count k : ℕ) → 0 < length ks → k ≡ slice_index_or ks 0 k → first_in ks from count ≡ Some k
head_first [] from count k some at = absurd (omega (arith, some))
head_first (z ∷ zs) from count k some at = ap (λ n. Some n) (sym at)
