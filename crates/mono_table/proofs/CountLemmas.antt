-- How many numbers of a table have a value, after a write, a removal or an addition.
use Rattle.std.proofs.Common.{◌≡◌, ◌<◌, ◌+◌, ℕ, zero, suc, true, cond, [], ◌∷◌, length, set, Some, None, Option, refl, ap, sym, ◌∙◌, inl, inr, arith}
use Rattle.std.specs.Prelude.{is_some}
use Rattle.std.proofs.lemmas.Bool.{cases_lt}
use Rattle.std.proofs.lemmas.List.{get_or_past}
use Rattle.mono_model.specs.Table.{Table, value_at, count_of, without}
use Rattle.mono_model.proofs.CountLemmas.{counted, counted-count_of}

none-true : {V : Type 0} (v : Option V) → v ≡ None → is_some v ≡ true → ⊥
none-true v is some = cc

-- a number with a value was given out
pub some_inside : {V : Type 0} (table : Table V) (t : ℕ) → is_some (value_at table t) ≡ true → t < length table
some_inside table t some = elim (cases_lt t (length table)) [
  | inl below ↦ below
  | inr past ↦ absurd (none-true (value_at table t) (get_or_past table t None past) some)
]

counted_same : {V : Type 0} (xs : Table V) (t : ℕ) (v : Option V) → is_some v ≡ is_some (value_at xs t) → counted (set xs t v) ≡ counted xs
counted_same [] t v same = refl
counted_same (x ∷ xs) zero v same = ap (λ b. cond b (1 + counted xs) (counted xs)) same
counted_same (x ∷ xs) (suc t) v same = ap (λ n. cond (is_some x) (1 + n) n) (counted_same xs t v same)

pub count_of-same : {V : Type 0} (table : Table V) (t : ℕ) (v : Option V) → is_some v ≡ is_some (value_at table t) → count_of (set table t v) ≡ count_of table
count_of-same table t v same = sym (counted-count_of (set table t v)) ∙ counted_same table t v same ∙ counted-count_of table

counted_gone : {V : Type 0} (xs : Table V) (t : ℕ) → is_some (value_at xs t) ≡ true → counted (set xs t None) + 1 ≡ counted xs
counted_gone [] t is = cc
counted_gone (None ∷ xs) zero is = cc
counted_gone (Some x ∷ xs) zero is = omega arith
counted_gone (None ∷ xs) (suc t) is = counted_gone xs t is
counted_gone (Some x ∷ xs) (suc t) is = omega (arith, counted_gone xs t is)

pub count_of-gone : {V : Type 0} (table : Table V) (t : ℕ) → is_some (value_at table t) ≡ true → count_of (without table t) + 1 ≡ count_of table
count_of-gone table t is = omega (arith, counted_gone table t is, counted-count_of (without table t), counted-count_of table)

counted_none : {V : Type 0} (xs : Table V) (t : ℕ) → counted xs ≡ 0 → value_at xs t ≡ None
counted_none [] t none = refl
counted_none (None ∷ xs) zero none = refl
counted_none (None ∷ xs) (suc t) none = counted_none xs t none
counted_none (Some x ∷ xs) t none = absurd (omega (arith, none))

-- If the count of values is 0, no number has one.
pub none_of : {V : Type 0} (table : Table V) (t : ℕ) → count_of table ≡ 0 → value_at table t ≡ None
none_of table t none = counted_none table t (counted-count_of table ∙ none)
