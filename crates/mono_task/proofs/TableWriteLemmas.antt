-- Writing one place of a table: the count of values, and that writing the old value changes nothing.
use Rattle.std.proofs.Common.{◌≡◌, ◌<◌, ◌+◌, ℕ, zero, suc, true, cond, List, [], ◌∷◌, map, length, get_or, set, Some, None, Option, refl, ap, sym, ◌∙◌, arith}
use Rattle.std.specs.Prelude.{is_some}
use Rattle.mono_model.specs.Table.{Table, value_at, count_of, without}
use Rattle.mono_model.proofs.CountLemmas.{counted, counted-count_of}
use Rattle.mono_task.specs.Places.{Entry}
use Rattle.mono_task.specs.Entries.{task_of}
use Rattle.mono_task.specs.Invariants.{entry_at}

-- a place as the task of its number
pub value_at-entries : {O : Type 0} (entries : List (Entry O)) (t : ℕ) → value_at (map task_of entries) t ≡ task_of (entry_at entries t)
value_at-entries [] t = refl
value_at-entries (e ∷ es) zero = refl
value_at-entries (e ∷ es) (suc t) = value_at-entries es t

pub set_same : {X : Type 0} (xs : List X) (t : ℕ) (v d : X) → t < length xs → get_or xs t d ≡ v → set xs t v ≡ xs
set_same [] t v d inside at = refl
set_same (x ∷ xs) zero v d inside at = ap (λ y. y ∷ xs) (sym at)
set_same (x ∷ xs) (suc t) v d inside at = ap (λ ys. x ∷ ys) (set_same xs t v d (omega (arith, inside)) at)

counted_same : {V : Type 0} (xs : Table V) (t : ℕ) (v : Option V) → is_some v ≡ is_some (value_at xs t) → counted (set xs t v) ≡ counted xs
counted_same [] t v same = refl
counted_same (x ∷ xs) zero v same = ap (λ b. cond b (1 + counted xs) (counted xs)) same
counted_same (x ∷ xs) (suc t) v same = ap (λ n. cond (is_some x) (1 + n) n) (counted_same xs t v same)

pub count_of-same : {V : Type 0} (table : Table V) (t : ℕ) (v : Option V) → is_some v ≡ is_some (value_at table t) → count_of (set table t v) ≡ count_of table
count_of-same table t v same = sym (counted-count_of (set table t v)) ∙ counted_same table t v same ∙ counted-count_of table

counted_gone : {V : Type 0} (xs : Table V) (t : ℕ) → is_some (value_at xs t) ≡ true → counted (set xs t None) + 1 ≡ counted xs
counted_gone [] t is = cc
counted_gone (None ∷ xs) zero is = cc
counted_gone (Some x ∷ xs) zero is = omega arith
counted_gone (None ∷ xs) (suc t) is = counted_gone xs t is
counted_gone (Some x ∷ xs) (suc t) is = omega (arith, counted_gone xs t is)

pub count_of-gone : {V : Type 0} (table : Table V) (t : ℕ) → is_some (value_at table t) ≡ true → count_of (without table t) + 1 ≡ count_of table
count_of-gone table t is = omega (arith, counted_gone table t is, counted-count_of (without table t), counted-count_of table)
