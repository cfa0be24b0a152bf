-- The places of the table of tasks, as the entries at all numbers.
use Rattle.std.proofs.Common.{◌≡◌, ◌<◌, ◌+◌, ◌-◌, ℕ, zero, suc, Bool, true, false, List, [], ◌∷◌, ◌++◌, length, set, Some, None, Option, refl, ap, sym, ◌∙◌, arith}
use Rattle.std.specs.Prelude.{slice_set, is_some}
use Rattle.std.proofs.lemmas.List.{map-set, length-map, get_or-set_same}
use Rattle.mono_model.specs.Table.{Table, value_at, count_of, with_value, with_next, without}
use Rattle.mono_model.proofs.CountLemmas.{count_of-with_next}
use Rattle.mono_table.proofs.CountLemmas.{some_inside, count_of-same, count_of-gone}
use Rattle.mono_task.specs.Places.{Entry, Gone}
use Rattle.mono_task.specs.Invariants.{entry_at, entry_of, entries_of}

pub entry_there : {O : Type 0} (places : Table (Entry O)) (t : ℕ) → entry_at (entries_of places) t ≡ entry_of (value_at places t)
entry_there [] t = refl
entry_there (x ∷ xs) zero = refl
entry_there (x ∷ xs) (suc t) = entry_there xs t

-- If the entry has a task, the number has a value.
pub some_of : {O : Type 0} (places : Table (Entry O)) (t : ℕ) (test : Entry O → Bool) → test Gone ≡ false → test (entry_at (entries_of places) t) ≡ true → is_some (value_at places t) ≡ true
some_of {O} places t test gone is = by (value_at places t) (sym (ap test (entry_there places t)) ∙ is)
  where
    by : (v : Option (Entry O)) → test (entry_of v) ≡ true → is_some v ≡ true
    by None h = absurd (false-true (sym gone ∙ h))
      where
        false-true : false ≡ true → ⊥
        false-true e = cc
    by (Some e) h = refl

pub length_of : {O : Type 0} (places : Table (Entry O)) → length (entries_of places) ≡ length places
length_of places = length-map places entry_of

twice : {X : Type 0} (xs : List X) (t : ℕ) (v w : X) → set (set xs t v) t w ≡ set xs t w
twice [] t v w = refl
twice (x ∷ xs) zero v w = refl
twice (x ∷ xs) (suc t) v w = ap (λ ys. x ∷ ys) (twice xs t v w)

module _ {O : Type 0} (places : Table (Entry O)) (t : ℕ) where
  pub found : (e : Entry O) → value_at places t ≡ Some e → entry_at (entries_of places) t ≡ e
  found e is = entry_there places t ∙ ap entry_of is

  pub absent : value_at places t ≡ None → entry_at (entries_of places) t ≡ Gone
  absent is = entry_there places t ∙ ap entry_of is

  module _ (there : is_some (value_at places t) ≡ true) where
    pub inside : t < length (entries_of places)
    inside = omega (arith, some_inside places t there, length_of places)

    module _ (new : Entry O) where
      pub written : entries_of (with_value places t new) ≡ slice_set (entries_of places) t new
      written = map-set entry_of places t (Some new)

      pub still_there : is_some (value_at (with_value places t new) t) ≡ true
      still_there = ap is_some (get_or-set_same places t (Some new) None (some_inside places t there))

      pub as_many : count_of (with_value places t new) ≡ count_of places
      as_many = count_of-same places t (Some new) (sym there)

      -- The written entry is `Gone`.
      pub erased : new ≡ Gone → entries_of (without (with_value places t new) t) ≡ slice_set (entries_of places) t new
      erased gone = ap entries_of (twice places t (Some new) None) ∙ map-set entry_of places t None ∙ ap (λ e. set (entries_of places) t e) (sym gone)

      pub one_less : count_of (without (with_value places t new) t) ≡ count_of places - 1
      one_less = ap count_of (twice places t (Some new) None) ∙ less
        where
          less : count_of (without places t) ≡ count_of places - 1
          less = omega (arith, count_of-gone places t there)

pub entered : {O : Type 0} (places : Table (Entry O)) (new : Entry O) → entries_of (with_next places new) ≡ entries_of places ++ new ∷ []
entered [] new = refl
entered (x ∷ xs) new = ap (λ ys. entry_of x ∷ ys) (entered xs new)

pub one_more : {O : Type 0} (places : Table (Entry O)) (new : Entry O) → count_of (with_next places new) ≡ count_of places + 1
one_more places new = count_of-with_next places new
