-- How many sleeps live.
use Rattle.std.proofs.Common.{◌≡◌, ◌<◌, ◌≤◌, ℕ, ◌+◌, zero, suc, true, false, Bool, cond, [], ◌∷◌, length, set, Some, None, refl, ap, sym, ◌∙◌, arith}
use Rattle.std.specs.Prelude.{Option, is_some, count_by}
use Rattle.std.proofs.lemmas.List.Recursion.{is_count_by}
use Rattle.mono_model.specs.Table.{Table, value_at, count_of, without}
use Rattle.mono_time.specs.Sleeps.{Kept, fresh, armed, elapsed, is_armed}
use Rattle.mono_model.proofs.CountLemmas.{counted, counted-count_of}

counted-same : {V W : Type 0} (xs : Table V) (ys : Table W) → length xs ≡ length ys → ((k : ℕ) → is_some (value_at xs k) ≡ is_some (value_at ys k)) → counted xs ≡ counted ys
counted-same [] [] long same = refl
counted-same [] (y ∷ ys) long same = absurd (omega (arith, long))
counted-same (x ∷ xs) [] long same = absurd (omega (arith, long))
counted-same (x ∷ xs) (y ∷ ys) long same =
    ap (λ b. cond b (1 + counted xs) (counted xs)) (same 0) ∙ ap (λ n. cond (is_some y) (1 + n) n) (counted-same xs ys (omega (arith, long)) (λ k. same (suc k)))

-- two tables that have values at the same numbers
pub count_of-same : {V W : Type 0} (xs : Table V) (ys : Table W) → length xs ≡ length ys → ((k : ℕ) → is_some (value_at xs k) ≡ is_some (value_at ys k)) → count_of xs ≡ count_of ys
count_of-same xs ys long same = sym (counted-count_of xs) ∙ counted-same xs ys long same ∙ counted-count_of ys

one_more : (b : Bool) (n m : ℕ) → n + 1 ≡ m → cond b (1 + n) n + 1 ≡ cond b (1 + m) m
one_more true n m e = omega (arith, e)
one_more false n m e = e

none-some : {V : Type 0} (v : V) → None ≡ Some v → ⊥
none-some v e = cc

counted-without : {V : Type 0} (xs : Table V) (s : ℕ) (v : V) → value_at xs s ≡ Some v → counted (set xs s None) + 1 ≡ counted xs
counted-without [] s v at = absurd (none-some v at)
counted-without (x ∷ xs) zero v at = rw at (omega arith)
counted-without (x ∷ xs) (suc s) v at = one_more (is_some x) _ _ (counted-without xs s v at)

-- One value is removed.
pub count_of-gone : {V : Type 0} (xs : Table V) (s : ℕ) (v : V) → value_at xs s ≡ Some v → count_of (without xs s) + 1 ≡ count_of xs
count_of-gone xs s v at = ap (λ n. n + 1) (sym (counted-count_of (without xs s))) ∙ counted-without xs s v at ∙ counted-count_of xs

-- how many sleeps are armed, from the front
abbrev armed_counted : Table Kept → ℕ
armed_counted [] = 0
armed_counted (x ∷ xs) = cond (is_armed x) (1 + armed_counted xs) (armed_counted xs)

one_less : (b : Bool) (n m : ℕ) → n < m → cond b (1 + n) n < cond b (1 + m) m
one_less true n m less = omega (arith, less)
one_less false n m less = less

fewer_counted : (xs : Table Kept) (s tick : ℕ) (waker : Option ℕ) → value_at xs s ≡ Some (armed tick waker) → armed_counted (set xs s (Some elapsed)) < armed_counted xs
fewer_counted [] s tick waker at = absurd (none-some _ at)
fewer_counted (x ∷ xs) zero tick waker at = rw at (omega arith)
fewer_counted (x ∷ xs) (suc s) tick waker at = one_less (is_armed x) _ _ (fewer_counted xs s tick waker at)

-- one armed sleep has elapsed
pub fewer_armed : (xs : Table Kept) (s tick : ℕ) (waker : Option ℕ) → value_at xs s ≡ Some (armed tick waker) → count_by is_armed (set xs s (Some elapsed)) < count_by is_armed xs
fewer_armed xs s tick waker at =
    let counts : (ys : Table Kept) → armed_counted ys ≡ count_by is_armed ys = is_count_by armed_counted is_armed refl (λ x ys. refl) in
    omega (arith, fewer_counted xs s tick waker at, counts xs, counts (set xs s (Some elapsed)))

no_more : (v : Option Kept) (n m : ℕ) → n ≤ m → cond (is_armed v) (1 + n) n ≤ cond (is_some v) (1 + m) m
no_more None n m below = below
no_more (Some (fresh tick)) n m below = omega (arith, below)
no_more (Some (armed tick waker)) n m below = omega (arith, below)
no_more (Some elapsed) n m below = omega (arith, below)

no_more_counted : (xs : Table Kept) → armed_counted xs ≤ counted xs
no_more_counted [] = omega arith
no_more_counted (x ∷ xs) = no_more x _ _ (no_more_counted xs)

-- no more sleeps are armed than there are
pub armed_live : (xs : Table Kept) → count_by is_armed xs ≤ count_of xs
armed_live xs =
    let counts : (ys : Table Kept) → armed_counted ys ≡ count_by is_armed ys = is_count_by armed_counted is_armed refl (λ x ys. refl) in
    omega (arith, no_more_counted xs, counts xs, counted-count_of xs)
