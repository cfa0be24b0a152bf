-- How many places pass a test, after a write and after one more place.
use Rattle.std.proofs.Common.{◌≡◌, ◌<◌, ◌≤◌, ◌+◌, ℕ, zero, suc, Bool, true, false, List, [], ◌∷◌, ◌++◌, length, set, ap, arith}
use Rattle.mono_model.specs.Valid.{once_if}
use Rattle.mono_task.specs.Places.{Entry, Gone, Taken, Done, Idle, Queued, Running, Noted}
use Rattle.mono_task.specs.Entries.{is_queued, is_unfinished}
use Rattle.mono_task.specs.Invariants.{entry_at, count_where}

pub count_where-set : {O : Type 0} (test : Entry O → Bool) (xs : List (Entry O)) (t : ℕ) (new : Entry O) → t < length xs
    → count_where test (set xs t new) + once_if (test (entry_at xs t)) ≡ count_where test xs + once_if (test new)
count_where-set test [] t new below = absurd (omega (arith, below))
count_where-set test (x ∷ xs) zero new below = omega arith
count_where-set test (x ∷ xs) (suc t) new below = omega (arith, count_where-set test xs t new (omega (arith, below)))

pub count_where-push : {O : Type 0} (test : Entry O → Bool) (xs : List (Entry O)) (new : Entry O) → count_where test (xs ++ new ∷ []) ≡ count_where test xs + once_if (test new)
count_where-push test [] new = omega arith
count_where-push test (x ∷ xs) new = omega (arith, count_where-push test xs new)

-- a queued task has not finished
one_within : {O : Type 0} (e : Entry O) → once_if (is_queued e) ≤ once_if (is_unfinished e)
one_within Gone = omega arith
one_within Taken = omega arith
one_within (Done output) = omega arith
one_within (Idle h) = omega arith
one_within (Queued h) = omega arith
one_within (Running h) = omega arith
one_within (Noted h) = omega arith

pub queued_within : {O : Type 0} (xs : List (Entry O)) → count_where is_queued xs ≤ count_where is_unfinished xs
queued_within [] = omega arith
queued_within (x ∷ xs) = omega (arith, one_within x, queued_within xs)

false-true : false ≡ true → ⊥
false-true e = cc

-- a task that is not queued and has not finished leaves a place free
pub place_free : {O : Type 0} (xs : List (Entry O)) (t : ℕ) → is_queued (entry_at xs t) ≡ false → is_unfinished (entry_at xs t) ≡ true → count_where is_queued xs < count_where is_unfinished xs
place_free [] t out lasts = absurd (false-true lasts)
place_free (x ∷ xs) zero out lasts = omega (arith, queued_within xs, ap once_if out, ap once_if lasts)
place_free (x ∷ xs) (suc t) out lasts = omega (arith, one_within x, place_free xs t out lasts)

-- what has not finished is one of them
pub some_unfinished : {O : Type 0} (xs : List (Entry O)) (t : ℕ) → is_unfinished (entry_at xs t) ≡ true → 1 ≤ count_where is_unfinished xs
some_unfinished [] t lasts = absurd (false-true lasts)
some_unfinished (x ∷ xs) zero lasts = omega (arith, ap once_if lasts)
some_unfinished (x ∷ xs) (suc t) lasts = omega (arith, some_unfinished xs t lasts)
