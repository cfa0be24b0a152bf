-- How often a task occurs in a list, whether it occurs, and that it does at most once.
use Rattle.std.proofs.Common.{◌≡◌, ◌<◌, ◌≤◌, ℕ, ◌+◌, zero, suc, Bool, true, false, List, [], ◌∷◌, length, get_or, refl, ap, arith}
use Rattle.std.specs.Prelude.{◌==◌, ◌||◌}
use Rattle.mono_model.specs.Inbox.{is_waiting}
use Rattle.mono_model.specs.Valid.{times, once_if}
use Rattle.mono_model.proofs.CountLemmas.{one_time}
use Rattle.mono_inbox.specs.State.{HasNoDoubles}

not_waiting : (xs : List ℕ) (t : ℕ) → times xs t ≡ 0 → is_waiting xs t ≡ false
not_waiting [] t none = refl
not_waiting (x ∷ xs) t none =
    elim (x == t) as (λ b. once_if b + times xs t ≡ 0 → (b || is_waiting xs t) ≡ false) [
      | true ↦ λ e. absurd (omega (arith, e))
      | false ↦ λ e. not_waiting xs t (omega (arith, e))
    ] none

waiting_once : (xs : List ℕ) (t : ℕ) → times xs t ≡ 1 → is_waiting xs t ≡ true
waiting_once [] t one = absurd (omega (arith, one))
waiting_once (x ∷ xs) t one =
    elim (x == t) as (λ b. once_if b + times xs t ≡ 1 → (b || is_waiting xs t) ≡ true) [
      | true ↦ λ e. refl
      | false ↦ λ e. waiting_once xs t (omega (arith, e))
    ] one

-- Whether a task waits, by how often it occurs in the list.
pub is_waiting-once : (xs : List ℕ) (t : ℕ) (b : Bool) → times xs t ≡ once_if b → is_waiting xs t ≡ b
is_waiting-once xs t true e = waiting_once xs t e
is_waiting-once xs t false e = not_waiting xs t e

times-at : (xs : List ℕ) (i d : ℕ) → i < length xs → 1 ≤ times xs (get_or xs i d)
times-at [] i d below = absurd (omega (arith, below))
times-at (x ∷ xs) zero d below = omega (arith, one_time x)
times-at (x ∷ xs) (suc i) d below = omega (arith, times-at xs i d (omega (arith, below)))

once_more : (x : ℕ) (xs : List ℕ) → ((t : ℕ) → times (x ∷ xs) t ≤ 1) → (t : ℕ) → times xs t ≤ 1
once_more x xs once t = omega (arith, once t)

pub no_doubles : (xs : List ℕ) → ((t : ℕ) → times xs t ≤ 1) → (i j d : ℕ) → i < j → j < length xs → get_or xs i d ≡ get_or xs j d → ⊥
no_doubles [] once i j d less below same = absurd (omega (arith, below))
no_doubles (x ∷ xs) once i zero d less below same = absurd (omega (arith, less))
no_doubles (x ∷ xs) once zero (suc j) d less below same = absurd (omega (arith, once x, one_time x, ap (λ v. times xs v) same, times-at xs j d (omega (arith, below))))
no_doubles (x ∷ xs) once (suc i) (suc j) d less below same = no_doubles xs (once_more x xs once) i j d (omega (arith, less)) (omega (arith, below)) same

once_at_most : (b : Bool) → once_if b ≤ 1
once_at_most true = omega arith
once_at_most false = omega arith

pub distinct : (xs : List ℕ) (test : ℕ → Bool) → ((t : ℕ) → times xs t ≡ once_if (test t)) → HasNoDoubles xs
distinct xs test once = no_doubles xs (λ t. omega (arith, once t, once_at_most (test t)))
