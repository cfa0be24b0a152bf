-- The sums of a program with a channel.
use Rattle.std.proofs.Common.{◌≡◌, ◌<◌, ◌+◌, ℕ, Bool, true, false, List, [], ◌∷◌, length, sum, refl, arith}
use Rattle.std.specs.Prelude.{IfSome}
use Rattle.std.specs.Bool.{then_some}

no_sum : (queue : List ℕ) → length queue ≡ 0 → sum queue ≡ 0
no_sum [] e = refl
no_sum (x ∷ xs) e = absurd (omega (arith, e))

-- both sums are the same if no message is queued
pub sums_agree : (b : Bool) (queue : List ℕ) (sent received : ℕ) → (b ≡ true → length queue ≡ 0) → (sent < 18446744073709551615 → received + sum queue ≡ sent) → IfSome {T = ℕ × ℕ} (then_some b (sent, received)) (λ r. r.0 < 18446744073709551615 → r.1 ≡ r.0)
sums_agree false queue sent received empty rule = tt
sums_agree true queue sent received empty rule = λ exact. let all = rule exact in let none = no_sum queue (empty refl) in omega (arith, all, none)
