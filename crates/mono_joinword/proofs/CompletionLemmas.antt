-- The meaning of the completing step, by the word that it found.
use Rattle.std.proofs.Common.{◌≡◌, ◌≢◌, ℕ, [], ◌∷◌, ⊎_elim, arith, Option, Some}
use Rattle.atomic_table.specs.Table.{Me}
use Rattle.mono_joinword.specs.declared.views.Kept.{Kept}
use Rattle.mono_joinword.specs.declared.views.Kept.TheVariants.{Waker}
use Rattle.mono_joinword.specs.declared.views.View.{View}
use Rattle.mono_joinword.specs.Steps.{completes, done_at}

module _ {O W : Type 0} (waker_number : W → ℕ) where
  module _ (m : Me (Option (Kept O W)) View) (n : ℕ) (m' : Me (Option (Kept O W)) View) (told : completes waker_number m n m') where
    pub if_none : n ≡ 0 → m' ≡ (done_at m 0 0, m.1)
    if_none e = ⊎_elim (λ t. t.1) (⊎_elim (λ t. let f = t.0 in absurd (omega arith)) (λ t. let f = t.0 in absurd (omega arith))) told

    pub if_waker : n ≡ 24 → (w : W) × (m' ≡ (done_at m 24 (waker_number w), (1, Some (Waker w)) ∷ []))
    if_waker e = ⊎_elim (λ t. let f = t.0 in absurd (omega arith)) (⊎_elim (λ t. let f = t.0 in absurd (omega arith)) (λ t. t.1)) told

    pub else_kept : n ≢ 0 → n ≢ 24 → m' ≡ (done_at m 8 0, [])
    else_kept z f = ⊎_elim (λ t. absurd (z t.0)) (⊎_elim (λ t. t.1) (λ t. absurd (f t.0))) told
