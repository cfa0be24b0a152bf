-- The maker's and the runner's steps keep the rule.
use Rattle.std.proofs.Common.{◌≡◌, ℕ, suc, Bool, true, false, true≢false, List, [], ◌∷◌, ◌++◌, sym, refl, ap, subst, inl, inr, ⊎_elim, zero, set, Option, Some, None, Result}
use Rattle.std.specs.Prelude.{bit_or}
use mathlib.Core.Option.{none, some, some-injective, some-ne-none}
use lib.ListN.{get_elem?}
use Rattle.atomic_table.specs.Table.{State, Me, keeps, takes, gives, chain, Allows, Splits}
use Rattle.mono_joinword.specs.declared.views.Kind.{Kind}
use Rattle.mono_joinword.specs.declared.outcome.JoinError.{JoinError}
use Rattle.mono_joinword.specs.declared.views.Kept.{Kept}
use Rattle.mono_joinword.specs.declared.views.Kept.TheVariants.{Output, Waker}
use Rattle.mono_joinword.specs.declared.views.Stage.TheVariants.{Working, Completed}
use Rattle.mono_joinword.specs.declared.views.JoinerView.{JoinerView}
use Rattle.mono_joinword.specs.declared.views.View.{View}
use Rattle.mono_joinword.specs.declared.views.View.TheVariants.{Maker, Joiner}
use Rattle.mono_joinword.specs.Rule.{Home, WakerSlot, Sound, between, Joined, making, Whole, Split}
use Rattle.mono_joinword.specs.Steps.{claims, completes, done_at, runner_half, joiner_half}
use Rattle.mono_joinword.specs.Views.{bits, is_canceled, HasNumber, runner_at, fresh}
use Rattle.mono_joinword.proofs.SeatLemmas.{has_slot, no_maker, Owes, runner_step, maker_step}

module _ {O W : Type 0} (output_number : O → ℕ) (waker_number : W → ℕ) (n : ℕ) where
  abbrev S : Type 0
  S = Option (Kept O W)

  -- the maker takes the output slot
  pub claim_step : (slots id : ℕ) (m : Me S View) → m ≡ (Maker n false, []) → Allows (Joined output_number waker_number n) slots id m 0 (λ x. x) (claims m)
  claim_step slots id m e = subst (λ (y : Me S View). Allows (Joined output_number waker_number n) slots id y 0 (λ x. x) (claims y)) (sym e)
      (maker_step output_number waker_number n slots id false [] (λ x. x) (claims (Maker n false, [])) (Maker n true, takes 0 None, refl, inl (true, refl), refl))

  module _ (r : Result O JoinError) (fine : HasNumber output_number n r) where
    abbrev mine : List (ℕ × S)
    mine = (0, Some (Output r)) ∷ []

    abbrev me : Me S View
    me = (runner_at n Working, mine)

    abbrev Tells : ℕ → Me S View → Type 0
    Tells = completes waker_number me

    abbrev told : JoinerView → Home O W → Type 0
    told j waker = Owes output_number waker_number n (between output_number waker_number n Working j (bits j.cancelled j.waker) none waker) 0 me (λ x. bit_or x 2) Tells

    abbrev of : ℕ → Bool → Bool → ℕ → Bool → Bool → Bool → Bool → Bool → List (Kind × ℕ) → JoinerView
    of i c w x h t s k d steps = record { number = i; cancelled = c; waker = w; waker_number = x; holds = h; told = t; saw = s; took = k; took_canceled = d; steps = steps }

    -- by the joiner's bits, and whether it took the output, which it did not
    given : (i : ℕ) (c w : Bool) (x : ℕ) (h t s k d : Bool) (steps : List (Kind × ℕ)) (waker : Home O W) → Sound output_number waker_number n (of i c w x h t s k d steps) → k ≡ false
        → WakerSlot O waker_number w h x waker → told (of i c w x h t s k d steps) waker
    given i c w x h t s true d steps waker sound left slot = absurd (true≢false left)
    given i true true x h t s false d steps waker sound left slot = absurd (true≢false (sound.1 refl))
    given i true false x h t s false d steps waker sound left slot = (
      done_at me 0 0,
      keeps,
      tt,
      inr (Completed 0 (is_canceled r) 0, _, 2, none, waker, refl, sound, (refl, refl, (refl, refl), (λ e. absurd (true≢false (sym e))), λ e. absurd (true≢false (sym e)))),
      inl (refl, refl),
    )
    given i false false x h t s false d steps waker sound left slot = (
      done_at me 8 0,
      gives,
      tt,
      inr (Completed 8 (is_canceled r) 0, _, 10, some (Some (Output r)), waker, refl, sound, (refl, refl, (r, refl, fine, refl), (λ e. absurd (true≢false (sym e))), λ e. absurd (true≢false (sym e)))),
      inr (inl (refl, refl)),
    )
    given i false true x h t s false d steps waker sound left slot = let w : W = slot.0 in (
      done_at me 24 (waker_number w),
      chain gives (takes 1 (Some (Waker w))),
      (tt, ap some slot.1),
      inr (Completed 24 (is_canceled r) (waker_number w), _, 26, some (Some (Output r)), none, refl, sound, (refl, refl, (r, refl, fine, refl), (λ e. absurd (true≢false (sym e))), λ _. (slot.2, refl))),
      inr (inr (refl, (w, refl))),
    )

    pub complete_step : (slots id : ℕ) (m : Me S View) → m ≡ me → Allows (Joined output_number waker_number n) slots id m 0 (λ x. bit_or x 2) (completes waker_number m)
    complete_step slots id m e = subst (λ (y : Me S View). Allows (Joined output_number waker_number n) slots id y 0 (λ x. bit_or x 2) (completes waker_number y)) (sym e)
        (runner_step output_number waker_number n slots id Working mine (λ x. bit_or x 2) Tells
        (λ j word output waker sound fits. subst (λ (x : ℕ × Home O W). Owes output_number waker_number n (between output_number waker_number n Working j x.0 x.1 waker) 0 me (λ x. bit_or x 2) Tells)
        (λ i. (sym fits.0 i, sym fits.3 i)) (given j.number j.cancelled j.waker j.waker_number j.holds j.told j.saw j.took j.took_canceled j.steps waker sound fits.2 fits.4)))

  -- the maker's seat becomes the runner's, and the new one is the joiner's
  pub split_step : (id : ℕ) → Splits (Joined output_number waker_number n) id (Maker n true) (runner_at n Working) (Joiner (fresh n))
  split_step id s r at = ⊎_elim whole split r
    where
      After : State S View → ℕ → State S View
      After t k = record { words = t.words; homes = t.homes; views = set t.views k (runner_at n Working) ++ Joiner (fresh n) ∷ [] }

      Is : State S View → Type 0
      Is t = get_elem? t.views id ≡ some (Maker n true)

      whole_at : (k : ℕ) (b : Bool) → get_elem? (making output_number waker_number n b).views k ≡ some (Maker n true) → Joined output_number waker_number n (After (making output_number waker_number n b) k)
      whole_at zero true e = inr (Working, fresh n, 8, none, some None, refl, (refl, (λ _. refl), λ h _. h), (refl, refl, refl, refl, refl))
      whole_at zero false e = absurd (true≢false (sym (ap has_slot (some-injective _ _ e))))
      whole_at (suc k) b e = absurd (some-ne-none _ (sym e))

      whole : Whole output_number waker_number n s → Joined output_number waker_number n (After s id)
      whole t = subst (λ (x : State S View). Joined output_number waker_number n (After x id)) (sym t.1) (whole_at id t.0 (subst Is t.1 at))

      split : Split output_number waker_number n s → Joined output_number waker_number n (After s id)
      split t = absurd (no_maker output_number waker_number n true id t.0 t.1 t.2 t.3 t.4 (subst Is t.5 at))

  pub split_as : (id : ℕ) (v : View) → v ≡ Maker n true → Splits (Joined output_number waker_number n) id v (runner_half v) (joiner_half v)
  split_as id v e = subst (λ (y : View). Splits (Joined output_number waker_number n) id y (runner_half y) (joiner_half y)) (sym e) (split_step id)
