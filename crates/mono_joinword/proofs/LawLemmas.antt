-- The laws of the rule.
use Rattle.std.proofs.Common.{◌<◌, [], ◌∷◌, ◌≡◌, ◌≢◌, ℕ, ◌+◌, arith, List, Some, Err, Bool, true, false, eqb, true≢false, slice_index, sym, refl, ap, ◌∙◌, subst, inl, inr, ⊎_elim, Option}
use mathlib.Core.Option.{some, none}
use Rattle.std.specs.Prelude.{⊤}
use lib.ListN.{get_elem?}
use prog.Atomic.{either}
use Rattle.atomic_table.specs.Table.{State, stepped}
use Rattle.mono_joinword.specs.declared.views.Kept.{Kept}
use Rattle.mono_joinword.specs.declared.views.Kept.TheVariants.{Output, Waker}
use Rattle.mono_joinword.specs.declared.outcome.JoinError.TheVariants.{Canceled}
use Rattle.mono_joinword.specs.declared.views.Stage.{Stage}
use Rattle.mono_joinword.specs.declared.views.Stage.TheVariants.{Working, Completed}
use Rattle.mono_joinword.specs.declared.views.JoinerView.{JoinerView}
use Rattle.mono_joinword.specs.declared.views.View.{View}
use Rattle.mono_joinword.specs.declared.views.View.TheVariants.{Joiner}
use Rattle.mono_joinword.specs.Views.{bits, joiner_of}
use Rattle.mono_joinword.specs.Rule.{Home, OutputSlot, Sound, Fits, between, Whole, Split}
use Rattle.mono_joinword.specs.Steps.{My, peeks, looks, clears, places, cancels, tries}
use Rattle.mono_joinword.specs.Laws.{May, MakingKeeps, CompletingKeeps, IsOpen, PeekingKeeps, LookingKeeps, ClearingKeeps, PlacingKeeps, CancellingKeeps, TryingKeeps, Stands, ToldIsWoken, ComesOnce, NeverBefore, OneOfSix, SixWords, NoStore}
use Rattle.mono_joinword.proofs.SeatLemmas.{Owes, kind, stage_in, IsOne, IsZero}
use Rattle.mono_joinword.proofs.RunnerStepLemmas.{claim_step, split_step, complete_step}
use Rattle.mono_joinword.proofs.JoinerStepLemmas.{peek_step, look_step, clear_step, place_step, cancel_step, try_step}

abbrev first_stage : List View → Stage
first_stage [] = Working
first_stage (v ∷ vs) = stage_in v

abbrev first_kind : List View → ℕ
first_kind [] = 0
first_kind (v ∷ vs) = kind v

abbrev second_joiner : JoinerView → List View → JoinerView
second_joiner d [] = d
second_joiner d (v ∷ []) = d
second_joiner d (v ∷ w ∷ vs) = joiner_of w

module _ {O W : Type 0} (output_number : O → ℕ) (waker_number : W → ℕ) where
  abbrev S : Type 0
  S = Option (Kept O W)

  pub making : MakingKeeps output_number waker_number
  making n = ((λ slots id. claim_step output_number waker_number n slots id _ refl), λ id. split_step output_number waker_number n id)

  pub completing : CompletingKeeps output_number waker_number
  completing n r fine slots id = complete_step output_number waker_number n r fine slots id _ refl

  -- a step at a view that is given by some of its fields
  given_as : (n : ℕ) (list : List (ℕ × S)) (f : ℕ → ℕ) (play : My O W → ℕ → My O W → Type 0) (j k : JoinerView) → k ≡ j → May output_number waker_number n (Joiner k, list) f play → May output_number waker_number n (Joiner j, list) f play
  given_as n list f play j k e = subst (λ (y : JoinerView). May output_number waker_number n (Joiner y, list) f play) e

  open_as : (n : ℕ) (h : Bool) (j : JoinerView) → IsOpen output_number waker_number n h j → record j { number = n; cancelled = false; took = false; holds = h } ≡ j
  open_as n h j o = λ i. record j { number = sym o.0 i; cancelled = sym o.1 i; took = sym o.2 i; holds = sym o.3 i }

  pub peeking : PeekingKeeps output_number waker_number
  peeking n j list num open_ = given_as n list (λ y. y) peeks j (record j { number = n; cancelled = false }) (λ i. record j { number = sym num i; cancelled = sym open_ i })
      (λ slots id. peek_step output_number waker_number n j.waker_number j.holds j.told j.took j.took_canceled j.steps list slots id j.waker j.saw)

  pub looking : LookingKeeps output_number waker_number
  looking n j o = given_as n [] (λ y. y) (looks output_number) j _ (open_as n false j o)
      (λ slots id. look_step output_number waker_number n j.waker_number j.told j.took_canceled j.saw j.steps slots id j.waker)

  pub clearing : ClearingKeeps output_number waker_number
  clearing n j o has = given_as n [] (λ y. either (eqb y 24) 8 y) (clears output_number) j (record j { number = n; cancelled = false; took = false; holds = false; waker = true })
      (λ i. record j { number = sym o.0 i; cancelled = sym o.1 i; took = sym o.2 i; holds = sym o.3 i; waker = sym has i })
      (λ slots id. clear_step output_number waker_number n j.waker_number j.told j.took_canceled j.saw j.steps slots id)

  pub placing : PlacingKeeps output_number waker_number
  placing n j w o none_ = given_as n ((1, Some (Waker w)) ∷ []) (λ y. either (eqb y 8) 24 y) (places output_number waker_number) j (record j { number = n; cancelled = false; took = false; holds = true; waker = false })
      (λ i. record j { number = sym o.0 i; cancelled = sym o.1 i; took = sym o.2 i; holds = sym o.3 i; waker = sym none_ i })
      (λ slots id. place_step output_number waker_number n j.waker_number j.told j.took_canceled j.saw j.steps w slots id)

  pub cancelling : CancellingKeeps output_number waker_number
  cancelling n j o = given_as n [] (λ y. either (eqb y (bits false j.waker)) 0 y) (cancels output_number) j _ (open_as n false j o)
      (λ slots id. cancel_step output_number waker_number n j.waker_number j.told j.took_canceled j.saw j.steps slots id j.waker)

  pub trying : TryingKeeps output_number waker_number
  trying n old j list num open_ took is = given_as n list (λ y. either (eqb y old) 0 y) tries j (record j { number = n; cancelled = false; took = true }) (λ i. record j { number = sym num i; cancelled = sym open_ i; took = sym took i })
      (λ slots id. try_step output_number waker_number n j.waker_number j.holds j.told j.took_canceled j.saw j.steps list old is slots id j.waker)

  -- the word and the slots of a table whose views are known
  abbrev Found : ℕ → Stage → JoinerView → State S View → Type 0
  Found n stage j s = (word : ℕ) × (output : Home O W) × (waker : Home O W) × (s ≡ between output_number waker_number n stage j word output waker) × Sound output_number waker_number n j × Fits output_number waker_number n stage j word output waker

  found_in : (n : ℕ) (stage : Stage) (j : JoinerView) (s : State S View) → Stands output_number waker_number n stage j s → Found n stage j s
  found_in n stage j s stands = ⊎_elim whole split stands.0
    where
      whole : Whole output_number waker_number n s → Found n stage j s
      whole t = absurd (subst IsZero (sym (ap (λ (y : State S View). first_kind y.views) t.1) ∙ ap first_kind stands.1) tt)

      split : Split output_number waker_number n s → Found n stage j s
      split t =
          let views = sym (ap (λ (y : State S View). y.views) t.5) ∙ stands.1 in
          let same_stage : t.0 ≡ stage = ap first_stage views in
          let same_joiner : t.1 ≡ j = ap (second_joiner j) views in
          subst (λ (x : Stage × JoinerView). Found n x.0 x.1 s) (λ i. (same_stage i, same_joiner i)) (t.2, t.3, t.4, t.5, t.6, t.7)

  pub told_is_woken : ToldIsWoken output_number waker_number
  told_is_woken n found woke canceled j s stands told open_ =
      let f = found_in n (Completed found canceled woke) j s stands in
      let has = f.4.2 told open_ in
      (f.5.0 ∙ (λ i. bits (open_ i) (has i)), (f.5.4 has).0)

  -- a joiner that took the output did not cancel
  left_by : (n : ℕ) (canceled c d : Bool) (home : Home O W) → OutputSlot W output_number n canceled c true d home → (c ≡ false) × (home ≡ none) × (d ≡ canceled)
  left_by n canceled true d home slot = absurd (true≢false slot.1)
  left_by n canceled false d home slot = (refl, slot.0, slot.1)

  open_is_some : (w : Bool) → bits false w ≢ 0
  open_is_some true e = omega arith
  open_is_some false e = omega arith

  pub comes_once : ComesOnce output_number waker_number
  comes_once n stage j s stands took = by_stage stage (found_in n stage j s stands)
    where
      Want : Stage → Type 0
      Want st = (found : ℕ) × (woke : ℕ) × (st ≡ Completed found j.took_canceled woke) × (found ≢ 0) × (j.saw ≡ true) × (get_elem? s.homes 0 ≡ some none)

      by_stage : (st : Stage) → Found n st j s → Want st
      by_stage Working f = absurd (true≢false (sym took ∙ f.5.2))
      by_stage (Completed found canceled woke) f =
          let slot = left_by n canceled j.cancelled j.took_canceled f.1 (subst (λ (k : Bool). OutputSlot W output_number n canceled j.cancelled k j.took_canceled f.1) took f.5.2) in
          let is : found ≡ bits false j.waker = f.5.0 ∙ ap (λ (c : Bool). bits c j.waker) slot.0 in
          (found, woke, (λ i. Completed found (sym slot.2 i) woke), (λ e. open_is_some j.waker (sym is ∙ e)), f.5.3 took, ap (λ (y : State S View). get_elem? y.homes 0) f.3 ∙ ap some slot.1)

  pub never_before : NeverBefore output_number waker_number
  never_before n j s stands = let f = found_in n Working j s stands in (f.5.1, f.5.2, ap (λ (y : State S View). get_elem? y.homes 0) f.3 ∙ ap some f.5.3)

  pub six_words : SixWords output_number waker_number
  six_words n s r = ⊎_elim (λ t. subst Six (sym (ap (λ (x : State S View). slice_index x.words 0) t.1)) (inl refl)) (λ t. subst Six (sym (ap (λ (x : State S View). slice_index x.words 0) t.5)) (split t.0 t.1 t.2 t.3 t.4 t.7)) r
    where
      Six : ℕ → Type 0
      Six = OneOfSix output_number waker_number

      open_word : (c b : Bool) → Six (bits c b)
      open_word true b = inr (inr (inr (inr (inl refl))))
      open_word false true = inr (inl refl)
      open_word false false = inl refl

      done_word : (c b : Bool) → Six (bits c b + 2)
      done_word true b = inr (inr (inr (inr (inr refl))))
      done_word false true = inr (inr (inr (inl refl)))
      done_word false false = inr (inr (inl refl))

      split : (stage : Stage) (j : JoinerView) (word : ℕ) (output waker : Home O W) → Fits output_number waker_number n stage j word output waker → Six word
      split Working j word output waker fits = subst Six (sym fits.0) (open_word j.cancelled j.waker)
      split (Completed found canceled woke) j word output waker fits = subst Six (sym (fits.1 ∙ ap (λ (x : ℕ). x + 2) fits.0)) (done_word j.cancelled j.waker)

  pub no_store : NoStore output_number waker_number
  no_store n j list sound open_ left allows = ⊎_elim whole split after.3
    where
      stage : Stage
      stage = Completed (bits j.cancelled j.waker) true j.waker_number

      full : Home O W
      full = some (Some (Output (Err Canceled)))

      before : State S View
      before = between output_number waker_number n stage j (bits j.cancelled j.waker + 2) full none

      slot : (c k : Bool) → c ≡ false → k ≡ false → OutputSlot W output_number n true c k j.took_canceled full
      slot true k e f = absurd (true≢false e)
      slot false true e f = absurd (true≢false f)
      slot false false e f = (Err Canceled, refl, tt, refl)

      small : bits j.cancelled j.waker + 2 < 18446744073709551616
      small = subst (λ (c : Bool). bits c j.waker + 2 < 18446744073709551616) (sym open_) (small_at j.waker)
        where
          small_at : (w : Bool) → bits false w + 2 < 18446744073709551616
          small_at true = omega arith
          small_at false = omega arith

      after : Owes output_number waker_number n before 1 (Joiner j, list) (λ _. 0) (λ found after. ⊤)
      after = allows before (inr (stage, j, bits j.cancelled j.waker + 2, full, none, refl, sound, (refl, refl, slot j.cancelled j.took open_ left, (λ e. absurd (true≢false (sym e ∙ left))), λ e. (refl, refl)))) refl refl small

      whole : Whole output_number waker_number n (stepped before 0 0 1 list after.0 after.1) → ⊥
      whole w = subst IsOne (ap (λ (y : State S View). first_kind y.views) w.1) tt

      split : Split output_number waker_number n (stepped before 0 0 1 list after.0 after.1) → ⊥
      split w =
          let zero_is : 0 ≡ w.2 = ap (λ (y : State S View). slice_index y.words 0) w.5 in
          let same = ap (λ (y : State S View). first_stage y.views) w.5 in
          let fits = subst (λ (y : Stage). Fits output_number waker_number n y w.1 w.2 w.3 w.4) (sym same) w.7 in
          let more : w.2 ≡ bits j.cancelled j.waker + 2 = fits.1 in absurd (omega arith)
