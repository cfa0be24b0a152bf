-- The joiner's steps keep the rule.
use Rattle.std.proofs.Common.{◌≡◌, ℕ, ◌+◌, ◌⊎◌, Bool, true, false, eqb, true≢false, List, [], ◌∷◌, sym, refl, ap, ◌∙◌, subst, inl, inr, ⊎_elim, arith, Option, Some, None}
use mathlib.Core.Option.{none, some}
use prog.Atomic.{either}
use Rattle.atomic_table.specs.Table.{Me, keeps, takes, gives, Allows}
use Rattle.mono_joinword.specs.declared.views.Kind.{Kind}
use Rattle.mono_joinword.specs.declared.views.Kind.TheVariants.{Load, Place, Clear, Cancel}
use Rattle.mono_joinword.specs.declared.views.Kept.{Kept}
use Rattle.mono_joinword.specs.declared.views.Kept.TheVariants.{Output, Waker}
use Rattle.mono_joinword.specs.declared.views.Stage.{Stage}
use Rattle.mono_joinword.specs.declared.views.Stage.TheVariants.{Working, Completed}
use Rattle.mono_joinword.specs.declared.views.JoinerView.{JoinerView}
use Rattle.mono_joinword.specs.declared.views.View.{View}
use Rattle.mono_joinword.specs.declared.views.View.TheVariants.{Joiner}
use Rattle.mono_joinword.specs.Rule.{Home, Sound, Fits, between, Joined}
use Rattle.mono_joinword.specs.Steps.{peeks, looks, clears, places, cancels, tries}
use Rattle.mono_joinword.specs.Views.{bits, is_canceled, looked, taking, opened, placed_view, cancelled_view}
use Rattle.mono_joinword.proofs.SeatLemmas.{Owes, joiner_step}

off : {X : Type 0} → false ≡ true → X
off e = absurd (true≢false (sym e))

module _ {O W : Type 0} (output_number : O → ℕ) (waker_number : W → ℕ) (n : ℕ) where
  abbrev S : Type 0
  S = Option (Kept O W)

  -- a joiner with interest that took no output
  abbrev pub at : Bool → ℕ → Bool → Bool → Bool → Bool → List (Kind × ℕ) → JoinerView
  at w x h t s d steps = record { number = n; cancelled = false; waker = w; waker_number = x; holds = h; told = t; saw = s; took = false; took_canceled = d; steps = steps }

  abbrev Snd : JoinerView → Type 0
  Snd = Sound output_number waker_number n

  abbrev Fit : Stage → JoinerView → ℕ → Home O W → Home O W → Type 0
  Fit = Fits output_number waker_number n

  abbrev Due : Stage → JoinerView → ℕ → Home O W → Home O W → List (ℕ × S) → (ℕ → ℕ) → (ℕ → Me S View → Type 0) → Type 0
  Due st j word output waker list f then = Owes output_number waker_number n (between output_number waker_number n st j word output waker) 1 (Joiner j, list) f then

  -- the word and the output slot as equations, out of the way
  clear_word : (st : Stage) (j : JoinerView) (list : List (ℕ × S)) (f : ℕ → ℕ) (then : ℕ → Me S View → Type 0) (word known : ℕ) (output waker : Home O W) → word ≡ known → Due st j known output waker list f then → Due st j word output waker list f then
  clear_word st j list f then word known output waker e = subst (λ (x : ℕ). Due st j x output waker list f then) (sym e)

  -- poll's load
  module _ (x : ℕ) (t d s : Bool) (steps : List (Kind × ℕ)) where
    look_due : (w : Bool) (st : Stage) (word : ℕ) (output waker : Home O W) → Snd (at w x false t s d steps) → Fit st (at w x false t s d steps) word output waker
        → Due st (at w x false t s d steps) word output waker [] (λ y. y) (looks output_number (Joiner (at w x false t s d steps), []))
    look_due false Working word output waker sound fits = let j = at false x false t s d steps in clear_word Working j [] (λ y. y) (looks output_number (Joiner j, [])) word 8 output waker fits.0 (
      Joiner (opened (looked j Load 8)),
      takes 1 None,
      ap some fits.4,
      inr (Working, opened (looked j Load 8), 8, output, none, refl, (refl, (λ e. off e), λ e _. off e), (refl, fits.1, refl, fits.3, refl)),
      inl (refl, refl, fits.1, refl),
    )
    look_due true Working word output waker sound fits = let j = at true x false t s d steps in clear_word Working j [] (λ y. y) (looks output_number (Joiner j, [])) word 24 output waker fits.0 (
      Joiner (looked j Load 24),
      keeps,
      tt,
      inr (Working, looked j Load 24, 24, output, waker, refl, sound, (refl, fits.1, refl, fits.3, fits.4)),
      inr (inl (refl, refl, fits.1, refl)),
    )
    look_due false (Completed f c y) word output waker sound fits = let j = at false x false t s d steps in let r = fits.2.0 in
        clear_word (Completed f c y) j [] (λ y. y) (looks output_number (Joiner j, [])) word 10 output waker (fits.1 ∙ ap (λ (z : ℕ). z + 2) fits.0) (
          Joiner (taking (looked j Load 10) (is_canceled r)),
          takes 0 (Some (Output r)),
          ap some fits.2.1,
          inr (Completed f c y, taking (looked j Load 10) (is_canceled r), 10, none, waker, refl, sound, (fits.0, ap (λ (z : ℕ). z + 2) (sym fits.0), (refl, fits.2.3), (λ _. refl), λ e. off e)),
          inr (inr (refl, refl, (r, fits.2.2, refl))),
        )
    look_due true (Completed f c y) word output waker sound fits = let j = at true x false t s d steps in let r = fits.2.0 in
        clear_word (Completed f c y) j [] (λ y. y) (looks output_number (Joiner j, [])) word 26 output waker (fits.1 ∙ ap (λ (z : ℕ). z + 2) fits.0) (
          Joiner (taking (looked j Load 26) (is_canceled r)),
          takes 0 (Some (Output r)),
          ap some fits.2.1,
          inr (Completed f c y, taking (looked j Load 26) (is_canceled r), 26, none, waker, refl, sound, (fits.0, ap (λ (z : ℕ). z + 2) (sym fits.0), (refl, fits.2.3), (λ _. refl), fits.4)),
          inr (inr (refl, refl, (r, fits.2.2, refl))),
        )

    pub look_step : (slots id : ℕ) (w : Bool) → let m : Me S View = (Joiner (at w x false t s d steps), []) in Allows (Joined output_number waker_number n) slots id m 0 (λ y. y) (looks output_number m)
    look_step slots id w = joiner_step output_number waker_number n slots id (at w x false t s d steps) [] (λ y. y) (looks output_number (Joiner (at w x false t s d steps), [])) (look_due w)

    -- clears the waker bit
    clear_due : (st : Stage) (word : ℕ) (output waker : Home O W) → Snd (at true x false t s d steps) → Fit st (at true x false t s d steps) word output waker
        → Due st (at true x false t s d steps) word output waker [] (λ y. either (eqb y 24) 8 y) (clears output_number (Joiner (at true x false t s d steps), []))
    clear_due Working word output waker sound fits = let j = at true x false t s d steps in let u : W = fits.4.0 in
        clear_word Working j [] (λ y. either (eqb y 24) 8 y) (clears output_number (Joiner j, [])) word 24 output waker fits.0 (
          Joiner (opened (looked j Clear 24)),
          takes 1 (Some (Waker u)),
          ap some fits.4.1,
          inr (Working, opened (looked j Clear 24), 8, output, none, refl, (refl, (λ e. off e), λ e _. off e), (refl, fits.1, refl, fits.3, refl)),
          inl (refl, (u, refl)),
        )
    clear_due (Completed f c y) word output waker sound fits = let j = at true x false t s d steps in let r = fits.2.0 in
        clear_word (Completed f c y) j [] (λ y. either (eqb y 24) 8 y) (clears output_number (Joiner j, [])) word 26 output waker (fits.1 ∙ ap (λ (z : ℕ). z + 2) fits.0) (
          Joiner (taking (looked j Clear 26) (is_canceled r)),
          takes 0 (Some (Output r)),
          ap some fits.2.1,
          inr (Completed f c y, taking (looked j Clear 26) (is_canceled r), 26, none, waker, refl, sound, (fits.0, ap (λ (z : ℕ). z + 2) (sym fits.0), (refl, fits.2.3), (λ _. refl), fits.4)),
          inr ((λ e. omega arith), (refl, refl, (r, fits.2.2, refl))),
        )

    pub clear_step : (slots id : ℕ) → let m : Me S View = (Joiner (at true x false t s d steps), []) in Allows (Joined output_number waker_number n) slots id m 0 (λ y. either (eqb y 24) 8 y) (clears output_number m)
    clear_step slots id = joiner_step output_number waker_number n slots id (at true x false t s d steps) [] (λ y. either (eqb y 24) 8 y) (clears output_number (Joiner (at true x false t s d steps), [])) clear_due

    -- sets the waker bit, with the waker in the slot that the seat has
    module _ (u : W) where
      abbrev has : List (ℕ × S)
      has = (1, Some (Waker u)) ∷ []

      place_due : (st : Stage) (word : ℕ) (output waker : Home O W) → Snd (at false x true t s d steps) → Fit st (at false x true t s d steps) word output waker
          → Due st (at false x true t s d steps) word output waker has (λ y. either (eqb y 8) 24 y) (places output_number waker_number (Joiner (at false x true t s d steps), has))
      place_due Working word output waker sound fits = let j = at false x true t s d steps in let w = placed_view (looked j Place 8) (waker_number u) in
          clear_word Working j has (λ y. either (eqb y 8) 24 y) (places output_number waker_number (Joiner j, has)) word 8 output waker fits.0 (
            Joiner w,
            gives,
            tt,
            inr (Working, w, 24, output, some (Some (Waker u)), refl, (refl, (λ e. off e), λ _ _. refl), (refl, fits.1, refl, fits.3, (u, refl, refl))),
            inl (refl, refl),
          )
      place_due (Completed f c y) word output waker sound fits = let j = at false x true t s d steps in let r = fits.2.0 in
          clear_word (Completed f c y) j has (λ y. either (eqb y 8) 24 y) (places output_number waker_number (Joiner j, has)) word 10 output waker (fits.1 ∙ ap (λ (z : ℕ). z + 2) fits.0) (
            Joiner (taking (looked j Place 10) (is_canceled r)),
            takes 0 (Some (Output r)),
            ap some fits.2.1,
            inr (Completed f c y, taking (looked j Place 10) (is_canceled r), 10, none, waker, refl, sound, (fits.0, ap (λ (z : ℕ). z + 2) (sym fits.0), (refl, fits.2.3), (λ _. refl), λ e. off e)),
            inr ((λ e. omega arith), (refl, refl, (r, fits.2.2, refl))),
          )

      pub place_step : (slots id : ℕ) → let m : Me S View = (Joiner (at false x true t s d steps), has) in Allows (Joined output_number waker_number n) slots id m 0 (λ y. either (eqb y 8) 24 y) (places output_number waker_number m)
      place_step slots id = joiner_step output_number waker_number n slots id (at false x true t s d steps) has (λ y. either (eqb y 8) 24 y) (places output_number waker_number (Joiner (at false x true t s d steps), has)) place_due

    -- clears both bits of the word that it names
    cancel_due : (w : Bool) (st : Stage) (word : ℕ) (output waker : Home O W) → Snd (at w x false t s d steps) → Fit st (at w x false t s d steps) word output waker
        → Due st (at w x false t s d steps) word output waker [] (λ y. either (eqb y (bits false w)) 0 y) (cancels output_number (Joiner (at w x false t s d steps), []))
    cancel_due false Working word output waker sound fits = let j = at false x false t s d steps in let v = cancelled_view (looked j Cancel 8) in
        clear_word Working j [] (λ y. either (eqb y 8) 0 y) (cancels output_number (Joiner j, [])) word 8 output waker fits.0 (
          Joiner v,
          keeps,
          tt,
          inr (Working, v, 0, output, waker, refl, (refl, (λ _. refl), λ _ e. absurd (true≢false e)), (refl, fits.1, refl, fits.3, fits.4)),
          inl (refl, fits.1, refl),
        )
    cancel_due true Working word output waker sound fits = let j = at true x false t s d steps in let v = cancelled_view (looked j Cancel 24) in let u : W = fits.4.0 in
        clear_word Working j [] (λ y. either (eqb y 24) 0 y) (cancels output_number (Joiner j, [])) word 24 output waker fits.0 (
          Joiner v,
          takes 1 (Some (Waker u)),
          ap some fits.4.1,
          inr (Working, v, 0, output, none, refl, (refl, (λ _. refl), λ _ e. absurd (true≢false e)), (refl, fits.1, refl, fits.3, refl)),
          inr (inl (refl, fits.1, (u, refl))),
        )
    cancel_due false (Completed f c y) word output waker sound fits = let j = at false x false t s d steps in let r = fits.2.0 in
        clear_word (Completed f c y) j [] (λ y. either (eqb y 8) 0 y) (cancels output_number (Joiner j, [])) word 10 output waker (fits.1 ∙ ap (λ (z : ℕ). z + 2) fits.0) (
          Joiner (taking (looked j Cancel 10) (is_canceled r)),
          takes 0 (Some (Output r)),
          ap some fits.2.1,
          inr (Completed f c y, taking (looked j Cancel 10) (is_canceled r), 10, none, waker, refl, sound, (fits.0, ap (λ (z : ℕ). z + 2) (sym fits.0), (refl, fits.2.3), (λ _. refl), λ e. off e)),
          inr (inr (refl, refl, (r, fits.2.2, refl))),
        )
    cancel_due true (Completed f c y) word output waker sound fits = let j = at true x false t s d steps in let r = fits.2.0 in
        clear_word (Completed f c y) j [] (λ y. either (eqb y 24) 0 y) (cancels output_number (Joiner j, [])) word 26 output waker (fits.1 ∙ ap (λ (z : ℕ). z + 2) fits.0) (
          Joiner (taking (looked j Cancel 26) (is_canceled r)),
          takes 0 (Some (Output r)),
          ap some fits.2.1,
          inr (Completed f c y, taking (looked j Cancel 26) (is_canceled r), 26, none, waker, refl, sound, (fits.0, ap (λ (z : ℕ). z + 2) (sym fits.0), (refl, fits.2.3), (λ _. refl), fits.4)),
          inr (inr (refl, refl, (r, fits.2.2, refl))),
        )

    pub cancel_step : (slots id : ℕ) (w : Bool) → let m : Me S View = (Joiner (at w x false t s d steps), []) in Allows (Joined output_number waker_number n) slots id m 0 (λ y. either (eqb y (bits false w)) 0 y) (cancels output_number m)
    cancel_step slots id w = joiner_step output_number waker_number n slots id (at w x false t s d steps) [] (λ y. either (eqb y (bits false w)) 0 y) (cancels output_number (Joiner (at w x false t s d steps), [])) (cancel_due w)

  -- a load by a joiner that did not cancel
  abbrev any : Bool → ℕ → Bool → Bool → Bool → Bool → Bool → List (Kind × ℕ) → JoinerView
  any w x h t s k d steps = record { number = n; cancelled = false; waker = w; waker_number = x; holds = h; told = t; saw = s; took = k; took_canceled = d; steps = steps }

  module _ (x : ℕ) (h t k d : Bool) (steps : List (Kind × ℕ)) (list : List (ℕ × S)) where
    peek_due : (w s : Bool) (st : Stage) (word : ℕ) (output waker : Home O W) → Snd (any w x h t s k d steps) → Fit st (any w x h t s k d steps) word output waker
        → Due st (any w x h t s k d steps) word output waker list (λ y. y) (peeks (Joiner (any w x h t s k d steps), list))
    peek_due false s Working word output waker sound fits = let j = any false x h t s k d steps in
        clear_word Working j list (λ y. y) (peeks (Joiner j, list)) word 8 output waker fits.0 (Joiner (looked j Load 8), keeps, tt, inr (Working, looked j Load 8, 8, output, waker, refl, sound, (refl, fits.1, fits.2, fits.3, fits.4)), (inl refl, refl, refl, λ e. absurd (true≢false (sym e ∙ fits.1))))
    peek_due true s Working word output waker sound fits = let j = any true x h t s k d steps in
        clear_word Working j list (λ y. y) (peeks (Joiner j, list)) word 24 output waker fits.0 (Joiner (looked j Load 24), keeps, tt, inr (Working, looked j Load 24, 24, output, waker, refl, sound, (refl, fits.1, fits.2, fits.3, fits.4)), (inr (inl refl), refl, refl, λ e. absurd (true≢false (sym e ∙ fits.1))))
    peek_due false s (Completed f c y) word output waker sound fits = let j = any false x h t s k d steps in
        clear_word (Completed f c y) j list (λ y. y) (peeks (Joiner j, list)) word 10 output waker (fits.1 ∙ ap (λ (z : ℕ). z + 2) fits.0) (
          Joiner (looked j Load 10),
          keeps,
          tt,
          inr (Completed f c y, looked j Load 10, 10, output, waker, refl, sound, (fits.0, ap (λ (z : ℕ). z + 2) (sym fits.0), fits.2, (λ _. refl), λ e. off e)),
          (inr (inr (inl refl)), refl, refl, λ _. refl),
        )
    peek_due true s (Completed f c y) word output waker sound fits = let j = any true x h t s k d steps in
        clear_word (Completed f c y) j list (λ y. y) (peeks (Joiner j, list)) word 26 output waker (fits.1 ∙ ap (λ (z : ℕ). z + 2) fits.0) (
          Joiner (looked j Load 26),
          keeps,
          tt,
          inr (Completed f c y, looked j Load 26, 26, output, waker, refl, sound, (fits.0, ap (λ (z : ℕ). z + 2) (sym fits.0), fits.2, (λ _. refl), fits.4)),
          (inr (inr (inr refl)), refl, refl, λ _. refl),
        )

    pub peek_step : (slots id : ℕ) (w s : Bool) → let m : Me S View = (Joiner (any w x h t s k d steps), list) in Allows (Joined output_number waker_number n) slots id m 0 (λ y. y) (peeks m)
    peek_step slots id w s = joiner_step output_number waker_number n slots id (any w x h t s k d steps) list (λ y. y) (peeks (Joiner (any w x h t s k d steps), list)) (peek_due w s)

  module _ (x : ℕ) (h t d s : Bool) (steps : List (Kind × ℕ)) (list : List (ℕ × S)) (old : ℕ) (fresh : (old ≡ 8) ⊎ (old ≡ 24)) where
    unmoved : (y : ℕ) → (y ≡ 10) ⊎ (y ≡ 26) → (o : ℕ) → (o ≡ 8) ⊎ (o ≡ 24) → either (eqb y o) 0 y ≡ y
    unmoved y e o f =
        let at_old : (z : ℕ) → (z ≡ 10) ⊎ (z ≡ 26) → (either (eqb z 8) 0 z ≡ z) × (either (eqb z 24) 0 z ≡ z) = λ z g. ⊎_elim (λ a. subst (λ (q : ℕ). (either (eqb q 8) 0 q ≡ q) × (either (eqb q 24) 0 q ≡ q)) (sym a) (refl, refl)) (λ a. subst (λ (q : ℕ). (either (eqb q 8) 0 q ≡ q) × (either (eqb q 24) 0 q ≡ q)) (sym a) (refl, refl)) g in
        ⊎_elim (λ a. subst (λ (q : ℕ). either (eqb y q) 0 y ≡ y) (sym a) (at_old y e).0) (λ a. subst (λ (q : ℕ). either (eqb y q) 0 y ≡ y) (sym a) (at_old y e).1) f

    try_due : (w : Bool) (st : Stage) (word : ℕ) (output waker : Home O W) → Snd (any w x h t s true d steps) → Fit st (any w x h t s true d steps) word output waker
        → Due st (any w x h t s true d steps) word output waker list (λ y. either (eqb y old) 0 y) (tries (Joiner (any w x h t s true d steps), list))
    try_due w Working word output waker sound fits = absurd (true≢false fits.2)
    try_due false (Completed f c y) word output waker sound fits = let j = any false x h t s true d steps in let v = looked j Cancel 10 in
        clear_word (Completed f c y) j list (λ z. either (eqb z old) 0 z) (tries (Joiner j, list)) word 10 output waker (fits.1 ∙ ap (λ (z : ℕ). z + 2) fits.0) (
          Joiner v,
          keeps,
          tt,
          subst (λ (z : ℕ). Joined output_number waker_number n (between output_number waker_number n (Completed f c y) v z output waker)) (sym (unmoved 10 (inl refl) old fresh))
              (inr (Completed f c y, v, 10, output, waker, refl, sound, (fits.0, ap (λ (z : ℕ). z + 2) (sym fits.0), fits.2, (λ _. refl), λ e. off e))),
          (refl, refl),
        )
    try_due true (Completed f c y) word output waker sound fits = let j = any true x h t s true d steps in let v = looked j Cancel 26 in
        clear_word (Completed f c y) j list (λ z. either (eqb z old) 0 z) (tries (Joiner j, list)) word 26 output waker (fits.1 ∙ ap (λ (z : ℕ). z + 2) fits.0) (
          Joiner v,
          keeps,
          tt,
          subst (λ (z : ℕ). Joined output_number waker_number n (between output_number waker_number n (Completed f c y) v z output waker)) (sym (unmoved 26 (inr refl) old fresh))
              (inr (Completed f c y, v, 26, output, waker, refl, sound, (fits.0, ap (λ (z : ℕ). z + 2) (sym fits.0), fits.2, (λ _. refl), fits.4))),
          (refl, refl),
        )

    pub try_step : (slots id : ℕ) (w : Bool) → let m : Me S View = (Joiner (any w x h t s true d steps), list) in Allows (Joined output_number waker_number n) slots id m 0 (λ y. either (eqb y old) 0 y) (tries m)
    try_step slots id w = joiner_step output_number waker_number n slots id (any w x h t s true d steps) list (λ y. either (eqb y old) 0 y) (tries (Joiner (any w x h t s true d steps), list)) (try_due w)
