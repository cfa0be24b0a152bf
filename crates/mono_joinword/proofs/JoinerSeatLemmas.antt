-- The meaning of the joiner's steps at the seats that the calls have.
use Rattle.std.proofs.Common.{◌≡◌, ◌≢◌, ℕ, ◌⊎◌, Bool, true, false, eqb, List, [], ◌∷◌, sym, ap, ◌∙◌, subst, ⊎_elim, inl, inr, Option, Some, Result}
use prog.Atomic.{either}
use Rattle.atomic_table.specs.Table.{Me, Allows}
use Rattle.mono_joinword.specs.declared.views.Kind.{Kind}
use Rattle.mono_joinword.specs.declared.views.Kind.TheVariants.{Place}
use Rattle.mono_joinword.specs.declared.outcome.JoinError.{JoinError}
use Rattle.mono_joinword.specs.declared.views.Kept.{Kept}
use Rattle.mono_joinword.specs.declared.views.Kept.TheVariants.{Output, Waker}
use Rattle.mono_joinword.specs.declared.views.JoinerView.{JoinerView}
use Rattle.mono_joinword.specs.declared.views.View.{View}
use Rattle.mono_joinword.specs.declared.views.View.TheVariants.{Joiner}
use Rattle.mono_joinword.specs.Rule.{Joined}
use Rattle.mono_joinword.specs.Steps.{My, Takes, peeks, looks, clears, places, cancels, tries}
use Rattle.mono_joinword.specs.Views.{bits, joiner_of, resting, has_waker, number_or, opened}
use Rattle.mono_joinword.proofs.JoinerStepLemmas.{look_step, clear_step, place_step, cancel_step, peek_step, try_step}

module _ {O W : Type 0} (output_number : O → ℕ) (waker_number : W → ℕ) (n : ℕ) where
  abbrev S : Type 0
  S = Option (Kept O W)

  abbrev Ok_step : ℕ → ℕ → Me S View → (ℕ → ℕ) → (Me S View → ℕ → Me S View → Type 0) → Type 0
  Ok_step slots id m f play = Allows (Joined output_number waker_number n) slots id m 0 f (play m)

  moved : (slots id : ℕ) (f : ℕ → ℕ) (play : Me S View → ℕ → Me S View → Type 0) (m k : Me S View) → m ≡ k → Ok_step slots id k f play → Ok_step slots id m f play
  moved slots id f play m k e = subst (λ (y : Me S View). Ok_step slots id y f play) (sym e)

  -- the same view with the table's number
  abbrev pub numbered : JoinerView → JoinerView
  numbered j = record j { number = n }

  fixed : (m : Me S View) → (joiner_of m.0).number ≡ n → (joiner_of m.0).cancelled ≡ false → m.0 ≡ Joiner (joiner_of m.0) → m.0 ≡ Joiner (record (joiner_of m.0) { number = n; cancelled = false })
  fixed m num open_ e = e ∙ (λ i. Joiner (record (joiner_of m.0) { number = num i; cancelled = open_ i }))

  known : (b : Bool) (old : ℕ) → old ≡ bits false b → (old ≡ 8) ⊎ (old ≡ 24)
  known true old e = inr e
  known false old e = inl e

  pub place_at : (slots id : ℕ) (m : Me S View) (j : JoinerView) (u : W) → m ≡ (Joiner (opened j), (1, Some (Waker u)) ∷ []) → j.number ≡ n
      → Ok_step slots id m (λ y. either (eqb y 8) 24 y) (places output_number waker_number)
  place_at slots id m j u e is = moved slots id (λ y. either (eqb y 8) 24 y) (places output_number waker_number) m (Joiner (opened (numbered j)), (1, Some (Waker u)) ∷ [])
      (e ∙ ap (λ (k : ℕ). (Joiner (record (opened j) { number = k }), (1, Some (Waker u)) ∷ [])) is)
      (place_step output_number waker_number n j.waker_number false j.took_canceled j.saw j.steps u slots id)

  pub look_at : (slots id : ℕ) (m : Me S View) (placed : Option ℕ) (j : JoinerView) → m ≡ (Joiner (resting n placed j), []) → Ok_step slots id m (λ y. y) (looks output_number)
  look_at slots id m placed j e = moved slots id (λ y. y) (looks output_number) m (Joiner (resting n placed j), []) e
      (look_step output_number waker_number n (number_or j.waker_number placed) (has_waker placed) j.took_canceled j.saw j.steps slots id (has_waker placed))

  -- after a load that found a waker in place
  pub clear_at : (slots id : ℕ) (m : Me S View) (placed : Option ℕ) (j : JoinerView) → m ≡ (Joiner (resting n placed j), []) → has_waker placed ≡ true
      → Ok_step slots id m (λ y. either (eqb y 24) 8 y) (clears output_number)
  clear_at slots id m placed j e is = let v = resting n placed j in moved slots id (λ y. either (eqb y 24) 8 y) (clears output_number) m (Joiner (record v { waker = true }), [])
      (e ∙ ap (λ (b : Bool). (Joiner (record v { waker = b }), [])) is)
      (clear_step output_number waker_number n v.waker_number v.told v.took_canceled v.saw v.steps slots id)

  pub peek_at : (slots id : ℕ) (m : Me S View) → m.0 ≡ Joiner (joiner_of m.0) → (joiner_of m.0).number ≡ n → (joiner_of m.0).cancelled ≡ false → Ok_step slots id m (λ y. y) peeks
  peek_at slots id m e num open_ = let j = joiner_of m.0 in
      moved slots id (λ y. y) peeks m (Joiner (record j { number = n; cancelled = false }), m.1) (λ i. (fixed m num open_ e i, m.1))
      (peek_step output_number waker_number n j.waker_number j.holds j.told j.took j.took_canceled j.steps m.1 slots id j.waker j.saw)

  pub cancel_at : (slots id : ℕ) (m : Me S View) (placed : Option ℕ) (j : JoinerView) (old : ℕ) → m ≡ (Joiner (resting n placed j), []) → old ≡ bits false (has_waker placed)
      → Ok_step slots id m (λ y. either (eqb y old) 0 y) (cancels output_number)
  cancel_at slots id m placed j old e is = subst (λ (o : ℕ). Ok_step slots id m (λ y. either (eqb y o) 0 y) (cancels output_number)) (sym is)
      (moved slots id (λ y. either (eqb y (bits false (has_waker placed))) 0 y) (cancels output_number) m (Joiner (resting n placed j), []) e
      (cancel_step output_number waker_number n (number_or j.waker_number placed) (has_waker placed) j.took_canceled j.saw j.steps slots id (has_waker placed)))

  pub try_at : (slots id : ℕ) (m : Me S View) (b : Bool) (old : ℕ) → m.0 ≡ Joiner (joiner_of m.0) → (joiner_of m.0).number ≡ n → (joiner_of m.0).cancelled ≡ false → (joiner_of m.0).took ≡ true → old ≡ bits false b
      → Ok_step slots id m (λ y. either (eqb y old) 0 y) tries
  try_at slots id m b old e num open_ took is = let j = joiner_of m.0 in
      moved slots id (λ y. either (eqb y old) 0 y) tries m (Joiner (record j { number = n; cancelled = false; took = true }), m.1)
      (λ i. ((fixed m num open_ e ∙ ap (λ (b : Bool). Joiner (record j { number = n; cancelled = false; took = b })) took) i, m.1))
      (try_step output_number waker_number n j.waker_number j.holds j.told j.took_canceled j.saw j.steps m.1 old (known b old is) slots id j.waker)

module _ {O W : Type 0} (output_number : O → ℕ) where
  -- the slots after a step that found COMPLETE
  pub takes_first : (j : JoinerView) (kind : Kind) (k : ℕ) (list : List (ℕ × Option (Kept O W))) (m' : My O W) → Takes output_number j kind k list m' → (r : Result O JoinError) × (m'.1 ≡ (0, Some (Output r)) ∷ list)
  takes_first j kind k list m' t = (t.2.0, ap (λ (x : My O W). x.1) t.2.2)

  pub place_missed : (waker_number : W → ℕ) (m : My O W) (k : ℕ) (m' : My O W) → places output_number waker_number m k m' → k ≢ 8 → Takes output_number (joiner_of m.0) Place k m.1 m'
  place_missed waker_number m k m' t f = ⊎_elim (λ a. absurd (f a.0)) (λ b. b.1) t
