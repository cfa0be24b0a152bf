-- The rule of the join word, which holds between any two steps. The word is 8 with interest, 24 with interest and
-- waker, 0 after a cancel, and 2 more if it is complete. A slot that a seat has is away from home, and only that seat
-- knows its value: the runner has the output slot from the start until its completing step.
use Rattle.std.specs.Prelude.{◌≡◌, ℕ, ◌+◌, ◌⊎◌, Bool, true, false, [], ◌∷◌, Option, Some, None, Result}
use mathlib.Core.Option.{Option as Maybe, some, none}
use Rattle.atomic_table.specs.Table.{State}
use Rattle.mono_joinword.specs.declared.outcome.JoinError.{JoinError}
use Rattle.mono_joinword.specs.declared.views.Kept.{Kept}
use Rattle.mono_joinword.specs.declared.views.Kept.TheVariants.{Output, Waker}
use Rattle.mono_joinword.specs.declared.views.Stage.{Stage}
use Rattle.mono_joinword.specs.declared.views.Stage.TheVariants.{Working, Completed}
use Rattle.mono_joinword.specs.declared.views.JoinerView.{JoinerView}
use Rattle.mono_joinword.specs.declared.views.View.{View}
use Rattle.mono_joinword.specs.declared.views.View.TheVariants.{Maker, Joiner}
use Rattle.mono_joinword.specs.Views.{bits, runner_at, is_canceled, HasNumber}

-- The content of a slot at home; none if a seat has the slot.
abbrev pub Home : Type 0 → Type 0 → Type 0
Home O W = Maybe (Option (Kept O W))

module _ {O : Type 0} (W : Type 0) (output_number : O → ℕ) where
  -- The output slot of a complete word, by whether the output is Canceled, whether the joiner cancelled, whether it
  -- took the output, and whether that was Canceled.
  abbrev pub OutputSlot : ℕ → Bool → Bool → Bool → Bool → Home O W → Type 0
  OutputSlot n c false false d home = (r : Result O JoinError) × (home ≡ some (Some (Output r))) × HasNumber output_number n r × (is_canceled r ≡ c)
  OutputSlot n c false true d home = (home ≡ none) × (d ≡ c)
  OutputSlot n c true took d home = (home ≡ none) × (took ≡ false)

module _ (O : Type 0) {W : Type 0} (waker_number : W → ℕ) where
  -- The waker slot of a word that is not complete, by whether a waker is in place, whether the joiner has the slot, and
  -- the number of the waker in place.
  abbrev pub WakerSlot : Bool → Bool → ℕ → Home O W → Type 0
  WakerSlot true holds x home = (w : W) × (home ≡ some (Some (Waker w))) × (waker_number w ≡ x)
  WakerSlot false true x home = home ≡ none
  WakerSlot false false x home = home ≡ some None

module _ {O W : Type 0} (output_number : O → ℕ) (waker_number : W → ℕ) where
  -- The word and both slots, by the runner's stage and the joiner's view. A completing step that found a waker has
  -- taken it: the stage names it.
  abbrev pub Fits : ℕ → Stage → JoinerView → ℕ → Home O W → Home O W → Type 0
  Fits n Working j word output waker =
      (word ≡ bits j.cancelled j.waker) × (j.saw ≡ false) × (j.took ≡ false) × (output ≡ none) × WakerSlot O waker_number j.waker j.holds j.waker_number waker
  Fits n (Completed found canceled woke) j word output waker =
      (found ≡ bits j.cancelled j.waker) × (word ≡ found + 2) × OutputSlot W output_number n canceled j.cancelled j.took j.took_canceled output
      × (j.took ≡ true → j.saw ≡ true) × (j.waker ≡ true → (woke ≡ j.waker_number) × (waker ≡ none))

  -- The joiner's view is consistent by itself.
  abbrev pub Sound : ℕ → JoinerView → Type 0
  Sound n j = (j.number ≡ n) × (j.cancelled ≡ true → j.waker ≡ false) × (j.told ≡ true → j.cancelled ≡ false → j.waker ≡ true)

  -- The table with its two seats, the runner's and the joiner's.
  abbrev pub between : ℕ → Stage → JoinerView → ℕ → Home O W → Home O W → State (Option (Kept O W)) View
  between n stage j word output waker = record { words = word ∷ []; homes = output ∷ waker ∷ []; views = runner_at n stage ∷ Joiner j ∷ [] }

  abbrev pub Split : ℕ → State (Option (Kept O W)) View → Type 0
  Split n s = (stage : Stage) × (j : JoinerView) × (word : ℕ) × (output : Home O W) × (waker : Home O W) × (s ≡ between n stage j word output waker) × Sound n j × Fits n stage j word output waker

  abbrev pub claimed : Bool → Home O W
  claimed true = none
  claimed false = some None

  -- The table with its maker's seat, which has the output slot or not yet.
  abbrev pub making : ℕ → Bool → State (Option (Kept O W)) View
  making n b = record { words = 8 ∷ []; homes = claimed b ∷ some None ∷ []; views = Maker n b ∷ [] }

  abbrev pub Whole : ℕ → State (Option (Kept O W)) View → Type 0
  Whole n s = (b : Bool) × (s ≡ making n b)

  abbrev pub Joined : ℕ → State (Option (Kept O W)) View → Type 0
  Joined n s = Whole n s ⊎ Split n s
