-- The consequences of the rule, and that each kind of step keeps it.
use Rattle.std.specs.Prelude.{⊤, ◌≡◌, ◌≢◌, ℕ, ◌⊎◌, Bool, true, false, eqb, bit_or, slice_index, List, [], ◌∷◌, Option, Some, Result}
use mathlib.Core.Option.{none, some}
use lib.ListN.{get_elem?}
use prog.Atomic.{either}
use Rattle.atomic_table.specs.Table.{State, Allows, Splits}
use Rattle.mono_joinword.specs.declared.outcome.JoinError.{JoinError}
use Rattle.mono_joinword.specs.declared.views.Kept.{Kept}
use Rattle.mono_joinword.specs.declared.views.Kept.TheVariants.{Output, Waker}
use Rattle.mono_joinword.specs.declared.views.Stage.{Stage}
use Rattle.mono_joinword.specs.declared.views.Stage.TheVariants.{Working, Completed}
use Rattle.mono_joinword.specs.declared.views.JoinerView.{JoinerView}
use Rattle.mono_joinword.specs.declared.views.View.{View}
use Rattle.mono_joinword.specs.declared.views.View.TheVariants.{Maker, Joiner}
use Rattle.mono_joinword.specs.Views.{bits, runner_at, fresh, HasNumber}
use Rattle.mono_joinword.specs.Rule.{Joined, Sound}
use Rattle.mono_joinword.specs.Steps.{My, claims, completes, peeks, looks, clears, places, cancels, tries}

module _ {O W : Type 0} (output_number : O → ℕ) (waker_number : W → ℕ) where
  -- The seat m may change the word by f, whatever the table is, and the rule holds afterwards.
  abbrev pub May : ℕ → My O W → (ℕ → ℕ) → (My O W → ℕ → My O W → Type 0) → Type 0
  May n m f play = (slots id : ℕ) → Allows (Joined output_number waker_number n) slots id m 0 f (play m)

  -- The maker's load and the split keep the rule.
  abbrev pub MakingKeeps : Type 0
  MakingKeeps = (n : ℕ) → May n (Maker n false, []) (λ x. x) claims × ((id : ℕ) → Splits (Joined output_number waker_number n) id (Maker n true) (runner_at n Working) (Joiner (fresh n)))

  -- The runner's step keeps the rule, once the output of the pair is in its slot.
  abbrev pub CompletingKeeps : Type 0
  CompletingKeeps = (n : ℕ) (r : Result O JoinError) → HasNumber output_number n r → May n (runner_at n Working, (0, Some (Output r)) ∷ []) (λ x. bit_or x 2) (completes waker_number)

  -- A joiner of the pair n that did not cancel, and has the waker slot or not.
  abbrev pub IsOpen : ℕ → Bool → JoinerView → Type 0
  IsOpen n holds j = (j.number ≡ n) × (j.cancelled ≡ false) × (j.took ≡ false) × (j.holds ≡ holds)

  -- The joiner's steps keep the rule: a load that takes nothing at any time before a cancel, and the steps of a poll
  -- and a cancel before it took the output.
  abbrev pub PeekingKeeps : Type 0
  PeekingKeeps = (n : ℕ) (j : JoinerView) (list : List (ℕ × Option (Kept O W))) → j.number ≡ n → j.cancelled ≡ false → May n (Joiner j, list) (λ y. y) peeks

  abbrev pub LookingKeeps : Type 0
  LookingKeeps = (n : ℕ) (j : JoinerView) → IsOpen n false j → May n (Joiner j, []) (λ y. y) (looks output_number)

  abbrev pub ClearingKeeps : Type 0
  ClearingKeeps = (n : ℕ) (j : JoinerView) → IsOpen n false j → j.waker ≡ true → May n (Joiner j, []) (λ y. either (eqb y 24) 8 y) (clears output_number)

  abbrev pub PlacingKeeps : Type 0
  PlacingKeeps = (n : ℕ) (j : JoinerView) (w : W) → IsOpen n true j → j.waker ≡ false → May n (Joiner j, (1, Some (Waker w)) ∷ []) (λ y. either (eqb y 8) 24 y) (places output_number waker_number)

  abbrev pub CancellingKeeps : Type 0
  CancellingKeeps = (n : ℕ) (j : JoinerView) → IsOpen n false j → May n (Joiner j, []) (λ y. either (eqb y (bits false j.waker)) 0 y) (cancels output_number)

  -- The same step keeps the rule after the output was taken.
  abbrev pub TryingKeeps : Type 0
  TryingKeeps = (n old : ℕ) (j : JoinerView) (list : List (ℕ × Option (Kept O W))) → j.number ≡ n → j.cancelled ≡ false → j.took ≡ true → ((old ≡ 8) ⊎ (old ≡ 24)) → May n (Joiner j, list) (λ y. either (eqb y old) 0 y) tries

  -- The state between two steps, with the runner at this stage and this joiner.
  abbrev pub Stands : ℕ → Stage → JoinerView → State (Option (Kept O W)) View → Type 0
  Stands n stage j s = Joined output_number waker_number n s × (s.views ≡ runner_at n stage ∷ Joiner j ∷ [])

  -- If a joiner returned Pending and the word is complete, the completing step found its waker and took it.
  abbrev pub ToldIsWoken : Type 0
  ToldIsWoken = (n found woke : ℕ) (canceled : Bool) (j : JoinerView) (s : State (Option (Kept O W)) View) → Stands n (Completed found canceled woke) j s
      → j.told ≡ true → j.cancelled ≡ false → (found ≡ 24) × (woke ≡ j.waker_number)

  -- If a joiner took the output, the word is complete with interest, so the runner did not take it back. The output is
  -- Canceled as the runner says, and none is in the slot.
  abbrev pub ComesOnce : Type 0
  ComesOnce = (n : ℕ) (stage : Stage) (j : JoinerView) (s : State (Option (Kept O W)) View) → Stands n stage j s → j.took ≡ true
      → (found : ℕ) × (woke : ℕ) × (stage ≡ Completed found j.took_canceled woke) × (found ≢ 0) × (j.saw ≡ true) × (get_elem? s.homes 0 ≡ some none)

  -- Before the completing step no output was seen or taken, and none is there for the joiner.
  abbrev pub NeverBefore : Type 0
  NeverBefore = (n : ℕ) (j : JoinerView) (s : State (Option (Kept O W)) View) → Stands n Working j s → (j.saw ≡ false) × (j.took ≡ false) × (get_elem? s.homes 0 ≡ some none)

  abbrev pub OneOfSix : ℕ → Type 0
  OneOfSix w = (w ≡ 8) ⊎ (w ≡ 24) ⊎ (w ≡ 10) ⊎ (w ≡ 26) ⊎ (w ≡ 0) ⊎ (w ≡ 2)

  abbrev pub SixWords : Type 0
  SixWords = (n : ℕ) (s : State (Option (Kept O W)) View) → Joined output_number waker_number n s → OneOfSix (slice_index s.words 0)

  -- A joiner that did not cancel and took no output may not store 0, even if the store reads nothing: it could clear
  -- COMPLETE.
  abbrev pub NoStore : Type 0
  NoStore = (n : ℕ) (j : JoinerView) (list : List (ℕ × Option (Kept O W))) → Sound output_number waker_number n j → j.cancelled ≡ false → j.took ≡ false
      → Allows (Joined output_number waker_number n) 2 1 (Joiner j, list) 0 (λ _. 0) (λ found after. ⊤) → ⊥
