-- The meaning of each kind of step: the seat before, the word that it found, and the seat afterwards. The rule of the
-- table allows no other step.
use Rattle.std.specs.Prelude.{◌≡◌, ◌≢◌, ℕ, ◌⊎◌, Bool, true, false, List, [], ◌∷◌, Option, Some, None, Result}
use Rattle.atomic_table.specs.Table.{Me}
use Rattle.mono_joinword.specs.declared.outcome.JoinError.{JoinError}
use Rattle.mono_joinword.specs.declared.views.Kind.{Kind}
use Rattle.mono_joinword.specs.declared.views.Kind.TheVariants.{Load, Place, Clear, Cancel}
use Rattle.mono_joinword.specs.declared.views.Kept.{Kept}
use Rattle.mono_joinword.specs.declared.views.Kept.TheVariants.{Output, Waker}
use Rattle.mono_joinword.specs.declared.views.Stage.TheVariants.{Working, Completed}
use Rattle.mono_joinword.specs.declared.views.JoinerView.{JoinerView}
use Rattle.mono_joinword.specs.declared.views.View.{View}
use Rattle.mono_joinword.specs.declared.views.View.TheVariants.{Maker, Runner, Joiner}
use Rattle.mono_joinword.specs.Views.{runner_at, fresh, is_canceled, HasNumber, joiner_of, done, word_of, looked, taking, opened, placed_view, cancelled_view}

abbrev pub first_view : ℕ → View
first_view n = Maker n false

-- The split: the maker becomes the runner, and the new seat is the joiner's.
abbrev pub runner_half : View → View
runner_half (Maker n b) = runner_at n Working
runner_half (Runner r) = Runner r
runner_half (Joiner j) = Joiner j

abbrev pub joiner_half : View → View
joiner_half (Maker n b) = Joiner (fresh n)
joiner_half (Runner r) = Runner r
joiner_half (Joiner j) = Joiner j

abbrev pub number_in : View → ℕ
number_in (Maker n b) = n
number_in (Runner r) = r.number
number_in (Joiner j) = j.number

-- A seat: its view, and the slots that it has with their contents, the one that it took last first.
abbrev pub My : Type 0 → Type 0 → Type 0
My O W = Me (Option (Kept O W)) View

module _ {O W : Type 0} where
  -- The maker's load, before the split, takes the output slot.
  abbrev pub claims : My O W → ℕ → My O W → Type 0
  claims m n m' = m' ≡ (Maker (number_in m.0) true, (0, None) ∷ [])

  -- Whether the output in the slot that was taken last is Canceled.
  abbrev pub canceled_in : List (ℕ × Option (Kept O W)) → Bool
  canceled_in [] = false
  canceled_in ((k, None) ∷ xs) = false
  canceled_in ((k, Some (Output r)) ∷ xs) = is_canceled r
  canceled_in ((k, Some (Waker w)) ∷ xs) = false

  abbrev pub done_at : My O W → ℕ → ℕ → View
  done_at m found woke = runner_at (number_in m.0) (Completed found (canceled_in m.1) woke)

  -- The completing step keeps the output if it found no interest, leaves it if it found interest, and takes the waker
  -- if it found one.
  abbrev pub completes : (W → ℕ) → My O W → ℕ → My O W → Type 0
  completes waker_number m n m' =
      ((n ≡ 0) × (m' ≡ (done_at m 0 0, m.1)))
      ⊎ ((n ≡ 8) × (m' ≡ (done_at m 8 0, [])))
      ⊎ ((n ≡ 24) × ((w : W) × (m' ≡ (done_at m 24 (waker_number w), (1, Some (Waker w)) ∷ []))))

  -- A load that takes nothing.
  abbrev pub peeks : My O W → ℕ → My O W → Type 0
  peeks m n m' = let j = joiner_of m.0 in
      ((n ≡ 8) ⊎ (n ≡ 24) ⊎ (n ≡ 10) ⊎ (n ≡ 26)) × (n ≡ word_of (done n) j.waker) × (m' ≡ (Joiner (looked j Load n), m.1)) × (j.saw ≡ true → done n ≡ true)

  -- A try to cancel after the output was taken, which finds COMPLETE and changes nothing.
  abbrev pub tries : My O W → ℕ → My O W → Type 0
  tries m n m' = let j = joiner_of m.0 in (n ≡ word_of true j.waker) × (m' ≡ (Joiner (looked j Cancel (word_of true j.waker)), m.1))

module _ {O W : Type 0} (output_number : O → ℕ) where
  -- The step found COMPLETE, and took the output.
  abbrev pub Takes : JoinerView → Kind → ℕ → List (ℕ × Option (Kept O W)) → My O W → Type 0
  Takes j kind n list m' =
      (done n ≡ true) × (n ≡ word_of true j.waker)
      × ((r : Result O JoinError) × HasNumber output_number j.number r × (m' ≡ (Joiner (taking (looked j kind (word_of true j.waker)) (is_canceled r)), (0, Some (Output r)) ∷ list)))

  -- A poll's load.
  abbrev pub looks : My O W → ℕ → My O W → Type 0
  looks m n m' = let j = joiner_of m.0 in
      ((n ≡ 8) × (j.waker ≡ false) × (j.saw ≡ false) × (m' ≡ (Joiner (opened (looked j Load 8)), (1, None) ∷ [])))
      ⊎ ((n ≡ 24) × (j.waker ≡ true) × (j.saw ≡ false) × (m' ≡ (Joiner (looked j Load 24), [])))
      ⊎ Takes j Load n [] m'

  -- The waker comes back, or the output is there.
  abbrev pub clears : My O W → ℕ → My O W → Type 0
  clears m n m' = let j = joiner_of m.0 in
      ((n ≡ 24) × ((w : W) × (m' ≡ (Joiner (opened (looked j Clear 24)), (1, Some (Waker w)) ∷ []))))
      ⊎ ((n ≢ 24) × Takes j Clear n [] m')

  -- The number of the waker that the seat has.
  abbrev pub waker_in : (W → ℕ) → List (ℕ × Option (Kept O W)) → ℕ
  waker_in waker_number [] = 0
  waker_in waker_number ((k, None) ∷ xs) = 0
  waker_in waker_number ((k, Some (Output r)) ∷ xs) = 0
  waker_in waker_number ((k, Some (Waker w)) ∷ xs) = waker_number w

  abbrev pub places : (W → ℕ) → My O W → ℕ → My O W → Type 0
  places waker_number m n m' = let j = joiner_of m.0 in
      ((n ≡ 8) × (m' ≡ (Joiner (placed_view (looked j Place 8) (waker_in waker_number m.1)), [])))
      ⊎ ((n ≢ 8) × Takes j Place n m.1 m')

  -- A cancel, with no output taken and no slot in the seat.
  abbrev pub cancels : My O W → ℕ → My O W → Type 0
  cancels m n m' = let j = joiner_of m.0 in
      ((n ≡ 8) × (j.saw ≡ false) × (m' ≡ (Joiner (cancelled_view (looked j Cancel (word_of false j.waker))), [])))
      ⊎ ((n ≡ 24) × (j.saw ≡ false) × ((w : W) × (m' ≡ (Joiner (cancelled_view (looked j Cancel (word_of false j.waker))), (1, Some (Waker w)) ∷ []))))
      ⊎ Takes j Cancel n [] m'
