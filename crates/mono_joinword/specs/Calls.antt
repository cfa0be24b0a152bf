-- The outcome of a joiner's call: its view before, its answer, and its view afterwards, which lists the steps of the
-- call.
use Rattle.std.specs.Prelude.{◌≡◌, ◌≢◌, ℕ, ◌⊎◌, Bool, true, false, Option, Some, None, Result}
use Rattle.mono_model.specs.declared.poll.Poll.{Poll}
use Rattle.mono_model.specs.declared.poll.Poll.TheVariants.{Ready, Pending}
use Rattle.mono_joinword.specs.declared.outcome.JoinError.{JoinError}
use Rattle.mono_joinword.specs.declared.views.Kind.{Kind}
use Rattle.mono_joinword.specs.declared.views.Kind.TheVariants.{Load, Place, Clear, Cancel}
use Rattle.mono_joinword.specs.declared.views.JoinerView.{JoinerView}
use Rattle.mono_joinword.specs.Views.{HasNumber, is_canceled, word_of, looked, taking, opened, placed_view, cancelled_view}

-- The output came with a step of this kind, which found the word complete.
abbrev pub Came : {O : Type 0} → (O → ℕ) → JoinerView → Kind → Result O JoinError → JoinerView → Type 0
Came output_number j kind r j' = HasNumber output_number j.number r × (j' ≡ taking (looked j kind (word_of true j.waker)) (is_canceled r))

-- The output came so with a poll's answer.
abbrev pub CameReady : {O : Type 0} → (O → ℕ) → JoinerView → Kind → Poll (Result O JoinError) → JoinerView → Type 0
CameReady output_number j kind (Ready r) j' = Came output_number j kind r j'
CameReady output_number j kind Pending j' = ⊥

-- The end of a poll that tried to place the waker x when none was in place: the step found 8 and placed it, or the
-- output came.
abbrev pub Placed : {O : Type 0} → (O → ℕ) → JoinerView → ℕ → Poll (Result O JoinError) → JoinerView → Type 0
Placed output_number j x (Ready r) j' = Came output_number j Place r j'
Placed output_number j x Pending j' = j' ≡ placed_view (looked j Place 8) x

-- The rest of a poll with the waker x whose load found a waker in place and no COMPLETE. A waker with the same number
-- stays. Another is cleared by a step that found 24, and then x is placed; or that step found the word complete.
abbrev pub Replaced : {O : Type 0} → (O → ℕ) → JoinerView → ℕ → Poll (Result O JoinError) → JoinerView → Type 0
Replaced output_number j x answer j' =
    ((j.waker_number ≡ x) × (answer ≡ Pending) × (j' ≡ j))
    ⊎ ((j.waker_number ≢ x) × (CameReady output_number j Clear answer j' ⊎ Placed output_number (opened (looked j Clear 24)) x answer j'))

-- A poll with the waker x, by what its load found: the word complete, no waker in place, or a waker in place for which
-- the joiner had returned Pending.
abbrev pub Polled : {O : Type 0} → (O → ℕ) → JoinerView → ℕ → Poll (Result O JoinError) → JoinerView → Type 0
Polled output_number j x answer j' =
    CameReady output_number j Load answer j'
    ⊎ ((j.saw ≡ false) × (j.waker ≡ false) × Placed output_number (opened (looked j Load 8)) x answer j')
    ⊎ ((j.saw ≡ false) × (j.waker ≡ true) × (j.told ≡ true) × Replaced output_number (looked j Load 24) x answer j')

-- The joiner waits: it never saw COMPLETE, and returned Pending with the waker x, which is in place.
abbrev pub Waits : ℕ → JoinerView → Type 0
Waits x j = (j.saw ≡ false) × (j.told ≡ true) × (j.waker ≡ true) × (j.waker_number ≡ x) × (j.took ≡ false) × (j.cancelled ≡ false)

-- The joiner took this output of the pair n, after it saw COMPLETE.
abbrev pub Took : {O : Type 0} → (O → ℕ) → ℕ → JoinerView → Result O JoinError → Type 0
Took output_number n j r = HasNumber output_number n r × (j.saw ≡ true) × (j.took ≡ true) × (j.took_canceled ≡ is_canceled r)

-- One load, which found the word complete or not, as the answer says. A word that was seen complete stays so.
abbrev pub Peeked : JoinerView → Bool → JoinerView → Type 0
Peeked j answer j' = (j' ≡ looked j Load (word_of answer j.waker)) × (j.saw ≡ true → answer ≡ true)

-- One step that clears both bits if the word is not complete. The output comes back if the word is complete and the
-- output was not taken.
abbrev pub Cancels : {O : Type 0} → (O → ℕ) → JoinerView → Option (Result O JoinError) → JoinerView → Type 0
Cancels output_number j (Some r) j' = (j.took ≡ false) × Came output_number j Cancel r j'
Cancels output_number j None j' =
    ((j.took ≡ true) × (j' ≡ looked j Cancel (word_of true j.waker)))
    ⊎ ((j.took ≡ false) × (j.saw ≡ false) × (j' ≡ cancelled_view (looked j Cancel (word_of false j.waker))))
