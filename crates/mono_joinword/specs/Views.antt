-- The knowledge of the runner and the joiner, and its change by each step of the joiner.
use Rattle.std.specs.Prelude.{◌≡◌, ℕ, ◌+◌, Bool, true, false, ◌||◌, eqb, List, [], ◌∷◌, ◌++◌, Option, Some, None, Result, Ok, Err, IfOk}
use Rattle.atomic_table.specs.Table.{Me}
use Rattle.mono_joinword.specs.declared.outcome.JoinError.{JoinError}
use Rattle.mono_joinword.specs.declared.views.Kind.{Kind}
use Rattle.mono_joinword.specs.declared.views.Stage.{Stage}
use Rattle.mono_joinword.specs.declared.views.JoinerView.{JoinerView}
use Rattle.mono_joinword.specs.declared.views.View.{View}
use Rattle.mono_joinword.specs.declared.views.View.TheVariants.{Maker, Runner, Joiner}

-- The word of a joiner that cancelled or not, and has a waker in place or not, while it is not complete.
abbrev pub bits : Bool → Bool → ℕ
bits true w = 0
bits false true = 24
bits false false = 8

-- The word of a joiner that did not cancel, by whether it is complete and whether a waker is in place.
abbrev pub word_of : Bool → Bool → ℕ
word_of false w = bits false w
word_of true w = bits false w + 2

abbrev pub runner_at : ℕ → Stage → View
runner_at n s = Runner (record { number = n; stage = s })

-- A joiner at the start.
abbrev pub fresh : ℕ → JoinerView
fresh n = record { number = n; cancelled = false; waker = false; waker_number = 0; holds = false; told = false; saw = false; took = false; took_canceled = false; steps = [] }

-- Whether a result is Canceled, the only error.
abbrev pub is_canceled : {O : Type 0} → Result O JoinError → Bool
is_canceled (Ok o) = false
is_canceled (Err e) = true

-- An output of the pair n.
abbrev pub HasNumber : {O : Type 0} → (O → ℕ) → ℕ → Result O JoinError → Type 0
HasNumber output_number n r = IfOk r (λ o. output_number o ≡ n)

-- Whether no output and no waker is in the slots that a seat has.
abbrev pub are_empty : {X : Type 0} → List (ℕ × Option X) → Bool
are_empty [] = true
are_empty ((k, None) ∷ xs) = are_empty xs
are_empty ((k, Some x) ∷ xs) = false

abbrev pub Emptied : {X : Type 0} → List (ℕ × Option X) → Type 0
Emptied xs = are_empty xs ≡ true

abbrev pub joiner_of : View → JoinerView
joiner_of (Maker n b) = fresh n
joiner_of (Runner r) = fresh r.number
joiner_of (Joiner j) = j

-- Whether the word has COMPLETE, for a joiner that did not cancel.
abbrev pub done : ℕ → Bool
done n = eqb n 10 || eqb n 26

-- The view after one more step, of this kind, which found n.
abbrev pub looked : JoinerView → Kind → ℕ → JoinerView
looked j kind n = record j { saw = done n || j.saw; steps = j.steps ++ (kind, n) ∷ [] }

abbrev pub taking : JoinerView → Bool → JoinerView
taking j canceled = record j { took = true; took_canceled = canceled }

-- The view once the joiner has the waker slot, with no waker in place.
abbrev pub opened : JoinerView → JoinerView
opened j = record j { cancelled = false; waker = false; holds = true; told = false; took = false }

abbrev pub placed_view : JoinerView → ℕ → JoinerView
placed_view j number = record j { waker = true; waker_number = number; holds = false; told = true }

-- The view after a cancel. A joiner that had a waker in place has the waker slot from then on.
abbrev pub cancelled_view : JoinerView → JoinerView
cancelled_view j = record j { cancelled = true; waker = false; holds = j.waker }

abbrev pub has_waker : Option ℕ → Bool
has_waker (Some x) = true
has_waker None = false

abbrev pub number_or : ℕ → Option ℕ → ℕ
number_or d (Some x) = x
number_or d None = d

-- A joiner between two calls that took no output: it returned Pending if and only if a waker is in place.
abbrev pub resting : ℕ → Option ℕ → JoinerView → JoinerView
resting n placed j = record { number = n; cancelled = false; waker = has_waker placed; waker_number = number_or j.waker_number placed; holds = false; told = has_waker placed; saw = j.saw; took = false; took_canceled = j.took_canceled; steps = j.steps }

-- A joiner's seat between two calls. It has no slot while the output was not taken, and nothing in its slots
-- afterwards.
abbrev pub Rests : {X : Type 0} → ℕ → Option ℕ → Bool → Me (Option X) View → Type 0
Rests n placed taken m =
    (m.0 ≡ Joiner (joiner_of m.0)) × ((joiner_of m.0).number ≡ n) × ((joiner_of m.0).took ≡ taken) × ((joiner_of m.0).cancelled ≡ false) × Emptied m.1
    × (taken ≡ false → (m.0 ≡ Joiner (resting n placed (joiner_of m.0))) × (m.1 ≡ []))
