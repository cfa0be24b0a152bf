-- A future that runs until a signal comes: the answer and the form after one poll, and the answers in the end.
use Rattle.std.specs.Prelude.{⊤, ◌≡◌, Option, Result, Ok, Err}
use Rattle.std.specs.declared.alloc.AllocError.{AllocError}
use Rattle.mono_model.specs.declared.poll.Poll.{Poll}
use Rattle.mono_model.specs.declared.poll.Poll.TheVariants.{Ready, Pending}
use Rattle.mono_task.specs.Members.{FutureOf}
use Rattle.mono_forms.specs.EitherRaces.{EitherRaceGives, EitherRacePolls}
use Rattle.mono_forms.specs.declared.eithers.Either.{Either}
use Rattle.mono_forms.specs.declared.eithers.Either.TheVariants.{Left, Right}
use Rattle.mono_groups.specs.declared.until.Aborted.{Aborted}
use Rattle.mono_groups.specs.declared.until.Aborted.TheVariants.{Cancelled, Memory}

module _ {Y : Type 0} where
  -- The answer of the form, by the first answer of the signal and the future.
  abbrev pub answer_of : Either (Result ⊤ AllocError) Y → Result Y Aborted
  answer_of (Left (Ok done)) = Err Cancelled
  answer_of (Left (Err e)) = Err Memory
  answer_of (Right y) = Ok y

  abbrev pub poll_of : Poll (Either (Result ⊤ AllocError) Y) → Poll (Result Y Aborted)
  poll_of (Ready first) = Ready (answer_of first)
  poll_of Pending = Pending

module _ {A B C Y : Type 0} (signal : FutureOf A C (Result ⊤ AllocError)) (future : FutureOf B C Y) where
  -- The signal and the future are raced, in this order.
  pub record UntilPolls (both : Option (A × B)) (c : C) (r : Poll (Result Y Aborted)) (left : Option (A × B)) (d : C) : Type 0 where
    pub first : Poll (Either (Result ⊤ AllocError) Y)
    pub polled : EitherRacePolls signal future both c first left d
    pub answer : r ≡ poll_of first

-- A value is one that the future gives. The form fails if the signal gives that.
abbrev pub UntilGives : {A B Y : Type 0} → (A → Result ⊤ AllocError → Type 0) → (B → Y → Type 0) → Option (A × B) → Result Y Aborted → Type 0
UntilGives a b both (Ok y) = EitherRaceGives a b both (Right y)
UntilGives a b both (Err Cancelled) = EitherRaceGives a b both (Left (Ok tt))
UntilGives a b both (Err Memory) = (e : AllocError) × EitherRaceGives a b both (Left (Err e))
