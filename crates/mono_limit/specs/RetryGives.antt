-- The answers that a retry may give in the end: those of its attempts.
use Rattle.std.specs.Prelude.{⊤, ◌+◌, ◌⊎◌, ℕ, zero, suc, Option, Some, None, Result, Ok, Err}
use Rattle.std.specs.Fn.{Mut, Called}
use Rattle.mono_model.specs.declared.poll.Poll.{Poll}
use Rattle.mono_model.specs.declared.poll.Poll.TheVariants.{Ready, Pending}
use Rattle.mono_limit.specs.declared.RetryError.{RetryError}
use Rattle.mono_limit.specs.declared.RetryError.TheVariants.{Last, Far, Timer}
use Rattle.mono_limit.specs.declared.attempts.Stage.{Stage}
use Rattle.mono_limit.specs.declared.attempts.Stage.TheVariants as stage
use Rattle.mono_limit.specs.declared.attempts.Retry.{Retry}

module _ {F X E : Type 0} (gives : F → Result X E → Type 0) where
  -- The attempt gives this value, or fails with this error.
  abbrev pub AttemptGives : F → Result X (RetryError E) → Type 0
  AttemptGives attempt (Ok x) = gives attempt (Ok x)
  AttemptGives attempt (Err (Last e)) = gives attempt (Err e)
  AttemptGives attempt (Err (Far e)) = gives attempt (Err e)
  AttemptGives attempt (Err (Timer error)) = ⊥

  module _ {G : Type 0} (call : Mut G (ℕ × Unit {0}) F) where
    -- One of so many further attempts gives it. The closure makes each, from this number on, in the state that the call
    -- before left.
    abbrev pub LaterGives : ℕ → G → ℕ → Result X (RetryError E) → Type 0
    LaterGives zero make k y = ⊥
    LaterGives (suc more) make k y = (attempt : F) × (next : G) × Called call make (k, tt) attempt next × (AttemptGives attempt y ⊎ LaterGives more next (k + 1) y)

    abbrev pub StageGives : Stage F → ℕ → G → ℕ → Result X (RetryError E) → Type 0
    StageGives stage.Due left make k y = LaterGives left make k y
    StageGives (stage.Trying attempt) left make k y = AttemptGives attempt y ⊎ LaterGives left make k y
    StageGives stage.Resting left make k y = LaterGives left make k y
    StageGives stage.Over left make k y = ⊥

    -- The running attempt or a later one gives it. A refusal of the timer is always possible.
    abbrev pub RetryGives : Retry G F → Result X (RetryError E) → Type 0
    RetryGives retry (Ok x) = StageGives retry.stage retry.left retry.make (retry.tried + 1) (Ok x)
    RetryGives retry (Err (Last e)) = StageGives retry.stage retry.left retry.make (retry.tried + 1) (Err (Last e))
    RetryGives retry (Err (Far e)) = StageGives retry.stage retry.left retry.make (retry.tried + 1) (Err (Far e))
    RetryGives retry (Err (Timer error)) = ⊤

-- An answer of a step is one that was given before; otherwise no more is given after the step than before.
abbrev pub Narrows : {A : Type 0} → Option (Poll A) → (A → Type 0) → (A → Type 0) → Type 0
Narrows {A} None old new = (y : A) → new y → old y
Narrows {A} (Some Pending) old new = (y : A) → new y → old y
Narrows (Some (Ready y)) old new = old y
