-- A step of a retry adds nothing to the answers that it gives.
use Rattle.std.proofs.Common.{◌≡◌, ◌<◌, ◌⊎◌, ℕ, ◌+◌, ◌-◌, zero, suc, true, false, Bool, Some, None, Option, refl, sym, subst, inl, inr, arith}
use Rattle.std.specs.Prelude.{⊤, Result, Ok, Err, nat_le}
use Rattle.std.specs.Fn.{Mut}
use Rattle.mono_model.specs.Ticks.{max_nanos}
use Rattle.mono_model.specs.Tasks.{Tasks}
use Rattle.mono_model.specs.Poll.{IfReady, OnPending}
use Rattle.mono_model.specs.declared.poll.Poll.{Poll}
use Rattle.mono_model.specs.declared.poll.Poll.TheVariants.{Ready, Pending}
use Rattle.mono_model.specs.declared.error.Error.{Error}
use Rattle.mono_time.specs.Sleeps.{SleepTable}
use Rattle.mono_time.specs.declared.sleeps.Sleep.{Sleep}
use Rattle.mono_limit.specs.RetryPolls.{at_stage, without_stage, with_sleep, AfterReset, FailsEarly, FailsWith, AfterSleep, Rests, Makes}
use Rattle.mono_limit.specs.RetryGives.{AttemptGives, LaterGives, StageGives, RetryGives, Narrows}
use Rattle.mono_limit.specs.declared.RetryError.{RetryError}
use Rattle.mono_limit.specs.declared.RetryError.TheVariants.{Last, Far, Timer}
use Rattle.mono_limit.specs.declared.attempts.Stage.{Stage}
use Rattle.mono_limit.specs.declared.attempts.Stage.TheVariants as stage
use Rattle.mono_limit.specs.declared.attempts.Retry.{Retry}

module _ {A : Type 0} (first old new : A → Type 0) (before : (y : A) → old y → first y) where
  -- the answer of a poll, whose steps so far added nothing
  pub given_by : (p : Poll A) → Narrows (Some p) old new → IfReady p first
  given_by (Ready y) h = before y h
  given_by Pending h = tt

  pub same_by : (p : Poll A) → Narrows (Some p) old new → OnPending p ((y : A) → new y → first y)
  same_by (Ready y) h = tt
  same_by Pending h = λ y is. before y (h y is)

module _ {G F X E : Type 0} (gives : F → Result X E → Type 0) (call : Mut G (ℕ × Unit {0}) F) where
  abbrev Gives : Retry G F → Result X (RetryError E) → Type 0
  Gives = RetryGives gives call

  -- the retry with its own stage
  own_stage : (retry : Retry G F) (st : Stage F) → retry.stage ≡ st → (y : Result X (RetryError E)) → Gives (at_stage retry st) y → Gives retry y
  own_stage retry st at (Ok x) h = subst (λ s. StageGives gives call s retry.left retry.make (retry.tried + 1) (Ok x)) (sym at) h
  own_stage retry st at (Err (Last e)) h = subst (λ s. StageGives gives call s retry.left retry.make (retry.tried + 1) (Err (Last e))) (sym at) h
  own_stage retry st at (Err (Far e)) h = subst (λ s. StageGives gives call s retry.left retry.make (retry.tried + 1) (Err (Far e))) (sym at) h
  own_stage retry st at (Err (Timer error)) h = tt

  pub narrows_own : (retry : Retry G F) (st : Stage F) → retry.stage ≡ st → (o : Option (Poll (Result X (RetryError E)))) (new : Result X (RetryError E) → Type 0) → Narrows o (Gives (at_stage retry st)) new → Narrows o (Gives retry) new
  narrows_own retry st at None new h = λ y is. own_stage retry st at y (h y is)
  narrows_own retry st at (Some Pending) new h = λ y is. own_stage retry st at y (h y is)
  narrows_own retry st at (Some (Ready y)) new h = own_stage retry st at y h

  -- the attempt waits
  pub waits : (retry : Retry G F) (attempt after : F) → ((y : Result X E) → gives after y → gives attempt y) → (y : Result X (RetryError E)) → Gives (at_stage retry (stage.Trying after)) y → Gives (at_stage retry (stage.Trying attempt)) y
  waits retry attempt after same (Ok x) h = elim h [ inl now ↦ inl (same (Ok x) now) | inr later ↦ inr later ]
  waits retry attempt after same (Err (Last e)) h = elim h [ inl now ↦ inl (same (Err e) now) | inr later ↦ inr later ]
  waits retry attempt after same (Err (Far e)) h = elim h [ inl now ↦ inl (same (Err e) now) | inr later ↦ inr later ]
  waits retry attempt after same (Err (Timer error)) h = tt

  -- the next attempt comes later
  rests_on : (retry : Retry G F) (attempt : F) (sleep : Sleep) (y : Result X (RetryError E)) → Gives (at_stage (with_sleep retry sleep) stage.Resting) y → Gives (at_stage retry (stage.Trying attempt)) y
  rests_on retry attempt sleep (Ok x) h = inr h
  rests_on retry attempt sleep (Err (Last e)) h = inr h
  rests_on retry attempt sleep (Err (Far e)) h = inr h
  rests_on retry attempt sleep (Err (Timer error)) h = tt

  is_due : (retry : Retry G F) (y : Result X (RetryError E)) → Gives (at_stage retry stage.Due) y → Gives (at_stage retry stage.Resting) y
  is_due retry (Ok x) h = h
  is_due retry (Err (Last e)) h = h
  is_due retry (Err (Far e)) h = h
  is_due retry (Err (Timer error)) h = tt

  -- the answer is one that was given
  answered : (old : Retry G F) (answer : Result X (RetryError E)) (o : Option (Poll (Result X (RetryError E)))) (new : Result X (RetryError E) → Type 0) → Gives old answer → o ≡ Some (Ready answer) → Narrows o (Gives old) new
  answered old answer o new h is = subst (λ x. Narrows x (Gives old) new) (sym is) h

  pub ends_with : (retry : Retry G F) (attempt : F) (x : X) → gives attempt (Ok x) → (o : Option (Poll (Result X (RetryError E)))) (new : Result X (RetryError E) → Type 0) → o ≡ Some (Ready (Ok x)) → Narrows o (Gives (at_stage retry (stage.Trying attempt))) new
  ends_with retry attempt x given o new is = answered (at_stage retry (stage.Trying attempt)) (Ok x) o new (inl given) is

  -- the next attempt is made
  one_less : (n m : ℕ) → m ≡ suc n → m - 1 ≡ n
  one_less n m is = omega (arith, is)

  later : (n : ℕ) (retry s : Retry G F) → retry.left ≡ n → 0 < n → Makes call (without_stage retry) s → (y : Result X (RetryError E))
      → ((makes : Makes call (without_stage retry) s) → AttemptGives gives makes.attempt y ⊎ LaterGives gives call (retry.left - 1) makes.make (retry.tried + 1 + 1) y) → LaterGives gives call n retry.make (retry.tried + 1) y
  later zero retry s left some makes y h = absurd (none some)
    where
      none : 0 < 0 → ⊥
      none p = omega (arith, p)
  later (suc n) retry s left some makes y h =
      (makes.attempt, makes.make, makes.made, subst (λ m. AttemptGives gives makes.attempt y ⊎ LaterGives gives call m makes.make (retry.tried + 1 + 1) y) (one_less n retry.left left) (h makes))

  due_later : (retry s : Retry G F) → 0 < retry.left → Makes call (without_stage retry) s → (y : Result X (RetryError E)) → Gives s y → Gives (at_stage retry stage.Due) y
  due_later retry s some makes (Ok x) h = later retry.left retry s refl some makes (Ok x) (λ m. subst (λ n. Gives n (Ok x)) m.tries h)
  due_later retry s some makes (Err (Last e)) h = later retry.left retry s refl some makes (Err (Last e)) (λ m. subst (λ n. Gives n (Err (Last e))) m.tries h)
  due_later retry s some makes (Err (Far e)) h = later retry.left retry s refl some makes (Err (Far e)) (λ m. subst (λ n. Gives n (Err (Far e))) m.tries h)
  due_later retry s some makes (Err (Timer error)) h = tt

  pub due_narrows : (retry s : Retry G F) → retry.stage ≡ stage.Due → 0 < retry.left → Makes call (without_stage retry) s → (y : Result X (RetryError E)) → Gives s y → Gives retry y
  due_narrows retry s at some makes y h = own_stage retry stage.Due at y (due_later retry s some makes y h)

  module _ {C : Type 0} (sleeps : C → SleepTable) (work : C → Tasks ⊤) (reaches : C → C → Type 0) where
    reset_narrows : (result : Result ⊤ Error) (retry : Retry G F) (attempt : F) (sleep : Sleep) (c d : C) (o : Option (Poll (Result X (RetryError E)))) (s : Retry G F) → AfterReset sleeps work reaches result (with_sleep retry sleep) c o s d
        → Narrows o (Gives (at_stage retry (stage.Trying attempt))) (Gives s)
    reset_narrows (Ok x) retry attempt sleep c d o s (none, is, same) =
        subst (λ v. Narrows v (Gives (at_stage retry (stage.Trying attempt))) (Gives s)) (sym none) (λ y h. rests_on retry attempt sleep y (subst (λ n. Gives n y) is h))
    reset_narrows (Err error) retry attempt sleep c d o s e = answered (at_stage retry (stage.Trying attempt)) (Err (Timer error)) o (Gives s) tt e.answers

    early_narrows : (b : Bool) (e : E) (due : ℕ) (retry : Retry G F) (attempt : F) → gives attempt (Err e) → (c d : C) (o : Option (Poll (Result X (RetryError E)))) (s : Retry G F) → FailsEarly sleeps work reaches b e due retry c o s d
        → Narrows o (Gives (at_stage retry (stage.Trying attempt))) (Gives s)
    early_narrows false e due retry attempt given c d o s is = answered (at_stage retry (stage.Trying attempt)) (Err (Far e)) o (Gives s) (inl given) is.answers
    early_narrows true e due retry attempt given c d o s is = reset_narrows is.result retry attempt is.sleep is.middle d o s is.rest

    -- the attempt failed
    pub fails_narrow : (n : ℕ) (e : E) (due : ℕ) (retry : Retry G F) (attempt : F) → gives attempt (Err e) → (c d : C) (o : Option (Poll (Result X (RetryError E)))) (s : Retry G F) → FailsWith sleeps work reaches n e due retry c o s d
        → Narrows o (Gives (at_stage retry (stage.Trying attempt))) (Gives s)
    fails_narrow zero e due retry attempt given c d o s is = answered (at_stage retry (stage.Trying attempt)) (Err (Last e)) o (Gives s) (inl given) is.answers
    fails_narrow (suc more) e due retry attempt given c d o s is = early_narrows (nat_le due max_nanos) e due retry attempt given c d o s is

    module _ (number : C → ℕ) where
      slept_narrows : (answer : Poll (Result ⊤ Error)) (retry : Retry G F) (c d : C) (o : Option (Poll (Result X (RetryError E)))) (s : Retry G F) → AfterSleep number sleeps work reaches answer (without_stage retry) c o s d → Narrows o (Gives (at_stage retry stage.Resting)) (Gives s)
      slept_narrows Pending retry c d o s (pending, is, same) = subst (λ v. Narrows v (Gives (at_stage retry stage.Resting)) (Gives s)) (sym pending) (λ y h. subst (λ n. Gives n y) is h)
      slept_narrows (Ready (Ok x)) retry c d o s (none, is, same) = subst (λ v. Narrows v (Gives (at_stage retry stage.Resting)) (Gives s)) (sym none) (λ y h. is_due retry y (subst (λ n. Gives n y) is h))
      slept_narrows (Ready (Err error)) retry c d o s e = answered (at_stage retry stage.Resting) (Err (Timer error)) o (Gives s) tt e.answers

      -- the sleep was polled
      pub rests_narrow : (retry : Retry G F) → retry.stage ≡ stage.Resting → (c d : C) (o : Option (Poll (Result X (RetryError E)))) (s : Retry G F) → Rests number sleeps work reaches (without_stage retry) c o s d → Narrows o (Gives retry) (Gives s)
      rests_narrow retry at c d o s rests = narrows_own retry stage.Resting at o (Gives s) (slept_narrows rests.answer retry rests.middle d o s rests.rest)
