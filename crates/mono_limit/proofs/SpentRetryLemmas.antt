-- A retry once it has answered.
use Rattle.std.proofs.Common.{◌≡◌, ℕ, zero, suc, true, false, Bool, Some, None, Option, refl, ap, sym, ◌∙◌}
use Rattle.std.specs.Prelude.{⊤, Result, Ok, Err, nat_le}
use Rattle.std.specs.Fn.{Mut}
use Rattle.mono_model.specs.Ticks.{max_nanos}
use Rattle.mono_model.specs.Tasks.{Tasks}
use Rattle.mono_model.specs.declared.poll.Poll.{Poll}
use Rattle.mono_model.specs.declared.poll.Poll.TheVariants.{Ready, Pending}
use Rattle.mono_model.specs.declared.error.Error.{Error}
use Rattle.mono_task.specs.Members.{FutureOf}
use Rattle.mono_time.specs.Sleeps.{SleepTable}
use Rattle.mono_limit.specs.Stages.{is_over}
use Rattle.mono_limit.specs.RetryPolls.{without_stage, with_sleep, Ends, AfterReset, FailsEarly, FailsWith, AfterPoll, AfterSleep, StepOf, Onward, Takes, RetryPolls}
use Rattle.mono_limit.specs.declared.RetryError.{RetryError}
use Rattle.mono_limit.specs.declared.RetryError.TheVariants.{Last, Far, Timer}
use Rattle.mono_limit.specs.declared.attempts.Stage.{Stage}
use Rattle.mono_limit.specs.declared.attempts.Stage.TheVariants as stage
use Rattle.mono_limit.specs.declared.attempts.Retry.{Retry}

-- If the answer is ready, the retry is over; if it is that of the last attempt, none is left.
pub record IsEnded {G F X E : Type 0} (o : Option (Poll (Result X (RetryError E)))) (s : Retry G F) : Type 0 where
  pub over : (x : Result X (RetryError E)) → o ≡ Some (Ready x) → is_over s.stage ≡ true
  pub last : (e : E) → o ≡ Some (Ready (Err (Last e))) → s.left ≡ 0

module _ {G F X E : Type 0} (o : Option (Poll (Result X (RetryError E)))) (s : Retry G F) where
  pending : o ≡ Some Pending → IsEnded o s
  pending is = record { over = λ x e. cc; last = λ e f. cc }

  none : o ≡ None → IsEnded o s
  none is = record { over = λ x e. cc; last = λ e f. cc }

same_answer : {X E : Type 0} (x y : Result X (RetryError E)) → Some (Ready x) ≡ Some (Ready y) → x ≡ y
same_answer x y e = cc

module _ {G F C X E : Type 0} (sleeps : C → SleepTable) (work : C → Tasks ⊤) (reaches : C → C → Type 0) where
  ends : (answer : Result X (RetryError E)) (retry : Retry G F) → ((e : E) → answer ≡ Err (Last e) → retry.left ≡ 0) → (c d : C) (o : Option (Poll (Result X (RetryError E)))) (s : Retry G F)
      → Ends sleeps work reaches answer retry c o s d → IsEnded o s
  ends answer retry none_left c d o s is = record {
    over = λ x e. ap (λ (r : Retry G F). is_over r.stage) is.over;
    last = λ e f. ap (λ (r : Retry G F). r.left) is.over ∙ none_left e (same_answer answer (Err (Last e)) (sym is.answers ∙ f));
  }

  resets : (result : Result ⊤ Error) (retry : Retry G F) (c d : C) (o : Option (Poll (Result X (RetryError E)))) (s : Retry G F) → AfterReset sleeps work reaches result retry c o s d → IsEnded o s
  resets (Ok x) retry c d o s (going, is, same) = none o s going
  resets (Err error) retry c d o s is = ends (Err (Timer error)) retry (λ e f. cc) c d o s is

  fails_early : (b : Bool) (e : E) (due : ℕ) (retry : Retry G F) (c d : C) (o : Option (Poll (Result X (RetryError E)))) (s : Retry G F) → FailsEarly sleeps work reaches b e due retry c o s d → IsEnded o s
  fails_early false e due retry c d o s is = ends (Err (Far e)) retry (λ x f. cc) c d o s is
  fails_early true e due retry c d o s is = resets is.result (with_sleep retry is.sleep) is.middle d o s is.rest

  fails : (n : ℕ) (e : E) (due : ℕ) (retry : Retry G F) → retry.left ≡ n → (c d : C) (o : Option (Poll (Result X (RetryError E)))) (s : Retry G F) → FailsWith sleeps work reaches n e due retry c o s d → IsEnded o s
  fails zero e due retry left c d o s is = ends (Err (Last e)) retry (λ x f. left) c d o s is
  fails (suc more) e due retry left c d o s is = fails_early (nat_le due max_nanos) e due retry c d o s is

module _ {G F C X E : Type 0} (call : Mut G (ℕ × Unit {0}) F) (future : FutureOf F C (Result X E)) (number nanos : C → ℕ) (sleeps : C → SleepTable) (work : C → Tasks ⊤) (reaches : C → C → Type 0) where
  polled : (p : Poll (Result X E)) (after : F) (retry : Retry G F) (c d : C) (o : Option (Poll (Result X (RetryError E)))) (s : Retry G F) → AfterPoll future nanos sleeps work reaches p after retry c o s d → IsEnded o s
  polled Pending after retry c d o s (waits, is, same) = pending o s waits
  polled (Ready (Ok x)) after retry c d o s (middle, cancels, is) = ends sleeps work reaches (Ok x) retry (λ e f. cc) middle d o s is
  polled (Ready (Err e)) after retry c d o s (middle, cancels, is) = fails sleeps work reaches retry.left e _ retry refl middle d o s is

  rested : (p : Poll (Result ⊤ Error)) (retry : Retry G F) (c d : C) (o : Option (Poll (Result X (RetryError E)))) (s : Retry G F) → AfterSleep number sleeps work reaches p retry c o s d → IsEnded o s
  rested Pending retry c d o s (waits, is, same) = pending o s waits
  rested (Ready (Ok x)) retry c d o s (going, is, same) = none o s going
  rested (Ready (Err error)) retry c d o s is = ends sleeps work reaches (Err (Timer error)) retry (λ e f. cc) c d o s is

  stepped : (st : Stage F) (retry : Retry G F) (c d : C) (o : Option (Poll (Result X (RetryError E)))) (s : Retry G F) → StepOf call future number nanos sleeps work reaches st retry c o s d → IsEnded o s
  stepped stage.Due retry c d o s (going, makes, same) = none o s going
  stepped (stage.Trying attempt) retry c d o s tries = polled tries.answer tries.after (without_stage retry) tries.middle d o s tries.rest
  stepped stage.Resting retry c d o s rests = rested rests.answer (without_stage retry) rests.middle d o s rests.rest
  stepped stage.Over retry c d o s step = absurd step

  taken : (n : ℕ) (retry : Retry G F) (c : C) (p : Poll (Result X (RetryError E))) (s : Retry G F) (d : C) → Takes call future number nanos sleeps work reaches n retry c p s d → IsEnded (Some p) s
  taken zero retry c p s d takes = absurd takes
  taken (suc n) retry c p s d (o, t, m, step, onward) = by_answer o step onward (λ later. taken n t m p s d later)
    where
      by_answer : (o : Option (Poll (Result X (RetryError E)))) → StepOf call future number nanos sleeps work reaches retry.stage retry c o t m → Onward o (Takes call future number nanos sleeps work reaches n t m p s d) t m p s d
          → (Takes call future number nanos sleeps work reaches n t m p s d → IsEnded (Some p) s) → IsEnded (Some p) s
      by_answer None step onward later = later onward
      by_answer (Some answer) step (is, state, context) later = rw (is, state) (stepped retry.stage retry c m (Some answer) t step)

  pub is_ended : (retry : Retry G F) (c : C) (p : Poll (Result X (RetryError E))) (s : Retry G F) (d : C) → RetryPolls call future number nanos sleeps work reaches retry c p s d → IsEnded (Some p) s
  is_ended retry c p s d (n, few, takes) = taken n retry c p s d takes
