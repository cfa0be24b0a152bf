-- The sources of a retry.
use Rattle.std.specs.Prelude.{◌≡◌, ℕ, zero, suc, ⊤, Bool, true, false, Option, Some, None, Result, Ok, Err, nat_le}
use Rattle.std.specs.Fn.{Mut}
use Rattle.std.proofs.Common.{sym, subst}
use Rattle.mono_model.specs.Ticks.{max_nanos}
use Rattle.mono_model.specs.Table.{value_at}
use Rattle.mono_model.specs.declared.poll.Poll.{Poll}
use Rattle.mono_model.specs.declared.poll.Poll.TheVariants.{Ready, Pending}
use Rattle.mono_model.specs.declared.error.Error.{Error}
use Rattle.mono_task.specs.Members.{FutureOf}
use Rattle.mono_time.specs.Sleeps.{SleepTable}
use Rattle.mono_time.specs.Futures.{SleepPolls}
use Rattle.mono_time.specs.declared.sleeps.Sleep.{Sleep}
use Rattle.mono_limit.specs.declared.RetryError.{RetryError}
use Rattle.mono_limit.specs.declared.RetryError.TheVariants.{Last, Far, Timer}
use Rattle.mono_limit.specs.declared.attempts.Stage.{Stage}
use Rattle.mono_limit.specs.declared.attempts.Stage.TheVariants as stage
use Rattle.mono_limit.specs.declared.attempts.Retry.{Retry}
use Rattle.mono_limit.specs.RetryPolls.{without_stage, with_sleep, AttemptCancels, Ends, AfterReset, FailsEarly, FailsWith, due_after, AfterPoll, AfterSleep, Onward, StepOf, Takes, RetryPolls, RetryCancels}
use Rattle.mono_wait.specs.Sources.{Source, of_sleep, waker_in}
use Rattle.mono_wait.specs.Leaves.{SleepNeeds, sleeps_cover}
use Rattle.mono_wait.specs.Frames.{Frame, Part, Needs, CoversIn, same_reached, covers_after}

-- those of the running attempt, or the sleep before the next
abbrev pub StageNeeds : {F : Type 0} → Needs F → Sleep → Stage F → Source → Type 0
StageNeeds needs sleep stage.Due x = ⊥
StageNeeds needs sleep (stage.Trying attempt) x = needs attempt x
StageNeeds needs sleep stage.Resting x = SleepNeeds sleep x
StageNeeds needs sleep stage.Over x = ⊥

abbrev pub RetryNeeds : {G F : Type 0} → Needs F → Retry G F → Source → Type 0
RetryNeeds needs retry x = StageNeeds needs retry.sleep retry.stage x

no_step : {Z : Type 0} (z : Z) → Some z ≡ None → ⊥
no_step z e = cc

no_end : {Z : Type 0} (z : Z) → Some Pending ≡ Some (Ready z) → ⊥
no_end z e = cc

module _ {F C Y : Type 0} (w : Frame C) (future : FutureOf F C Y) (part : Part w future) where
  attempt_left : (st : Stage F) (c d : C) → AttemptCancels future st c d → w.reaches c d
  attempt_left stage.Due c d q = same_reached w c d q
  attempt_left (stage.Trying attempt) c d q = part.left attempt c d q
  attempt_left stage.Resting c d q = same_reached w c d q
  attempt_left stage.Over c d q = same_reached w c d q

module _ {G F C Y : Type 0} (w : Frame C) (future : FutureOf F C Y) (part : Part w future) (sleeps : C → SleepTable) where
  pub retry_left : (retry : Retry G F) (c d : C) → RetryCancels future sleeps w.work w.reaches retry c d → w.reaches c d
  retry_left retry c d q = w.on c q.0 d (attempt_left w future part retry.stage c q.0 q.1) q.2.reached

module _ {G F C X E : Type 0} (w : Frame C) (future : FutureOf F C (Result X E)) (part : Part w future) (sleeps : C → SleepTable) where
  after_reset : (result : Result ⊤ Error) (retry : Retry G F) (c : C) (o : Option (Poll (Result X (RetryError E)))) (s : Retry G F) (d : C) → AfterReset sleeps w.work w.reaches result retry c o s d → w.reaches c d
  after_reset (Ok x) retry c o s d q = same_reached w c d q.2
  after_reset (Err error) retry c o s d q = q.removed.reached

  fails_early : (is_near : Bool) (e : E) (due : ℕ) (retry : Retry G F) (c : C) (o : Option (Poll (Result X (RetryError E)))) (s : Retry G F) (d : C) → FailsEarly sleeps w.work w.reaches is_near e due retry c o s d → w.reaches c d
  fails_early false e due retry c o s d q = q.removed.reached
  fails_early true e due retry c o s d q = w.on c q.middle d q.resets.reached (after_reset q.result (with_sleep retry q.sleep) q.middle o s d q.rest)

  fails_with : (left : ℕ) (e : E) (due : ℕ) (retry : Retry G F) (c : C) (o : Option (Poll (Result X (RetryError E)))) (s : Retry G F) (d : C) → FailsWith sleeps w.work w.reaches left e due retry c o s d → w.reaches c d
  fails_with zero e due retry c o s d q = q.removed.reached
  fails_with (suc more) e due retry c o s d q = fails_early (nat_le due max_nanos) e due retry c o s d q

  module _ (nanos : C → ℕ) where
    after_poll : (answer : Poll (Result X E)) (attempt : F) (retry : Retry G F) (c : C) (o : Option (Poll (Result X (RetryError E)))) (s : Retry G F) (d : C) → AfterPoll future nanos sleeps w.work w.reaches answer attempt retry c o s d → w.reaches c d
    after_poll Pending attempt retry c o s d q = same_reached w c d q.2
    after_poll (Ready (Ok x)) attempt retry c o s d q = w.on c q.0 d (part.left attempt c q.0 q.1) q.2.removed.reached
    after_poll (Ready (Err e)) attempt retry c o s d q = w.on c q.0 d (part.left attempt c q.0 q.1) (fails_with retry.left e (due_after retry (nanos q.0)) retry q.0 o s d q.2)

    after_sleep : (answer : Poll (Result ⊤ Error)) (retry : Retry G F) (c : C) (o : Option (Poll (Result X (RetryError E)))) (s : Retry G F) (d : C) → AfterSleep w.number sleeps w.work w.reaches answer retry c o s d → w.reaches c d
    after_sleep Pending retry c o s d q = same_reached w c d q.2
    after_sleep (Ready (Ok x)) retry c o s d q = same_reached w c d q.2
    after_sleep (Ready (Err error)) retry c o s d q = q.removed.reached

    module _ (call : Mut G (ℕ × Unit {0}) F) where
      step_reached : (st : Stage F) (retry : Retry G F) (c : C) (o : Option (Poll (Result X (RetryError E)))) (s : Retry G F) (d : C) → StepOf call future w.number nanos sleeps w.work w.reaches st retry c o s d → w.reaches c d
      step_reached stage.Due retry c o s d q = same_reached w c d q.2
      step_reached (stage.Trying attempt) retry c o s d q = w.on c q.middle d (part.reach attempt c q.answer q.after q.middle q.polled) (after_poll q.answer q.after (without_stage retry) q.middle o s d q.rest)
      step_reached stage.Resting retry c o s d q = w.on c q.middle d q.polled.reached (after_sleep q.answer (without_stage retry) q.middle o s d q.rest)
      step_reached stage.Over retry c o s d q = absurd q

      abbrev TakesFrom : ℕ → Retry G F → C → Poll (Result X (RetryError E)) → Retry G F → C → Type 0
      TakesFrom = Takes call future w.number nanos sleeps w.work w.reaches

      onward_reached : (o : Option (Poll (Result X (RetryError E)))) (More : Type 0) (t : Retry G F) (m : C) (p : Poll (Result X (RetryError E))) (s : Retry G F) (d : C) → (More → w.reaches m d) → Onward o More t m p s d → w.reaches m d
      onward_reached None More t m p s d more q = more q
      onward_reached (Some answer) More t m p s d more q = same_reached w m d q.2

      takes_reached : (n : ℕ) (retry : Retry G F) (c : C) (p : Poll (Result X (RetryError E))) (s : Retry G F) (d : C) → TakesFrom n retry c p s d → w.reaches c d
      takes_reached zero retry c p s d q = absurd q
      takes_reached (suc n) retry c p s d (o, t, m, step, rest) = w.on c m d (step_reached retry.stage retry c o t m step) (onward_reached o (TakesFrom n t m p s d) t m p s d (takes_reached n t m p s d) rest)

      pub retry_reached : (retry : Retry G F) (c : C) (p : Poll (Result X (RetryError E))) (s : Retry G F) (d : C) → RetryPolls call future w.number nanos sleeps w.work w.reaches retry c p s d → w.reaches c d
      retry_reached retry c p s d q = takes_reached q.0 retry c p s d q.2

      module _ (same_number : (a b : C) → w.reaches a b → w.number b ≡ w.number a) (watches : (c : C) (s : ℕ) → w.watcher c (of_sleep s) ≡ waker_in (value_at (sleeps c).table s)) where
        abbrev Covered : C → C → Retry G F → Type 0
        Covered c d s = CoversIn w c d (RetryNeeds part.needs s)

        early_ends : (is_near : Bool) (e : E) (due : ℕ) (retry : Retry G F) (c : C) (s : Retry G F) (d : C) → FailsEarly {X = X} sleeps w.work w.reaches is_near e due retry c (Some Pending) s d → ⊥
        early_ends false e due retry c s d q = no_end (Err (Far e)) q.answers
        early_ends true e due retry c s d q = by_result q.result (with_sleep retry q.sleep) q.middle s d q.rest
          where
            by_result : (result : Result ⊤ Error) (retry : Retry G F) (c : C) (s : Retry G F) (d : C) → AfterReset {X = X} {E = E} sleeps w.work w.reaches result retry c (Some Pending) s d → ⊥
            by_result (Ok x) retry c s d q = no_step Pending q.0
            by_result (Err error) retry c s d q = no_end (Err (Timer error)) q.answers

        failure_ends : (left : ℕ) (e : E) (due : ℕ) (retry : Retry G F) (c : C) (s : Retry G F) (d : C) → FailsWith {X = X} sleeps w.work w.reaches left e due retry c (Some Pending) s d → ⊥
        failure_ends zero e due retry c s d q = no_end (Err (Last e)) q.answers
        failure_ends (suc more) e due retry c s d q = early_ends (nat_le due max_nanos) e due retry c s d q

        attempt_waits : (attempt : F) (c : C) (answer : Poll (Result X E)) (after : F) (m : C) (retry s : Retry G F) (d : C) → future.polls attempt c answer after m
            → AfterPoll future nanos sleeps w.work w.reaches answer after retry m (Some Pending) s d → Covered c d s
        attempt_waits attempt c Pending after m retry s d polled rest = subst (Covered c d) (sym rest.1) (subst (λ e. CoversIn w c e (part.needs after)) (sym rest.2) (part.covers attempt c after m polled))
        attempt_waits attempt c (Ready (Ok x)) after m retry s d polled rest = absurd (no_end (Ok x) rest.2.answers)
        attempt_waits attempt c (Ready (Err e)) after m retry s d polled rest = absurd (failure_ends retry.left e (due_after retry (nanos rest.0)) retry rest.0 s d rest.2)

        rest_waits : (retry : Retry G F) (c : C) (answer : Poll (Result ⊤ Error)) (m : C) (s : Retry G F) (d : C) → SleepPolls w.number sleeps w.work w.reaches retry.sleep c answer retry.sleep m
            → AfterSleep {X = X} {E = E} w.number sleeps w.work w.reaches answer retry m (Some Pending) s d → Covered c d s
        rest_waits retry c Pending m s d polled rest =
            subst (Covered c d) (sym rest.1) (subst (λ e. CoversIn w c e (SleepNeeds retry.sleep)) (sym rest.2) (sleeps_cover w.number sleeps w.work w.reaches w.watcher w.itself same_number watches retry.sleep c retry.sleep m polled))
        rest_waits retry c (Ready (Ok x)) m s d polled rest = absurd (no_step Pending rest.0)
        rest_waits retry c (Ready (Err error)) m s d polled rest = absurd (no_end (Err (Timer error)) rest.answers)

        step_waits : (st : Stage F) (retry : Retry G F) (c : C) (s : Retry G F) (d : C) → StepOf call future w.number nanos sleeps w.work w.reaches st retry c (Some Pending) s d → Covered c d s
        step_waits stage.Due retry c s d q = absurd (no_step Pending q.0)
        step_waits (stage.Trying attempt) retry c s d q = attempt_waits attempt c q.answer q.after q.middle (without_stage retry) s d q.polled q.rest
        step_waits stage.Resting retry c s d q = rest_waits (without_stage retry) c q.answer q.middle s d q.polled q.rest
        step_waits stage.Over retry c s d q = absurd q

        onward_waits : (o : Option (Poll (Result X (RetryError E)))) (More : Type 0) (retry : Retry G F) (c : C) (t : Retry G F) (m : C) (s : Retry G F) (d : C) → (More → Covered m d s)
            → StepOf call future w.number nanos sleeps w.work w.reaches retry.stage retry c o t m → Onward o More t m Pending s d → Covered c d s
        onward_waits None More retry c t m s d more step q = covers_after w c m d (RetryNeeds part.needs s) (step_reached retry.stage retry c None t m step) (more q)
        onward_waits (Some answer) More retry c t m s d more step q =
            subst (Covered c d) (sym q.1) (subst (λ e. Covered c e t) (sym q.2) (step_waits retry.stage retry c t m
            (subst (λ a. StepOf call future w.number nanos sleeps w.work w.reaches retry.stage retry c (Some a) t m) (sym q.0) step)))

        takes_cover : (n : ℕ) (retry : Retry G F) (c : C) (s : Retry G F) (d : C) → TakesFrom n retry c Pending s d → Covered c d s
        takes_cover zero retry c s d q = absurd q
        takes_cover (suc n) retry c s d (o, t, m, step, rest) = onward_waits o (TakesFrom n t m Pending s d) retry c t m s d (takes_cover n t m s d) step rest

        pub retries_cover : (retry : Retry G F) (c : C) (s : Retry G F) (d : C) → RetryPolls call future w.number nanos sleeps w.work w.reaches retry c Pending s d → Covered c d s
        retries_cover retry c s d q = takes_cover q.0 retry c s d q.2
