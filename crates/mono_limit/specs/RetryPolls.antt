-- The answer of one poll of a retry and the retry after it, step by step.
use Rattle.std.specs.Prelude.{◌≡◌, ◌<◌, ◌≤◌, ℕ, zero, suc, ⊤, ◌+◌, ◌-◌, ◌*◌, ◌^◌, Bool, true, false, nat_le, Option, Some, None, Result, Ok, Err, OnOk, OnErr}
use Rattle.std.specs.Fn.{Mut, Called}
use Rattle.mono_model.specs.Ticks.{max_nanos}
use Rattle.mono_model.specs.Tasks.{Tasks, woken_if_any}
use Rattle.mono_model.specs.SleepAnswers.{without_waker, waker_in}
use Rattle.mono_model.specs.declared.poll.Poll.{Poll}
use Rattle.mono_model.specs.declared.poll.Poll.TheVariants.{Ready, Pending}
use Rattle.mono_model.specs.declared.error.Error.{Error}
use Rattle.mono_task.specs.Members.{FutureOf}
use Rattle.mono_time.specs.Instants.{nanos_of}
use Rattle.mono_time.specs.Sleeps.{SleepTable, with_reset_sleep, sleep_reset_answer}
use Rattle.mono_time.specs.Futures.{SleepPolls, SleepCancels}
use Rattle.mono_time.specs.declared.instant.Instant.{Instant}
use Rattle.mono_time.specs.declared.sleeps.Sleep.{Sleep}
use Rattle.mono_limit.specs.Delays.{delay}
use Rattle.mono_limit.specs.Stages.{is_over, place_of}
use Rattle.mono_limit.specs.declared.RetryError.{RetryError}
use Rattle.mono_limit.specs.declared.RetryError.TheVariants.{Last, Far, Timer}
use Rattle.mono_limit.specs.declared.attempts.Stage.{Stage}
use Rattle.mono_limit.specs.declared.attempts.Stage.TheVariants as stage
use Rattle.mono_limit.specs.declared.attempts.Retry.{Retry}

abbrev pub new_retry_of : {G F : Type 0} → G → ℕ → ℕ → ℕ → Sleep → Retry G F
new_retry_of make base cap most sleep = record { make = make; stage = stage.Due; tried = 0; left = most; sleep = sleep; base = base; cap = cap }

abbrev pub at_stage : {G F : Type 0} → Retry G F → Stage F → Retry G F
at_stage retry next = record { make = retry.make; stage = next; tried = retry.tried; left = retry.left; sleep = retry.sleep; base = retry.base; cap = retry.cap }

-- The retry whose stage was taken out.
abbrev pub without_stage : {G F : Type 0} → Retry G F → Retry G F
without_stage retry = at_stage retry stage.Over

-- The retry after the next attempt was made, which is running.
abbrev pub with_attempt : {G F : Type 0} → Retry G F → F → G → Retry G F
with_attempt retry attempt make =
    record { make = make; stage = stage.Trying attempt; tried = retry.tried + 1; left = retry.left - 1; sleep = retry.sleep; base = retry.base; cap = retry.cap }

abbrev pub with_sleep : {G F : Type 0} → Retry G F → Sleep → Retry G F
with_sleep retry sleep = record { make = retry.make; stage = retry.stage; tried = retry.tried; left = retry.left; sleep = sleep; base = retry.base; cap = retry.cap }

-- A bound on the steps that a poll may still take.
abbrev pub rounds_left : {G F : Type 0} → Retry G F → ℕ
rounds_left retry = 3 * retry.left + place_of retry.stage

module _ {F C Y : Type 0} (future : FutureOf F C Y) where
  -- Whether it may be polled.
  abbrev pub IsLive : F → Type 0
  IsLive attempt = (future.is_spent attempt ≡ false) × future.can_poll attempt

  -- Whether the running attempt may be polled.
  abbrev pub IsLiveStage : Stage F → Type 0
  IsLiveStage stage.Due = ⊤
  IsLiveStage (stage.Trying attempt) = IsLive attempt
  IsLiveStage stage.Resting = ⊤
  IsLiveStage stage.Over = ⊤

  -- The running attempt is given up, if there is one.
  abbrev pub AttemptCancels : Stage F → C → C → Type 0
  AttemptCancels stage.Due c d = d ≡ c
  AttemptCancels (stage.Trying attempt) c d = future.cancels attempt c d
  AttemptCancels stage.Resting c d = d ≡ c
  AttemptCancels stage.Over c d = d ≡ c

-- A further attempt may follow on a rest.
abbrev pub HasLeft : {F : Type 0} → Stage F → ℕ → Type 0
HasLeft stage.Due left = 0 < left
HasLeft (stage.Trying attempt) left = ⊤
HasLeft stage.Resting left = 0 < left
HasLeft stage.Over left = ⊤

module _ {G F C Y : Type 0} (call : Mut G (ℕ × Unit {0}) F) (future : FutureOf F C Y) where
  -- The closure may be called for each attempt from 1 to the last one, and each of these attempts may be polled.
  pub record MakesLive (most : ℕ) : Type 0 where
    pub can_call : (make : G) (k : ℕ) → 0 < k → k ≤ most → call.pre make (k, tt)
    pub live : (make : G) (k : ℕ) (attempt : F) (next : G) → 0 < k → k ≤ most → Called call make (k, tt) attempt next → IsLive future attempt

  -- The requirement of a poll, which holds after it again.
  pub record MayGoOn (retry : Retry G F) : Type 0 where
    pub has_base : 0 < retry.base
    pub in_range : retry.tried + retry.left < 2 ^ 32
    pub has_left : HasLeft retry.stage retry.left
    pub live : IsLiveStage future retry.stage
    pub makes_live : MakesLive (retry.tried + retry.left)

module _ {C : Type 0} (sleeps : C → SleepTable) (work : C → Tasks ⊤) (reaches : C → C → Type 0) where
  -- The sleep is reset to a deadline, or the context refuses that.
  pub record Resets (sleep : Sleep) (c : C) (nanos : ℕ) (result : Result ⊤ Error) (s : Sleep) (d : C) : Type 0 where
    pub answer : result ≡ without_waker (sleep_reset_answer (sleeps c) sleep.number nanos)
    pub number : s.number ≡ sleep.number
    pub deadline : OnOk result (nanos_of s.deadline ≡ nanos)
    pub refused : OnErr result (s ≡ sleep)
    pub sleeps_after : sleeps d ≡ with_reset_sleep (sleeps c) sleep.number nanos
    pub work_after : work d ≡ woken_if_any (work c) (waker_in (sleep_reset_answer (sleeps c) sleep.number nanos))
    pub reached : reaches c d

module _ {G F C X E : Type 0} (sleeps : C → SleepTable) (work : C → Tasks ⊤) (reaches : C → C → Type 0) where
  -- The retry answers for good, and its sleep is removed.
  pub record Ends (answer : Result X (RetryError E)) (retry : Retry G F) (c : C) (o : Option (Poll (Result X (RetryError E)))) (s : Retry G F) (d : C) : Type 0 where
    pub answers : o ≡ Some (Ready answer)
    pub over : s ≡ at_stage retry stage.Over
    pub removed : SleepCancels sleeps work reaches retry.sleep c d

  -- The retry rests if the sleep was reset; otherwise it answers the refusal.
  abbrev pub AfterReset : Result ⊤ Error → Retry G F → C → Option (Poll (Result X (RetryError E))) → Retry G F → C → Type 0
  AfterReset (Ok x) retry c o s d = (o ≡ None) × (s ≡ at_stage retry stage.Resting) × (d ≡ c)
  AfterReset (Err error) retry c o s d = Ends (Err (Timer error)) retry c o s d

  pub record GoesToRest (nanos : ℕ) (retry : Retry G F) (c : C) (o : Option (Poll (Result X (RetryError E)))) (s : Retry G F) (d : C) : Type 0 where
    pub result : Result ⊤ Error
    pub sleep : Sleep
    pub middle : C
    pub resets : Resets sleeps work reaches retry.sleep c nanos result sleep middle
    pub rest : AfterReset result (with_sleep retry sleep) middle o s d

  -- The attempt has failed, and the next is due at a moment. It was the last; or that moment is past the last instant;
  -- or the sleep is reset to it.
  abbrev pub FailsEarly : Bool → E → ℕ → Retry G F → C → Option (Poll (Result X (RetryError E))) → Retry G F → C → Type 0
  FailsEarly false e due retry c o s d = Ends (Err (Far e)) retry c o s d
  FailsEarly true e due retry c o s d = GoesToRest due retry c o s d

  abbrev pub FailsWith : ℕ → E → ℕ → Retry G F → C → Option (Poll (Result X (RetryError E))) → Retry G F → C → Type 0
  FailsWith zero e due retry c o s d = Ends (Err (Last e)) retry c o s d
  FailsWith (suc more) e due retry c o s d = FailsEarly (nat_le due max_nanos) e due retry c o s d

-- The moment at which the next attempt is due, if that of this number has failed now.
abbrev pub due_after : {G F : Type 0} → Retry G F → ℕ → ℕ
due_after retry now = now + 1000000 * delay retry.base retry.cap retry.tried

-- The instant of a moment, if it is not past the last one.
abbrev pub IsDeadline : ℕ → Option Instant → Type 0
IsDeadline due None = nat_le due max_nanos ≡ false
IsDeadline due (Some deadline) = (nat_le due max_nanos ≡ true) × (nanos_of deadline ≡ due)

module _ {G F : Type 0} (call : Mut G (ℕ × Unit {0}) F) where
  -- The next attempt is made, by its number.
  pub record Makes (retry s : Retry G F) : Type 0 where
    pub attempt : F
    pub make : G
    pub made : Called call retry.make (retry.tried + 1, tt) attempt make
    pub tries : s ≡ with_attempt retry attempt make

module _ {G F C X E : Type 0} (future : FutureOf F C (Result X E)) (nanos : C → ℕ) (sleeps : C → SleepTable) (work : C → Tasks ⊤) (reaches : C → C → Type 0) where
  -- The attempt was polled. An attempt that answered is cancelled at once.
  abbrev pub AfterPoll : Poll (Result X E) → F → Retry G F → C → Option (Poll (Result X (RetryError E))) → Retry G F → C → Type 0
  AfterPoll Pending attempt retry c o s d = (o ≡ Some Pending) × (s ≡ at_stage retry (stage.Trying attempt)) × (d ≡ c)
  AfterPoll (Ready (Ok x)) attempt retry c o s d = (middle : C) × future.cancels attempt c middle × Ends sleeps work reaches (Ok x) retry middle o s d
  AfterPoll (Ready (Err e)) attempt retry c o s d =
      (middle : C) × future.cancels attempt c middle × FailsWith sleeps work reaches retry.left e (due_after retry (nanos middle)) retry middle o s d

  pub record Tries (attempt : F) (retry : Retry G F) (c : C) (o : Option (Poll (Result X (RetryError E)))) (s : Retry G F) (d : C) : Type 0 where
    pub answer : Poll (Result X E)
    pub after : F
    pub middle : C
    pub polled : future.polls attempt c answer after middle
    pub rest : AfterPoll answer after retry middle o s d

module _ {G F C X E : Type 0} (number : C → ℕ) (sleeps : C → SleepTable) (work : C → Tasks ⊤) (reaches : C → C → Type 0) where
  -- The sleep was polled. If it is ready, the next attempt is due.
  abbrev pub AfterSleep : Poll (Result ⊤ Error) → Retry G F → C → Option (Poll (Result X (RetryError E))) → Retry G F → C → Type 0
  AfterSleep Pending retry c o s d = (o ≡ Some Pending) × (s ≡ at_stage retry stage.Resting) × (d ≡ c)
  AfterSleep (Ready (Ok x)) retry c o s d = (o ≡ None) × (s ≡ at_stage retry stage.Due) × (d ≡ c)
  AfterSleep (Ready (Err error)) retry c o s d = Ends sleeps work reaches (Err (Timer error)) retry c o s d

  pub record Rests (retry : Retry G F) (c : C) (o : Option (Poll (Result X (RetryError E)))) (s : Retry G F) (d : C) : Type 0 where
    pub answer : Poll (Result ⊤ Error)
    pub middle : C
    pub polled : SleepPolls number sleeps work reaches retry.sleep c answer retry.sleep middle
    pub rest : AfterSleep answer retry middle o s d

-- A step gave the poll's answer, or the poll continues.
abbrev pub Onward : {G F C A : Type 0} → Option A → Type 0 → Retry G F → C → A → Retry G F → C → Type 0
Onward None More t m p s d = More
Onward (Some answer) More t m p s d = (p ≡ answer) × (s ≡ t) × (d ≡ m)

module _ {G F C X E : Type 0} (call : Mut G (ℕ × Unit {0}) F) (future : FutureOf F C (Result X E)) (number nanos : C → ℕ) (sleeps : C → SleepTable) (work : C → Tasks ⊤) (reaches : C → C → Type 0) where
  -- One step, by the stage.
  abbrev pub StepOf : Stage F → Retry G F → C → Option (Poll (Result X (RetryError E))) → Retry G F → C → Type 0
  StepOf stage.Due retry c o s d = (o ≡ None) × Makes call (without_stage retry) s × (d ≡ c)
  StepOf (stage.Trying attempt) retry c o s d = Tries future nanos sleeps work reaches attempt (without_stage retry) c o s d
  StepOf stage.Resting retry c o s d = Rests number sleeps work reaches (without_stage retry) c o s d
  StepOf stage.Over retry c o s d = ⊥

  -- The given number of steps; the last gives the answer.
  abbrev pub Takes : ℕ → Retry G F → C → Poll (Result X (RetryError E)) → Retry G F → C → Type 0
  Takes zero retry c p s d = ⊥
  Takes (suc n) retry c p s d = (o : Option (Poll (Result X (RetryError E)))) × (t : Retry G F) × (m : C) × StepOf retry.stage retry c o t m × Onward o (Takes n t m p s d) t m p s d

  -- One poll: one step after another, until one gives the answer, within the bound.
  abbrev pub RetryPolls : Retry G F → C → Poll (Result X (RetryError E)) → Retry G F → C → Type 0
  RetryPolls retry c p s d = (n : ℕ) × (n ≤ rounds_left retry + 1) × Takes n retry c p s d

module _ {G F C Y : Type 0} (future : FutureOf F C Y) (sleeps : C → SleepTable) (work : C → Tasks ⊤) (reaches : C → C → Type 0) where
  -- The attempt is given up, and then the sleep.
  abbrev pub RetryCancels : Retry G F → C → C → Type 0
  RetryCancels retry c d = (middle : C) × AttemptCancels future retry.stage c middle × SleepCancels sleeps work reaches retry.sleep middle d

-- The retry after a step: it has fewer steps to go, or may be polled again, unless it has answered for good.
abbrev pub Leaves : {G F A : Type 0} → Option (Poll A) → Retry G F → Retry G F → Type 0
Leaves None old new = (is_over new.stage ≡ false) × (rounds_left new < rounds_left old)
Leaves (Some Pending) old new = is_over new.stage ≡ false
Leaves (Some (Ready x)) old new = ⊤
