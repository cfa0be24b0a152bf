-- The answer and the effect of a future with a deadline.
use Rattle.std.specs.Prelude.{◌≡◌, ℕ, ⊤, Result, Ok, Err}
use Rattle.mono_model.specs.Tasks.{Tasks}
use Rattle.mono_model.specs.declared.poll.Poll.{Poll}
use Rattle.mono_model.specs.declared.poll.Poll.TheVariants.{Ready, Pending}
use Rattle.mono_task.specs.Members.{FutureOf}
use Rattle.mono_time.specs.Sleeps.{SleepTable}
use Rattle.mono_time.specs.Futures.{SleepPolls, SleepCancels}
use Rattle.mono_time.specs.declared.timeouts.Timeout.{Timeout}
use Rattle.mono_time.specs.declared.timeouts.TimeoutRefused.{TimeoutRefused}
use Rattle.mono_model.specs.declared.error.Error.{Error}
use Rattle.mono_model.specs.declared.error.SleepError.{SleepError}
use Rattle.mono_time.specs.declared.error.TimeoutError.{TimeoutError}
use Rattle.mono_time.specs.declared.error.TimeoutError.TheVariants.{Elapsed, Timer}
use Rattle.mono_time.specs.declared.sleeps.Sleep.{Sleep}

-- The delay that was made, or the reason why there is none.
abbrev pub delay_of : {T : Type 0} → Result (Timeout T) (TimeoutRefused T) → Result Sleep SleepError
delay_of (Ok t) = Ok t.delay
delay_of (Err e) = Err e.cause

-- The future, in the timeout or handed back.
abbrev pub future_of : {T : Type 0} → Result (Timeout T) (TimeoutRefused T) → T
future_of (Ok t) = t.value
future_of (Err e) = e.future

-- The timeout's answer from the delay's, if the value was not ready.
abbrev pub late_answer : {O : Type 0} → Poll (Result ⊤ Error) → Poll (Result O TimeoutError)
late_answer (Ready (Ok x)) = Ready (Err (Elapsed (record {})))
late_answer (Ready (Err e)) = Ready (Err (Timer e))
late_answer Pending = Pending

module _ {T C O : Type 0} (future : FutureOf T C O) (number : C → ℕ) (sleeps : C → SleepTable) (work : C → Tasks ⊤) (reaches : C → C → Type 0) where
  -- The value was polled, with this answer. If it is ready, the delay is given up; otherwise it is polled.
  abbrev pub AfterValue : Poll O → Sleep → C → Poll (Result O TimeoutError) → Sleep → C → Type 0
  AfterValue (Ready x) delay c r left d = (r ≡ Ready (Ok x)) × (left ≡ delay) × SleepCancels sleeps work reaches delay c d
  AfterValue Pending delay c r left d = (p : Poll (Result ⊤ Error)) × SleepPolls number sleeps work reaches delay c p left d × (r ≡ late_answer p)

  -- A poll of the value in some context that its poll leaves, and then of the delay.
  pub record TimeoutPolls (f : Timeout T) (c : C) (r : Poll (Result O TimeoutError)) (g : Timeout T) (d : C) : Type 0 where
    pub answer : Poll O
    pub middle : C
    pub value : future.polls f.value c answer g.value middle
    pub rest : AfterValue answer f.delay middle r g.delay d

module _ {T C O : Type 0} (future : FutureOf T C O) (sleeps : C → SleepTable) (work : C → Tasks ⊤) (reaches : C → C → Type 0) where
  -- The value is given up, and then the delay.
  abbrev pub TimeoutCancels : Timeout T → C → C → Type 0
  TimeoutCancels f c d = (middle : C) × future.cancels f.value c middle × SleepCancels sleeps work reaches f.delay middle d

-- Whether the future may give the value. That the time has elapsed is always possible.
abbrev pub TimeoutGives : {T X E : Type 0} → (T → X → Type 0) → T → Result X E → Type 0
TimeoutGives gives f (Ok x) = gives f x
TimeoutGives gives f (Err e) = ⊤
