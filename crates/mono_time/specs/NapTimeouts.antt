-- A future with a deadline that is a duration from its first poll on.
use Rattle.std.specs.Prelude.{◌≡◌, ℕ, ⊤, ◌||◌, Bool, true, Option, Some, None, Result, Ok, Err}
use Rattle.mono_model.specs.Tasks.{Tasks}
use Rattle.mono_model.specs.declared.poll.Poll.{Poll}
use Rattle.mono_model.specs.declared.poll.Poll.TheVariants.{Ready, Pending}
use Rattle.mono_model.specs.declared.error.SleepError.{SleepError}
use Rattle.mono_task.specs.Members.{FutureOf}
use Rattle.mono_time.specs.Sleeps.{SleepTable}
use Rattle.mono_time.specs.Naps.{nap_spent, NapPolls, NapCancels}
use Rattle.mono_time.specs.declared.naps.SleepFor.{SleepFor}
use Rattle.mono_time.specs.declared.error.LateError.{LateError}
use Rattle.mono_time.specs.declared.error.LateError.TheVariants.{Elapsed, Sleep}

-- The reason why there is no output, from the delay's answer.
abbrev pub late_cause : Result ⊤ SleepError → LateError
late_cause (Ok x) = Elapsed (record {})
late_cause (Err e) = Sleep e

module _ {T : Type 0} where
  abbrev pub limit_spent : (T → Bool) → Option (T × SleepFor) → Bool
  limit_spent is_spent (Some p) = is_spent p.0 || nap_spent p.1
  limit_spent is_spent None = true

  abbrev pub LimitCanPoll : (T → Type 0) → Option (T × SleepFor) → Type 0
  LimitCanPoll can_poll (Some p) = can_poll p.0
  LimitCanPoll can_poll None = ⊤

  -- Whether the future may give the value. Any cause is always possible.
  abbrev pub LimitGives : {O : Type 0} → (T → O → Type 0) → Option (T × SleepFor) → Result O LateError → Type 0
  LimitGives gives (Some p) (Ok x) = gives p.0 x
  LimitGives gives (Some p) (Err e) = ⊤
  LimitGives gives None r = ⊥

  -- The future is given up, and then the delay.
  abbrev pub LimitCancels : {C : Type 0} → (T → C → C → Type 0) → (C → SleepTable) → (C → Tasks ⊤) → (C → C → Type 0) → Option (T × SleepFor) → C → C → Type 0
  LimitCancels {C} cancels sleeps work reaches (Some p) c d = (m : C) × cancels p.0 c m × NapCancels sleeps work reaches p.1 m d
  LimitCancels cancels sleeps work reaches None c d = d ≡ c

module _ {T C O : Type 0} (future : FutureOf T C O) (nanos number : C → ℕ) (sleeps : C → SleepTable) (work : C → Tasks ⊤) (reaches : C → C → Type 0) where
  -- The delay was polled.
  abbrev pub AfterDelay : Poll (Result ⊤ SleepError) → T → SleepFor → C → Poll (Result O LateError) → Option (T × SleepFor) → C → Type 0
  AfterDelay (Ready x) f s c r n d = (r ≡ Ready (Err (late_cause x))) × (n ≡ None) × LimitCancels future.cancels sleeps work reaches (Some (f, s)) c d
  AfterDelay Pending f s c r n d = (r ≡ Pending) × (n ≡ Some (f, s)) × (d ≡ c)

  pub record PollsDelay (f : T) (s : SleepFor) (c : C) (r : Poll (Result O LateError)) (n : Option (T × SleepFor)) (d : C) : Type 0 where
    pub answer : Poll (Result ⊤ SleepError)
    pub left : SleepFor
    pub middle : C
    pub polled : NapPolls nanos number sleeps work reaches s c answer left middle
    pub rest : AfterDelay answer f left middle r n d

  -- The future was polled. If it waits, the delay is polled, too.
  abbrev pub AfterLimited : Poll O → T → SleepFor → C → Poll (Result O LateError) → Option (T × SleepFor) → C → Type 0
  AfterLimited (Ready x) f s c r n d = (r ≡ Ready (Ok x)) × (n ≡ None) × LimitCancels future.cancels sleeps work reaches (Some (f, s)) c d
  AfterLimited Pending f s c r n d = PollsDelay f s c r n d

  pub record PollsLimited (f : T) (s : SleepFor) (c : C) (r : Poll (Result O LateError)) (n : Option (T × SleepFor)) (d : C) : Type 0 where
    pub answer : Poll O
    pub left : T
    pub middle : C
    pub polled : future.polls f c answer left middle
    pub rest : AfterLimited answer left s middle r n d

  abbrev pub LimitPolls : Option (T × SleepFor) → C → Poll (Result O LateError) → Option (T × SleepFor) → C → Type 0
  LimitPolls (Some p) c r n d = PollsLimited p.0 p.1 c r n d
  LimitPolls None c r n d = ⊥
