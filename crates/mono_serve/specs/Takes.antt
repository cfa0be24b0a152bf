-- The answer and the effect of one poll of a take.
use Rattle.std.specs.Prelude.{⊤, ◌≡◌, ◌*◌, ℕ, Bool, true, false, if◌then◌else◌, Option, Some, None, Result, Ok, Err, nat_le}
use Rattle.std.specs.declared.alloc.AllocError.{AllocError}
use Rattle.mono_model.specs.Ticks.{max_nanos}
use Rattle.mono_model.specs.Tasks.{Tasks, woken}
use Rattle.mono_model.specs.Poll.{OnPending}
use Rattle.mono_model.specs.declared.poll.Poll.{Poll}
use Rattle.mono_model.specs.declared.poll.Poll.TheVariants.{Ready, Pending}
use Rattle.mono_model.specs.declared.error.Error.{Error}
use Rattle.mono_model.specs.declared.error.SleepError.{SleepError}
use Rattle.mono_model.specs.declared.error.SleepError.TheVariants as sleeping
use Rattle.mono_time.specs.Sleeps.{SleepTable}
use Rattle.mono_time.specs.Futures.{SleepMade, SleepPolls, SleepCancels}
use Rattle.mono_time.specs.declared.sleeps.Sleep.{Sleep}
use Rattle.mono_serve.specs.declared.buckets.Buckets.{Buckets}
use Rattle.mono_serve.specs.declared.buckets.Asked.{Asked}
use Rattle.mono_serve.specs.declared.buckets.Asked.TheVariants as asked
use Rattle.mono_serve.specs.declared.takes.Stage.{Stage}
use Rattle.mono_serve.specs.declared.takes.Stage.TheVariants.{Fresh, Waits, Sleeps, Over}
use Rattle.mono_serve.specs.declared.takes.TakeError.{TakeError}
use Rattle.mono_serve.specs.declared.takes.TakeError.TheVariants.{Refused, Memory, Far, Timer}
use Rattle.mono_serve.specs.BucketCalls.{Enters, Asks, GivesUp}

abbrev pub is_over : Stage → Bool
is_over Fresh = false
is_over (Waits ticket) = false
is_over (Sleeps ticket sleep) = false
is_over Over = true

-- The fact holds if there is no answer yet, or if the answer is pending.
abbrev pub MayGoOn : {A : Type 0} → Option (Poll A) → Type 0 → Type 0
MayGoOn None P = P
MayGoOn (Some answer) P = OnPending answer P

-- The nanoseconds of a tick, unless it is past the last instant.
abbrev pub deadline_of : ℕ → Option ℕ
deadline_of tick = if nat_le (tick * 1000000) max_nanos then Some (tick * 1000000) else None

module _ {C : Type 0} (part : C → Buckets) (number : C → ℕ) (work : C → Tasks ⊤) where
  -- The future leaves the line.
  pub record LeavesLine (ticket : ℕ) (c d : C) : Type 0 where
    pub left : GivesUp (part c) ticket (number c) (part d)
    pub work_after : work d ≡ work c

  -- The future leaves the line with an error as its answer.
  abbrev pub Fails : TakeError → ℕ → C → Poll (Result ⊤ TakeError) → Stage → C → Type 0
  Fails error ticket c r s d = (r ≡ Ready (Err error)) × (s ≡ Over) × LeavesLine ticket c d

module _ {C : Type 0} (part : C → Buckets) (number : C → ℕ) (sleeps : C → SleepTable) (work : C → Tasks ⊤) (reaches : C → C → Type 0) where
  -- The future fails after its sleep was removed.
  pub record FailsAwake (error : TakeError) (ticket : ℕ) (sleep : Sleep) (c : C) (o : Option (Poll (Result ⊤ TakeError))) (s : Stage) (d : C) : Type 0 where
    pub middle : C
    pub removed : SleepCancels sleeps work reaches sleep c middle
    pub left : LeavesLine part number work ticket middle d
    pub answer : o ≡ Some (Ready (Err error))
    pub stage : s ≡ Over

  -- The sleep was polled. It is removed once it is over, and then there is no answer yet.
  abbrev pub AfterNap : Poll (Result ⊤ Error) → ℕ → Sleep → C → Option (Poll (Result ⊤ TakeError)) → Stage → C → Type 0
  AfterNap Pending ticket sleep c o s d = (o ≡ Some Pending) × (s ≡ Sleeps ticket sleep) × (d ≡ c)
  AfterNap (Ready (Ok x)) ticket sleep c o s d = (o ≡ None) × (s ≡ Waits ticket) × SleepCancels sleeps work reaches sleep c d
  AfterNap (Ready (Err error)) ticket sleep c o s d = FailsAwake (Timer (sleeping.Timer error)) ticket sleep c o s d

  -- The future leaves its line after its sleep, if any, was removed.
  abbrev pub TakeCancels : Stage → C → C → Type 0
  TakeCancels Fresh c d = d ≡ c
  TakeCancels (Waits ticket) c d = LeavesLine part number work ticket c d
  TakeCancels (Sleeps ticket sleep) c d = (middle : C) × SleepCancels sleeps work reaches sleep c middle × LeavesLine part number work ticket middle d
  TakeCancels Over c d = d ≡ c

module _ {C : Type 0} (part : C → Buckets) (number : C → ℕ) (sleeps : C → SleepTable) (work : C → Tasks ⊤) (reaches : C → C → Type 0) where
  pub record Naps (ticket : ℕ) (sleep : Sleep) (c : C) (o : Option (Poll (Result ⊤ TakeError))) (s : Stage) (d : C) : Type 0 where
    pub answer : Poll (Result ⊤ Error)
    pub middle : C
    pub polled : SleepPolls number sleeps work reaches sleep c answer sleep middle
    pub rest : AfterNap part number sleeps work reaches answer ticket sleep middle o s d

  -- The new sleep gave an answer; or it is over at once, and the task runs again.
  abbrev pub AfterFirstNap : Option (Poll (Result ⊤ TakeError)) → Stage → C → Poll (Result ⊤ TakeError) → Stage → C → Type 0
  AfterFirstNap (Some answer) t c r s d = (r ≡ answer) × (s ≡ t) × (d ≡ c)
  AfterFirstNap None t c r s d = (r ≡ Pending) × (s ≡ t) × (work d ≡ woken (work c) (number c)) × (part d ≡ part c)

  pub record FirstNap (ticket : ℕ) (sleep : Sleep) (c : C) (r : Poll (Result ⊤ TakeError)) (s : Stage) (d : C) : Type 0 where
    pub answer : Option (Poll (Result ⊤ TakeError))
    pub stage : Stage
    pub middle : C
    pub naps : Naps ticket sleep c answer stage middle
    pub rest : AfterFirstNap answer stage middle r s d

  abbrev pub AfterMade : Result Sleep SleepError → ℕ → C → Poll (Result ⊤ TakeError) → Stage → C → Type 0
  AfterMade (Ok sleep) ticket c r s d = FirstNap ticket sleep c r s d
  AfterMade (Err error) ticket c r s d = Fails part number work (Timer error) ticket c r s d

  pub record MakesSleep (deadline ticket : ℕ) (c : C) (r : Poll (Result ⊤ TakeError)) (s : Stage) (d : C) : Type 0 where
    pub made : Result Sleep SleepError
    pub middle : C
    pub makes : SleepMade (sleeps c) deadline made (sleeps middle)
    pub work_after : work middle ≡ work c
    pub reached : reaches c middle
    pub rest : AfterMade made ticket middle r s d

  -- The future sleeps until a deadline, if there is one.
  abbrev pub Rests : Option ℕ → ℕ → C → Poll (Result ⊤ TakeError) → Stage → C → Type 0
  Rests None ticket c r s d = Fails part number work Far ticket c r s d
  Rests (Some deadline) ticket c r s d = MakesSleep deadline ticket c r s d

  abbrev pub AfterAsk : Asked → ℕ → C → Poll (Result ⊤ TakeError) → Stage → C → Type 0
  AfterAsk asked.Waits ticket c r s d = (r ≡ Pending) × (s ≡ Waits ticket) × (d ≡ c)
  AfterAsk asked.Granted ticket c r s d = (r ≡ Ready (Ok tt)) × (s ≡ Over) × (d ≡ c)
  AfterAsk (asked.Refused error) ticket c r s d = (r ≡ Ready (Err (Refused error))) × (s ≡ Over) × (d ≡ c)
  AfterAsk (asked.Short tick) ticket c r s d = Rests (deadline_of tick) ticket c r s d

module _ {C : Type 0} (part : C → Buckets) (number nanos : C → ℕ) (sleeps : C → SleepTable) (work : C → Tasks ⊤) (reaches : C → C → Type 0) where
  -- The future asks for its tokens at the turn's moment.
  pub record AsksFor (ticket bucket n : ℕ) (c : C) (r : Poll (Result ⊤ TakeError)) (s : Stage) (d : C) : Type 0 where
    pub answer : Asked
    pub middle : C
    pub asks : Asks (part c) (nanos c) ticket bucket n (number c) answer (part middle)
    pub work_after : work middle ≡ work c
    pub reached : reaches c middle
    pub rest : AfterAsk part number sleeps work reaches answer ticket middle r s d

  abbrev pub AfterEntry : Result ℕ AllocError → ℕ → ℕ → C → Poll (Result ⊤ TakeError) → Stage → C → Type 0
  AfterEntry (Ok ticket) bucket n c r s d = AsksFor ticket bucket n c r s d
  AfterEntry (Err error) bucket n c r s d = (r ≡ Ready (Err Memory)) × (s ≡ Over) × (d ≡ c)

  -- The running task waits in the future's place in the line, and asks at once.
  pub record GoesOn (ticket : Option ℕ) (bucket n : ℕ) (c : C) (r : Poll (Result ⊤ TakeError)) (s : Stage) (d : C) : Type 0 where
    pub kept : Result ℕ AllocError
    pub middle : C
    pub enters : Enters (part c) ticket bucket (number c) kept (part middle)
    pub work_after : work middle ≡ work c
    pub reached : reaches c middle
    pub rest : AfterEntry kept bucket n middle r s d

  -- The sleep gave an answer, or is over, and the future goes on.
  abbrev pub AfterSleep : Option (Poll (Result ⊤ TakeError)) → Stage → ℕ → ℕ → ℕ → C → Poll (Result ⊤ TakeError) → Stage → C → Type 0
  AfterSleep (Some answer) t ticket bucket n c r s d = (r ≡ answer) × (s ≡ t) × (d ≡ c)
  AfterSleep None t ticket bucket n c r s d = GoesOn (Some ticket) bucket n c r s d

  pub record Wakes (ticket bucket n : ℕ) (sleep : Sleep) (c : C) (r : Poll (Result ⊤ TakeError)) (s : Stage) (d : C) : Type 0 where
    pub answer : Option (Poll (Result ⊤ TakeError))
    pub stage : Stage
    pub middle : C
    pub naps : Naps part number sleeps work reaches ticket sleep c answer stage middle
    pub rest : AfterSleep answer stage ticket bucket n middle r s d

  abbrev pub TakePolls : Stage → ℕ → ℕ → C → Poll (Result ⊤ TakeError) → Stage → C → Type 0
  TakePolls Fresh bucket n c r s d = GoesOn None bucket n c r s d
  TakePolls (Waits ticket) bucket n c r s d = GoesOn (Some ticket) bucket n c r s d
  TakePolls (Sleeps ticket sleep) bucket n c r s d = Wakes ticket bucket n sleep c r s d
  TakePolls Over bucket n c r s d = ⊥

  -- The answer is that of a poll of a take of n tokens of the bucket, in some context.
  pub record TakeGives (bucket n : ℕ) (answer : Result ⊤ TakeError) : Type 0 where
    pub stage : Stage
    pub left : Stage
    pub at : C
    pub after : C
    pub polled : TakePolls stage bucket n at (Ready answer) left after
