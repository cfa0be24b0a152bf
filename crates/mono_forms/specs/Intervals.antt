-- An interval that is made at its first poll: the answer and the effect of one poll, and the ticks that it gives.
use Rattle.std.specs.Prelude.{◌≡◌, ℕ, ⊤, Option, Some, None, Result, Ok, Err}
use Rattle.std.specs.Duration.{as_nanos}
use Rattle.std.specs.declared.time.Duration.{Duration}
use Rattle.mono_model.specs.Tasks.{Tasks}
use Rattle.mono_model.specs.declared.poll.Poll.{Poll}
use Rattle.mono_model.specs.declared.poll.Poll.TheVariants.{Ready, Pending}
use Rattle.mono_model.specs.declared.error.Error.{Error}
use Rattle.mono_model.specs.declared.error.SleepError.{SleepError}
use Rattle.mono_model.specs.declared.error.SleepError.TheVariants.{Timer}
use Rattle.mono_time.specs.Sleeps.{SleepTable}
use Rattle.mono_time.specs.Futures.{SleepCancels}
use Rattle.mono_time.specs.IntervalTicks.{IntervalMade, TickPolls}
use Rattle.mono_time.specs.declared.instant.Instant.{Instant}
use Rattle.mono_time.specs.declared.intervals.Interval.{Interval}

-- The answer of the interval's poll as that of the future.
abbrev pub tick_answer : Result (Poll Instant) Error → Poll (Result Instant SleepError)
tick_answer (Ok (Ready tick)) = Ready (Ok tick)
tick_answer (Ok Pending) = Pending
tick_answer (Err error) = Ready (Err (Timer error))

-- A tick is the deadline of the interval, if it was made.
abbrev pub IntervalGives : Option Interval → Result Instant SleepError → Type 0
IntervalGives None answer = ⊤
IntervalGives (Some made) (Ok tick) = tick ≡ made.delay.deadline
IntervalGives (Some made) (Err error) = ⊤

-- While no tick has come, the interval stays; a tick is its deadline.
abbrev pub SameTicks : Interval → Poll (Result Instant SleepError) → Option Interval → Type 0
SameTicks made Pending left = left ≡ Some made
SameTicks made (Ready answer) left = IntervalGives (Some made) answer

module _ {C : Type 0} (sleeps : C → SleepTable) (work : C → Tasks ⊤) (reaches : C → C → Type 0) where
  -- The delay of the interval, if it was made, is given up.
  abbrev pub IntervalCancels : Option Interval → C → C → Type 0
  IntervalCancels None c d = d ≡ c
  IntervalCancels (Some made) c d = SleepCancels sleeps work reaches made.delay c d

module _ {C : Type 0} (number nanos : C → ℕ) (sleeps : C → SleepTable) (work : C → Tasks ⊤) where
  -- An interval that was made is polled for its next tick.
  pub record NextTick (made : Interval) (c : C) (r : Poll (Result Instant SleepError)) (left : Option Interval) (d : C) : Type 0 where
    pub answer : Result (Poll Instant) Error
    pub after : Interval
    pub polled : TickPolls number nanos sleeps work made c answer after d
    pub answers : r ≡ tick_answer answer
    pub stays : left ≡ Some after

  -- The interval was made and is polled, or it was refused.
  abbrev pub AfterMade : Result Interval SleepError → C → Poll (Result Instant SleepError) → Option Interval → C → Type 0
  AfterMade (Ok made) c r left d = NextTick made c r left d
  AfterMade (Err error) c r left d = (r ≡ Ready (Err error)) × (left ≡ None) × (d ≡ c)

module _ {C : Type 0} (number nanos : C → ℕ) (sleeps : C → SleepTable) (work : C → Tasks ⊤) (reaches : C → C → Type 0) where
  -- The interval is made in the first poll.
  pub record TickMade (nanoseconds : ℕ) (c : C) (r : Poll (Result Instant SleepError)) (left : Option Interval) (d : C) : Type 0 where
    pub made : Result Interval SleepError
    pub middle : C
    pub makes : IntervalMade (sleeps c) (nanos c) nanoseconds made (sleeps middle)
    pub work_after : work middle ≡ work c
    pub reached : reaches c middle
    pub rest : AfterMade number nanos sleeps work made middle r left d

  abbrev pub IntervalPolls : Duration → Option Interval → C → Poll (Result Instant SleepError) → Option Interval → C → Type 0
  IntervalPolls period None c r left d = TickMade (as_nanos period) c r left d
  IntervalPolls period (Some made) c r left d = NextTick number nanos sleeps work made c r left d
