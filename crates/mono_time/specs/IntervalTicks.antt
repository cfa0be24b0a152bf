-- The ticks of an interval, and the answer and effect of a poll.
use Rattle.std.specs.Prelude.{◌≡◌, ℕ, ⊤, false, true, Result, Ok, Err, nat_le}
use Rattle.std.specs.Duration.{as_nanos}
use Rattle.mono_model.specs.Ticks.{max_nanos}
use Rattle.mono_model.specs.Tasks.{Tasks}
use Rattle.mono_model.specs.declared.poll.Poll.{Poll}
use Rattle.mono_model.specs.declared.poll.Poll.TheVariants.{Ready, Pending}
use Rattle.mono_time.specs.Instants.{nanos_of}
use Rattle.mono_time.specs.Sleeps.{SleepTable, Added, sleep_poll_answer, with_polled_sleep, with_reset_sleep}
use Rattle.mono_model.specs.declared.error.Error.{Error}
use Rattle.mono_model.specs.declared.error.Error.TheVariants.{Invalid}
use Rattle.mono_model.specs.declared.error.SleepError.{SleepError}
use Rattle.mono_time.specs.declared.instant.Instant.{Instant}
use Rattle.mono_time.specs.MissedTicks.{next_deadline}
use Rattle.mono_time.specs.declared.missed_ticks.MissedTickBehavior.TheVariants.{Burst}
use Rattle.mono_time.specs.declared.intervals.Interval.{Interval}

-- An interval was made, whose delay is a sleep with the next number for this start, or it was refused.
abbrev pub IntervalMade : SleepTable → ℕ → ℕ → Result Interval SleepError → SleepTable → Type 0
IntervalMade old start period (Ok interval) new =
    (nanos_of interval.delay.deadline ≡ start) × (as_nanos interval.period ≡ period) × (interval.behavior ≡ Burst) × Added old start (Ok interval.delay.number) new
IntervalMade old start period (Err error) new = Added old start (Err error) new

-- What the future of the next tick may answer: the interval's deadline, or a refusal.
abbrev pub TickGives : Interval → Result Instant Error → Type 0
TickGives i (Ok tick) = tick ≡ i.delay.deadline
TickGives i (Err error) = ⊤

module _ {C : Type 0} (number nanos : C → ℕ) (sleeps : C → SleepTable) (work : C → Tasks ⊤) where
  abbrev pub next_of : Interval → C → ℕ
  next_of i c = next_deadline i.behavior (nanos_of i.delay.deadline) (as_nanos i.period) (nanos c)

  -- The interval ticks, and its delay moves to the next deadline.
  pub record Ticks (i : Interval) (c : C) (tick : Instant) (j : Interval) (d : C) : Type 0 where
    pub is_deadline : tick ≡ i.delay.deadline
    pub within : nat_le (next_of i c) max_nanos ≡ true
    pub next : nanos_of j.delay.deadline ≡ next_of i c
    pub same_number : j.delay.number ≡ i.delay.number
    pub same_period : j.period ≡ i.period
    pub same_behavior : j.behavior ≡ i.behavior
    pub sleeps_after : sleeps d ≡ with_reset_sleep (with_polled_sleep (sleeps c) i.delay.number (number c)) i.delay.number (next_of i c)

  -- The delay was polled, and nothing else happened.
  pub record TicksNot (i : Interval) (c : C) (j : Interval) (d : C) : Type 0 where
    pub same : j ≡ i
    pub sleeps_after : sleeps d ≡ with_polled_sleep (sleeps c) i.delay.number (number c)

  -- The outcome of a poll, by the answer of its delay.
  abbrev pub TickAfter : Result (Poll ⊤) Error → Interval → C → Result (Poll Instant) Error → Interval → C → Type 0
  TickAfter (Err error) i c result j d = (result ≡ Err error) × TicksNot i c j d
  TickAfter (Ok Pending) i c result j d = (result ≡ Ok Pending) × TicksNot i c j d
  TickAfter (Ok (Ready x)) i c (Ok (Ready tick)) j d = Ticks i c tick j d
  TickAfter (Ok (Ready x)) i c (Ok Pending) j d = ⊥
  TickAfter (Ok (Ready x)) i c (Err error) j d = (error ≡ Invalid) × (nat_le (next_of i c) max_nanos ≡ false) × TicksNot i c j d

  abbrev pub TickPolls : Interval → C → Result (Poll Instant) Error → Interval → C → Type 0
  TickPolls i c result j d = TickAfter (sleep_poll_answer (sleeps c) i.delay.number) i c result j d × (work d ≡ work c)
