-- The source of an interval's tick.
use Rattle.std.specs.Prelude.{◌≡◌, ℕ, ⊤, Result, Ok, Err}
use Rattle.std.proofs.Common.{ap, refl}
use Rattle.mono_model.specs.Table.{value_at}
use Rattle.mono_model.specs.declared.error.Error.{Error}
use Rattle.mono_model.specs.declared.poll.Poll.{Poll}
use Rattle.mono_model.specs.declared.poll.Poll.TheVariants.{Ready, Pending}
use Rattle.mono_time.specs.Sleeps.{SleepTable, sleep_poll_answer}
use Rattle.mono_time.specs.Futures.{SleepPolls}
use Rattle.mono_time.specs.IntervalTicks.{TicksNot, TickAfter, TickPolls}
use Rattle.mono_time.specs.declared.instant.Instant.{Instant}
use Rattle.mono_time.specs.declared.intervals.Interval.{Interval}
use Rattle.mono_wait.specs.Frames.{Frame, CoversIn}
use Rattle.mono_wait.specs.Leaves.{SleepNeeds, sleeps_cover}
use Rattle.mono_wait.specs.Sources.{Source, of_sleep, waker_in}

-- its delay
abbrev pub TickNeeds : Interval → Source → Type 0
TickNeeds i x = SleepNeeds i.delay x

no_tick : (e : Error) → (let r : Result (Poll Instant) Error = Ok Pending in r ≡ Err e) → ⊥
no_tick e is = cc

module _ {C : Type 0} (w : Frame C) (nanos : C → ℕ) (sleeps : C → SleepTable) where
  -- A poll of a tick that is pending is a poll of its delay.
  polls_delay : (i : Interval) (c : C) (j : Interval) (d : C) → Ok Pending ≡ sleep_poll_answer (sleeps c) i.delay.number → TicksNot w.number nanos sleeps w.work i c j d → w.work d ≡ w.work c → w.reaches c d
      → SleepPolls w.number sleeps w.work w.reaches i.delay c Pending j.delay d
  polls_delay i c j d told stays worked reached = record {
    answer = told;
    sleep = ap (λ k. k.delay) stays.same;
    sleeps_after = stays.sleeps_after;
    work_after = worked;
    reached = reached;
  }

  by_answer : (a : Result (Poll ⊤) Error) (i : Interval) (c : C) (j : Interval) (d : C) → a ≡ sleep_poll_answer (sleeps c) i.delay.number → TickAfter w.number nanos sleeps w.work a i c (Ok Pending) j d → w.work d ≡ w.work c → w.reaches c d
      → SleepPolls w.number sleeps w.work w.reaches i.delay c Pending j.delay d
  by_answer (Err e) i c j d told after worked reached = absurd (no_tick e after.0)
  by_answer (Ok Pending) i c j d told after worked reached = polls_delay i c j d told after.1 worked reached
  by_answer (Ok (Ready x)) i c j d told after worked reached = absurd after

  module _ (same_number : (a b : C) → w.reaches a b → w.number b ≡ w.number a) (watches : (c : C) (s : ℕ) → w.watcher c (of_sleep s) ≡ waker_in (value_at (sleeps c).table s)) where
    pub ticks_cover : (i : Interval) (c : C) (j : Interval) (d : C) → TickPolls w.number nanos sleeps w.work i c (Ok Pending) j d → w.reaches c d → CoversIn w c d (TickNeeds j)
    ticks_cover i c j d q reached =
        sleeps_cover w.number sleeps w.work w.reaches w.watcher w.itself same_number watches i.delay c j.delay d (by_answer (sleep_poll_answer (sleeps c) i.delay.number) i c j d refl q.0 q.1 reached)
