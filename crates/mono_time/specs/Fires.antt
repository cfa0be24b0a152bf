-- Sleeps that fire one after another, each with its waker, until none is due.
use Rattle.std.specs.Prelude.{◌≡◌, ℕ, List, [], ◌∷◌, ◌++◌, Option}
use Rattle.mono_model.specs.Sleeps.{Sleeps}
use Rattle.mono_model.specs.FireOrder.{IsFirstDue, IsNoneDue}
use Rattle.mono_model.specs.SleepActs as machine
use Rattle.mono_time.specs.Sleeps.{SleepTable, with_fired_sleep, at_clock_tick, IsNoneArmedUpTo, IsFiredFirst}
use Rattle.mono_time.specs.Refinement.{StandsForSleeps}
use Rattle.mono_time.specs.Timers.{sleeps_of}
use Rattle.mono_time.specs.declared.timers.Timers.{Timers}

-- The firings in the callers' table of sleeps.
abbrev pub FireEach : SleepTable → List (ℕ × Option ℕ) → SleepTable → Type 0
FireEach old [] new = IsNoneArmedUpTo old × (new ≡ old)
FireEach old (one ∷ more) new = IsFiredFirst old one.0 one.1 × FireEach (with_fired_sleep old one.0) more new

-- The firings among the sleeps of the machine.
abbrev pub MachineFires : Sleeps → List (ℕ × Option ℕ) → Sleeps → Type 0
MachineFires old [] new = IsNoneDue old.table old.greatest × (new ≡ old)
MachineFires old (one ∷ more) new = IsFirstDue old.table old.greatest one.0 × (one.1 ≡ machine.waker_at old one.0) × MachineFires (machine.fired old one.0) more new

-- A whole clock step to a reading was done: these sleeps fired, and were appended to the list.
pub record FiredAll (old new : Timers) (nanos : ℕ) (before after : List (ℕ × Option ℕ)) : Type 0 where
  pub all : List (ℕ × Option ℕ)
  pub behind : after ≡ before ++ all
  pub fires : FireEach (at_clock_tick (sleeps_of old) nanos) all (sleeps_of new)
  pub stands : (m : Sleeps) → StandsForSleeps old m → (left : Sleeps) × MachineFires (machine.at_clock m nanos) all left × StandsForSleeps new left
