-- The answer and the effect of a sleep as a future, and the sleeps that are made.
use Rattle.std.specs.Prelude.{◌≡◌, ℕ, ◌+◌, ◌*◌, ◌^◌, ⊤, if◌then◌else◌, Option, Some, None, Result, Ok, Err, nat_le}
use Rattle.mono_model.specs.Ticks.{max_nanos}
use Rattle.mono_model.specs.Tasks.{Tasks}
use Rattle.mono_model.specs.Poll.{call_of}
use Rattle.mono_model.specs.declared.poll.Poll.{Poll}
use Rattle.mono_time.specs.Instants.{nanos_of}
use Rattle.mono_time.specs.Sleeps.{SleepTable, Added, sleep_poll_answer, with_polled_sleep, with_removed_sleep}
use Rattle.mono_model.specs.declared.error.Error.{Error}
use Rattle.mono_model.specs.declared.error.Error.TheVariants.{Invalid}
use Rattle.mono_model.specs.declared.error.SleepError.{SleepError}
use Rattle.mono_model.specs.declared.error.SleepError.TheVariants.{Timer}
use Rattle.mono_time.specs.declared.sleeps.Sleep.{Sleep}

-- A sleep was made for this deadline with the next number, or was refused.
abbrev pub SleepMade : SleepTable → ℕ → Result Sleep SleepError → SleepTable → Type 0
SleepMade old nanos (Ok sleep) new = (nanos_of sleep.deadline ≡ nanos) × Added old nanos (Ok sleep.number) new
SleepMade old nanos (Err error) new = Added old nanos (Err error) new

-- Thirty years of 365 days, in nanoseconds.
abbrev pub far_off : ℕ
far_off = 946080000 * 10 ^ 9

-- The deadline of a sleep for a duration; far off if it would be past the last instant.
abbrev pub deadline_after : ℕ → ℕ → Option ℕ
deadline_after now duration =
    if nat_le (now + duration) max_nanos then Some (now + duration)
    else if nat_le (now + far_off) max_nanos then Some (now + far_off)
    else None

module _ {C : Type 0} (sleeps : C → SleepTable) where
  -- A sleep for this deadline was made or refused; without a deadline nothing was done.
  abbrev pub SleepMadeAt : Option ℕ → C → Result Sleep SleepError → C → Type 0
  SleepMadeAt None c result d = (result ≡ Err (Timer Invalid)) × (d ≡ c)
  SleepMadeAt (Some nanos) c result d = SleepMade (sleeps c) nanos result (sleeps d)

module _ {C : Type 0} (number : C → ℕ) (sleeps : C → SleepTable) (work : C → Tasks ⊤) (reaches : C → C → Type 0) where
  -- Whether a poll of this sleep may give r and lead from c to d.
  pub record SleepPolls (s : Sleep) (c : C) (r : Poll (Result ⊤ Error)) (t : Sleep) (d : C) : Type 0 where
    pub answer : call_of r ≡ sleep_poll_answer (sleeps c) s.number
    pub sleep : t ≡ s
    pub sleeps_after : sleeps d ≡ with_polled_sleep (sleeps c) s.number (number c)
    pub work_after : work d ≡ work c
    pub reached : reaches c d

module _ {C : Type 0} (sleeps : C → SleepTable) (work : C → Tasks ⊤) (reaches : C → C → Type 0) where
  -- Whether giving up this sleep may lead from c to d.
  pub record SleepCancels (s : Sleep) (c d : C) : Type 0 where
    pub sleeps_after : sleeps d ≡ with_removed_sleep (sleeps c) s.number
    pub work_after : work d ≡ work c
    pub reached : reaches c d
