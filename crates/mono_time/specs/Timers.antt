-- A table of timers as a table of sleeps.
use Rattle.std.specs.Prelude.{ℕ, ◌-◌, Option, Some, None, length}
use Rattle.mono_model.specs.Table.{table_of}
use Rattle.mono_wheel.specs.Credit.{credit, most_takes}
use Rattle.mono_time.specs.Sleeps.{Kept, SleepTable, fresh, armed, elapsed}
use Rattle.mono_time.specs.Representation.{kept_at}
use Rattle.mono_time.specs.SlotRegistration.{registered_at}
use Rattle.mono_time.specs.declared.timers.Timers.{Timers}

abbrev pub sleeps_of : Timers → SleepTable
sleeps_of timers = record {
  table = table_of (kept_at timers.wheel timers.keys timers.entries.items) (length timers.keys);
  greatest = timers.greatest;
  limit = timers.limit;
  is_enabled = timers.is_enabled;
}

-- The tick at which a sleep is armed, and the task that waits for it, if one does.
abbrev pub with_tick : ℕ → Option ℕ → Option (ℕ × ℕ)
with_tick tick None = None
with_tick tick (Some task) = Some (tick, task)

abbrev pub wait_in : Kept → Option (ℕ × ℕ)
wait_in (fresh tick) = None
wait_in (armed tick waker) = with_tick tick waker
wait_in elapsed = None

abbrev pub wait_of : Option Kept → Option (ℕ × ℕ)
wait_of None = None
wait_of (Some kept) = wait_in kept

-- The tick that the wheel has reached: the greatest tick, except during a clock step.
abbrev pub elapsed_tick : Timers → ℕ
elapsed_tick timers = timers.wheel.elapsed

-- The tick at which each sleep is registered while it is armed.
abbrev pub registered_of : Timers → ℕ → Option ℕ
registered_of timers s = registered_at timers.wheel timers.keys s

-- At most how many steps the wheel has still to take for the armed sleeps.
abbrev pub credit_left : Timers → ℕ
credit_left timers = credit timers.wheel

-- By how much a poll may raise that credit, since it arms a fresh sleep.
abbrev pub poll_raise : ℕ → Option Kept → ℕ
poll_raise reached None = 0
poll_raise reached (Some (fresh tick)) = most_takes (tick - reached)
poll_raise reached (Some (armed tick waker)) = 0
poll_raise reached (Some elapsed) = 0
