-- The table of retries: by number a schedule, and a sleep that is armed while the retry waits.
use Rattle.std.specs.Prelude.{◌≡◌, ℕ, map, option_map, Option, Some, None}
use Rattle.mono_model.specs.Table.{Table, value_at, count_of}
use Rattle.mono_time.specs.Sleeps.{SleepTable, Kept, fresh, armed, elapsed}
use Rattle.mono_limit.specs.Schedules.{IsSound}
use Rattle.mono_limit.specs.declared.schedules.Schedule.{Schedule}

-- The tick of an armed sleep.
abbrev pub armed_tick : Kept → Option ℕ
armed_tick (fresh tick) = None
armed_tick (armed tick waker) = Some tick
armed_tick elapsed = None

abbrev pub wait_of : Schedule → Option ℕ
wait_of retry = retry.waits_for

-- Each live retry has the live sleep of its number, which is armed at the tick for which it waits.
pub record Holds (rows : Table Schedule) (sleeps : SleepTable) (live : ℕ) : Type 0 where
  pub waits : map (option_map wait_of) rows ≡ map (option_map armed_tick) sleeps.table
  pub sound : (r : ℕ) (retry : Schedule) → value_at rows r ≡ Some retry → IsSound retry
  pub live_count : live ≡ count_of rows
