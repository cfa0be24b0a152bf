-- Sleeps as callers of the timers see them: by their numbers, each with its latest waker alone.
use Rattle.std.specs.Prelude.{◌≡◌, ◌<◌, ◌≤◌, ℕ, max, ⊤, Bool, true, false, if◌then◌else◌, [], Option, Some, None, Result, Ok, Err, nat_le, count_by}
use Rattle.mono_model.specs.Ticks.{up, down}
use Rattle.mono_model.specs.Table.{Table, value_at, next_number, is_full, with_next, with_value, without}
use Rattle.mono_model.specs.SleepAnswers.{poll_of}
use Rattle.mono_model.specs.declared.poll.Poll.{Poll}
use Rattle.mono_model.specs.declared.error.Error.{Error}
use Rattle.mono_model.specs.declared.error.Error.TheVariants.{Shutdown, AtCapacity, Invalid}
use Rattle.mono_model.specs.declared.error.SleepError.{SleepError}
use Rattle.mono_model.specs.declared.error.SleepError.TheVariants.{Memory, Timer}

-- A sleep for a tick that was never polled or reset, an armed sleep with its tick and the task that polled it last, or
-- an elapsed sleep. Only an armed sleep has a waker.
pub data Kept : Type 0 where
  fresh : (tick : ℕ) → Kept
  armed : (tick : ℕ) → (waker : Option ℕ) → Kept
  elapsed : Kept

-- The live sleeps by their numbers, the greatest tick of the clock so far, how many sleeps may live, and whether there
-- are timers at all.
pub record SleepTable : Type 0 where
  pub table : Table Kept
  pub greatest : ℕ
  pub limit : ℕ
  pub is_enabled : Bool

abbrev pub empty_sleep_table : ℕ → Bool → SleepTable
empty_sleep_table limit is_enabled = record { table = []; greatest = 0; limit = limit; is_enabled = is_enabled }

abbrev pub with_table : SleepTable → Table Kept → SleepTable
with_table sleeps table = record { table = table; greatest = sleeps.greatest; limit = sleeps.limit; is_enabled = sleeps.is_enabled }

abbrev pub kept_waker : Kept → Option ℕ
kept_waker (fresh tick) = None
kept_waker (armed tick waker) = waker
kept_waker elapsed = None

-- The sleep armed at a tick, or elapsed if the tick is at most the greatest so far.
abbrev pub at_tick : ℕ → ℕ → Option ℕ → Kept
at_tick greatest tick waker = if nat_le tick greatest then elapsed else armed tick waker

-- The table after one sleep changes, if it is live.
abbrev pub changed_value : Option Kept → SleepTable → ℕ → (Kept → Kept) → SleepTable
changed_value None sleeps s change = sleeps
changed_value (Some kept) sleeps s change = with_table sleeps (with_value sleeps.table s (change kept))

abbrev pub changed : SleepTable → ℕ → (Kept → Kept) → SleepTable
changed sleeps s change = changed_value (value_at sleeps.table s) sleeps s change

-- The answer for a sleep, or the refusal if no live sleep has the number.
abbrev pub of_live_sleep : {A : Type 0} → Option Kept → (Kept → A) → Result A Error
of_live_sleep None answer = Err Shutdown
of_live_sleep (Some kept) answer = Ok (answer kept)

-- The table after an addition: the new sleep has the next number and is fresh. An addition is refused without timers,
-- then if no further sleep is given out, and last if out of memory. A refusal changes nothing.
abbrev pub with_added_sleep : SleepTable → ℕ → SleepTable
with_added_sleep sleeps tick = with_table sleeps (with_next sleeps.table (fresh tick))

abbrev pub Added : SleepTable → ℕ → Result ℕ SleepError → SleepTable → Type 0
Added old nanos (Ok number) new =
    (old.is_enabled ≡ true) × (is_full old.table old.limit ≡ false) × (number ≡ next_number old.table) × (new ≡ with_added_sleep old (up nanos))
Added old nanos (Err (Timer Shutdown)) new = (old.is_enabled ≡ false) × (new ≡ old)
Added old nanos (Err (Timer AtCapacity)) new = (old.is_enabled ≡ true) × (is_full old.table old.limit ≡ true) × (new ≡ old)
Added old nanos (Err (Timer Invalid)) new = ⊥
Added old nanos (Err Memory) new = (old.is_enabled ≡ true) × (is_full old.table old.limit ≡ false) × (new ≡ old)

-- The sleep after a poll by a task. A fresh sleep is armed first. An elapsed sleep is ready; the task becomes the waker
-- of any other.
abbrev pub polled_kept : ℕ → ℕ → Kept → Kept
polled_kept greatest by (fresh tick) = at_tick greatest tick (Some by)
polled_kept greatest by (armed tick waker) = armed tick (Some by)
polled_kept greatest by elapsed = elapsed

abbrev pub is_kept_ready : ℕ → Kept → Bool
is_kept_ready greatest (fresh tick) = nat_le tick greatest
is_kept_ready greatest (armed tick waker) = false
is_kept_ready greatest elapsed = true

abbrev pub sleep_poll_answer : SleepTable → ℕ → Result (Poll ⊤) Error
sleep_poll_answer sleeps s = of_live_sleep (value_at sleeps.table s) (λ kept. poll_of (is_kept_ready sleeps.greatest kept))

abbrev pub with_polled_sleep : SleepTable → ℕ → ℕ → SleepTable
with_polled_sleep sleeps s by = changed sleeps s (polled_kept sleeps.greatest by)

-- The waker that a reset to a tick hands out: the sleep's, if it elapses at once. Otherwise the sleep keeps it.
abbrev pub woken_by_reset : ℕ → ℕ → Kept → Option ℕ
woken_by_reset greatest tick kept = if nat_le tick greatest then kept_waker kept else None

abbrev pub sleep_reset_answer : SleepTable → ℕ → ℕ → Result (Option ℕ) Error
sleep_reset_answer sleeps s nanos = of_live_sleep (value_at sleeps.table s) (woken_by_reset sleeps.greatest (up nanos))

abbrev pub with_reset_sleep : SleepTable → ℕ → ℕ → SleepTable
with_reset_sleep sleeps s nanos = changed sleeps s (λ kept. at_tick sleeps.greatest (up nanos) (kept_waker kept))

-- The answer of a removal. A removed sleep wakes no task.
abbrev pub sleep_remove_answer : SleepTable → ℕ → Result ⊤ Error
sleep_remove_answer sleeps s = of_live_sleep (value_at sleeps.table s) (λ kept. tt)

abbrev pub removed_value : Option Kept → SleepTable → ℕ → SleepTable
removed_value None sleeps s = sleeps
removed_value (Some kept) sleeps s = with_table sleeps (without sleeps.table s)

abbrev pub with_removed_sleep : SleepTable → ℕ → SleepTable
with_removed_sleep sleeps s = removed_value (value_at sleeps.table s) sleeps s

abbrev pub is_kept_elapsed : Kept → Bool
is_kept_elapsed (fresh tick) = false
is_kept_elapsed (armed tick waker) = false
is_kept_elapsed elapsed = true

abbrev pub sleep_elapsed_answer : SleepTable → ℕ → Result Bool Error
sleep_elapsed_answer sleeps s = of_live_sleep (value_at sleeps.table s) is_kept_elapsed

-- The table when the clock shows n: the greatest tick is the greater of itself and the tick of n.
abbrev pub at_clock_tick : SleepTable → ℕ → SleepTable
at_clock_tick sleeps nanos = record { table = sleeps.table; greatest = max sleeps.greatest (down nanos); limit = sleeps.limit; is_enabled = sleeps.is_enabled }

-- The table after a sleep has fired: it has elapsed.
abbrev pub with_fired_sleep : SleepTable → ℕ → SleepTable
with_fired_sleep sleeps s = with_table sleeps (with_value sleeps.table s elapsed)

-- No armed sleep has a tick up to the greatest.
abbrev pub IsNoneArmedUpTo : SleepTable → Type 0
IsNoneArmedUpTo sleeps = (s tick : ℕ) (waker : Option ℕ) → value_at sleeps.table s ≡ Some (armed tick waker) → sleeps.greatest < tick

-- Some sleep is armed.
abbrev pub IsOneArmed : SleepTable → Type 0
IsOneArmed sleeps = (s : ℕ) × ((tick : ℕ) × ((waker : Option ℕ) × (value_at sleeps.table s ≡ Some (armed tick waker))))

-- The sleep is armed with this waker at a tick up to the greatest, and no sleep is armed at a lower tick.
pub record IsFiredFirst (sleeps : SleepTable) (s : ℕ) (waker : Option ℕ) : Type 0 where
  pub tick : ℕ
  pub is_armed_there : value_at sleeps.table s ≡ Some (armed tick waker)
  pub is_due : tick ≤ sleeps.greatest
  pub is_least : (other later : ℕ) (task : Option ℕ) → value_at sleeps.table other ≡ Some (armed later task) → tick ≤ later

-- Whether a sleep is armed; the table counts the armed ones.
abbrev pub is_armed : Option Kept → Bool
is_armed None = false
is_armed (Some (fresh tick)) = false
is_armed (Some (armed tick waker)) = true
is_armed (Some elapsed) = false

abbrev pub armed_count : SleepTable → ℕ
armed_count sleeps = count_by is_armed sleeps.table
