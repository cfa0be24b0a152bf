-- The sleep that an entry of the timers describes.
use Rattle.std.specs.Prelude.{ℕ, Bool, true, false, Option, Some, None}
use Rattle.mono_wheel.specs.Model.{Timed}
use Rattle.mono_time.specs.Sleeps.{Kept, fresh, armed, elapsed}
use Rattle.mono_time.specs.declared.entry.State.{State}
use Rattle.mono_time.specs.declared.entry.State.TheVariants.{Fresh, Unwatched, Armed, Elapsed}
use Rattle.mono_time.specs.declared.entry.Entry.{Entry}

abbrev pub is_armed_state : State → Bool
is_armed_state (Fresh tick) = false
is_armed_state Unwatched = true
is_armed_state (Armed task) = true
is_armed_state Elapsed = false

abbrev pub is_elapsed_state : State → Bool
is_elapsed_state (Fresh tick) = false
is_elapsed_state Unwatched = false
is_elapsed_state (Armed task) = false
is_elapsed_state Elapsed = true

abbrev pub waker_in_state : State → Option ℕ
waker_in_state (Fresh tick) = None
waker_in_state Unwatched = None
waker_in_state (Armed task) = Some task
waker_in_state Elapsed = None

-- The armed state with this waker.
abbrev pub armed_with : Option ℕ → State
armed_with None = Unwatched
armed_with (Some task) = Armed task

-- The tick of a sleep that was never armed.
abbrev pub fresh_tick : State → ℕ
fresh_tick (Fresh tick) = tick
fresh_tick Unwatched = 0
fresh_tick (Armed task) = 0
fresh_tick Elapsed = 0

abbrev pub tick_in : Option Timed → ℕ
tick_in None = 0
tick_in (Some timed) = timed.tick

-- The sleep, with the ticks of its key.
abbrev pub kept_in : Option Timed → State → Kept
kept_in timed (Fresh tick) = fresh tick
kept_in timed Unwatched = armed (tick_in timed) None
kept_in timed (Armed task) = armed (tick_in timed) (Some task)
kept_in timed Elapsed = elapsed

abbrev pub kept_of : Option Timed → Option Entry → Option Kept
kept_of timed None = None
kept_of timed (Some entry) = Some (kept_in timed entry.state)

abbrev pub owner_of : Option Entry → Option ℕ
owner_of None = None
owner_of (Some entry) = Some entry.sleep

abbrev pub is_armed_entry : Option Entry → Bool
is_armed_entry None = false
is_armed_entry (Some entry) = is_armed_state entry.state

abbrev pub fresh_tick_of : Option Entry → ℕ
fresh_tick_of None = 0
fresh_tick_of (Some entry) = fresh_tick entry.state
