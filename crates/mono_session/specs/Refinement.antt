-- The refinement of a keeper by the tables of its sessions and queues.
use Rattle.std.specs.Prelude.{◌≡◌, ◌<◌, ◌≤◌, ℕ, true, map, Option, Some, None}
use Rattle.mono_model.specs.Table.{value_at, next_number, count_of}
use Rattle.mono_time.specs.Sleeps.{Kept, armed, SleepTable}
use Rattle.mono_time.specs.Timers.{sleeps_of, elapsed_tick, credit_left}
use Rattle.mono_session.specs.Keeper.{Session, Keeper, closing_tick}
use Rattle.mono_session.specs.Entries.{Entered, entry_count}
use Rattle.mono_session.specs.declared.keeper.Sessions.{Sessions}

-- An open session has a sleep that is armed at its closing tick, and that wakes no task.
abbrev pub sleep_of : Option Session → Option Kept
sleep_of None = None
sleep_of (Some session) = Some (armed (closing_tick session) None)

abbrev pub sleeps_from : Keeper → SleepTable
sleeps_from keeper = record { table = map sleep_of keeper.sessions; greatest = keeper.greatest; limit = keeper.most_sessions; is_enabled = true }

abbrev pub limit_in : Option Session → Option ℕ
limit_in None = None
limit_in (Some session) = Some session.limit

-- The number of open sessions.
abbrev pub open_count : Sessions → ℕ
open_count sessions = count_of sessions.limits.table

-- The number of entries in all queues.
abbrev pub entries_len : Sessions → ℕ
entries_len sessions = entry_count sessions.entries

-- The greatest number of steps that the wheel has still to take for the open sessions.
abbrev pub steps_left : Sessions → ℕ
steps_left sessions = credit_left sessions.timers

-- The limits and the entries are those of the keeper.
pub record Beside (sessions : Sessions) (keeper : Keeper) : Type 0 where
  pub limits : (s : ℕ) → value_at sessions.limits.table s ≡ limit_in (value_at keeper.sessions s)
  pub numbers : next_number sessions.limits.table ≡ next_number keeper.sessions
  pub open_len : open_count sessions ≡ count_of keeper.sessions
  pub entries : Entered sessions.entries keeper.entries
  pub most_entries : sessions.most_entries ≡ keeper.most_entries

-- So are the timers.
pub record Matches (sessions : Sessions) (keeper : Keeper) : Type 0 where
  pub sleeps : sleeps_of sessions.timers ≡ sleeps_from keeper
  pub beside : Beside sessions keeper

-- No heartbeat of an open session is after the greatest tick, and the session is closed at a later one.
abbrev pub AreTimely : Keeper → Type 0
AreTimely keeper = (s : ℕ) (session : Session) → value_at keeper.sessions s ≡ Some session → (session.last_beat ≤ keeper.greatest) × (keeper.greatest < closing_tick session)

-- The tables refine the keeper, in which no session is late, and no clock step is running. Each call on the sessions is
-- a step of the keeper.
pub record StandsFor (sessions : Sessions) (keeper : Keeper) : Type 0 where
  pub matches : Matches sessions keeper
  pub timely : AreTimely keeper
  pub rests : elapsed_tick sessions.timers ≡ keeper.greatest
