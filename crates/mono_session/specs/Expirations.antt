-- The next tick at which the clock may close a session.
use Rattle.std.specs.Prelude.{◌≡◌, ◌<◌, ◌≤◌, ℕ, true, false, Option, Some, None}
use Rattle.mono_model.specs.Table.{value_at}
use Rattle.mono_time.specs.SlotRegistration.{NextExpiration}
use Rattle.mono_time.specs.Timers.{sleeps_of, elapsed_tick, registered_of}
use Rattle.mono_session.specs.Keeper.{Session, Keeper, closing_tick, is_open}
use Rattle.mono_session.specs.declared.keeper.Sessions.{Sessions}

-- The first start of a slot of the wheel that has a session, or None if no session is open.
abbrev pub NextClose : Sessions → Option ℕ → Type 0
NextClose sessions next = NextExpiration (elapsed_tick sessions.timers) (registered_of sessions.timers) (sleeps_of sessions.timers) next

-- The tick is at most the closing tick of each open session. Without a tick no session is open.
abbrev pub IsInTime : Keeper → Option ℕ → Type 0
IsInTime k None = (s : ℕ) → is_open k s ≡ false
IsInTime k (Some tick) = (s : ℕ) (session : Session) → value_at k.sessions s ≡ Some session → tick ≤ closing_tick session

-- The tick is above the greatest tick of the clock so far, and a session is open.
abbrev pub IsAhead : Keeper → ℕ → Type 0
IsAhead k tick = (k.greatest < tick) × ((s : ℕ) × (is_open k s ≡ true))
