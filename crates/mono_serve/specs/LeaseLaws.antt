-- Laws that hold over any calls of leases by any tasks.
use Rattle.std.specs.Prelude.{◌≡◌, ◌<◌, ◌≤◌, ◌==◌, ◌&&◌, ◌||◌, ◌⊎◌, ℕ, Bool, true, false, List, [], ◌∷◌, length, get_or, Option, Some, None, nat_lt}
use Rattle.mono_model.specs.Table.{value_at}
use Rattle.mono_session.specs.Calls.{Call}
use Rattle.mono_session.specs.Calls as call
use Rattle.mono_session.specs.Expirations.{IsInTime}
use Rattle.mono_session.specs.Holders.{waits}
use Rattle.mono_session.specs.Keeper.{Keeper, Session, closing_tick, is_open, owner_answer}
use Rattle.mono_session.specs.Laws.{is_on}
use Rattle.mono_session.specs.Refinement.{StandsFor}
use Rattle.mono_sync.specs.Runs.{Run}
use Rattle.mono_serve.specs.declared.leases.LockWaiter.{LockWaiter}
use Rattle.mono_serve.specs.declared.leases.Leases.{Leases}
use Rattle.mono_serve.specs.declared.leases.Claimed.{Claimed}
use Rattle.mono_serve.specs.declared.leases.Claimed.TheVariants as claim
use Rattle.mono_serve.specs.declared.leases.Looked.{Looked}
use Rattle.mono_serve.specs.declared.leases.Looked.TheVariants as look
use Rattle.mono_serve.specs.LeaseCalls.{listed_in, owed_by, Settles, Event, shown, called, claimed, looked, gave_up, served, noted, rested, forgot, handed, Step}

-- The call on the sessions after the clock step, if the event has one.
abbrev pub looked_call : ℕ → ℕ → Looked → Option Call
looked_call s key (look.Waits t) = None
looked_call s key look.Held = None
looked_call s key look.Lost = None
looked_call s key look.Memory = Some (call.Release s key)

abbrev pub call_of : Event → Option Call
call_of (shown nanos r) = None
call_of (called nanos c r) = Some c
call_of (claimed nanos s key task r) = Some (call.Acquire s key)
call_of (looked nanos ticket s key task r) = looked_call s key r
call_of (gave_up ticket s key me) = Some (call.Release s key)
call_of (served task) = None
call_of noted = None
call_of (rested task tick) = None
call_of (forgot task) = None
call_of (handed task) = None

-- Whether one of the events has such a call.
abbrev pub is_such : (Call → Bool) → Option Call → Bool
is_such such None = false
is_such such (Some c) = such c

abbrev pub has_such : (Call → Bool) → List Event → Bool
has_such such [] = false
has_such such (e ∷ es) = is_such such (call_of e) || has_such such es

-- A session that no call renews or closes is open if and only if the clock has not reached its closing tick.
abbrev pub ClosesOnTime : Type 0
ClosesOnTime = (es : List Event) (u v : Leases) (k : Keeper) (s : ℕ) (session : Session) → StandsFor u.sessions k → value_at k.sessions s ≡ Some session → has_such (is_on s) es ≡ false → Run Step u es v
    → (l : Keeper) × StandsFor v.sessions l × (is_open l s ≡ nat_lt l.greatest (closing_tick session))

-- Whether the call takes the session out of the queue of the key.
abbrev pub ends_hold : ℕ → ℕ → Call → Bool
ends_hold s key (call.Open limit) = false
ends_hold s key (call.Beat t) = false
ends_hold s key (call.Close t) = t == s
ends_hold s key (call.Acquire t at) = false
ends_hold s key (call.Release t at) = (t == s) && (at == key)
ends_hold s key (call.Owner at) = false
ends_hold s key (call.Clock n) = false

-- The event tells a future that the session holds the key.
abbrev pub TellsHeld : ℕ → ℕ → Event → Type 0
TellsHeld s key (claimed nanos t at task claim.Held) = (t ≡ s) × (at ≡ key)
TellsHeld s key (looked nanos ticket t at task look.Held) = (t ≡ s) × (at ≡ key)
TellsHeld s key e = ⊥

-- Once a future was told that its session holds a key, no other session holds the key until the session releases it or
-- is closed.
abbrev pub OneHolder : Type 0
OneHolder = (e : Event) (es : List Event) (u m v : Leases) (k : Keeper) (s key : ℕ) → StandsFor u.sessions k → TellsHeld s key e → Step u e m → has_such (ends_hold s key) es ≡ false → Run Step m es v
    → (l : Keeper) × StandsFor v.sessions l × (is_open l s ≡ true → owner_answer l key ≡ Some s)

-- After a call, the session of each task in the line is in its key's queue behind another: the key is held.
abbrev pub NoWakeIsLost : Type 0
NoWakeIsLost = (a b : Leases) (k : Keeper) → StandsFor a.sessions k → Settles a b → (i : ℕ) (w : LockWaiter) → i < length b.waiters.items → w ≡ get_or b.waiters.items i w → waits k w.session w.key ≡ true

-- While a task waits at a key and nothing is owed, its session is in the key's queue behind another: the key is held.
abbrev pub KeyIsHeld : Type 0
KeyIsHeld = (a b : Leases) (k : Keeper) → StandsFor a.sessions k → Settles a b → owed_by b ≡ [] → (key ticket t : ℕ) → listed_in b (key ∷ ticket ∷ []) t ≡ true → (s : ℕ) × (waits k s key ≡ true)

-- A keeper that is owed no wake after a call sleeps at most until a session is to be closed.
abbrev pub KeeperIsInTime : Type 0
KeeperIsInTime = (a b : Leases) (k : Keeper) → StandsFor a.sessions k → Settles a b → owed_by b ≡ [] → (b.keeper ≡ None) ⊎ IsInTime k b.alarm
