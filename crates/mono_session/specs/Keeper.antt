-- Leases that heartbeats renew, and the queues of keys in which their sessions wait.
use Rattle.std.specs.Prelude.{ℕ, ⊤, ◌+◌, ◌-◌, ◌^◌, Bool, false, not, ◌==◌, ◌&&◌, ◌||◌, if◌then◌else◌, List, [], ◌∷◌, ◌++◌, length, filter, Option, Some, None, Result, Ok, Err, is_some, nat_lt, nat_le}
use Rattle.mono_model.specs.Table.{Table, value_at, next_number, with_next, with_value, without, is_full}
use Rattle.mono_session.specs.declared.error.SessionError.{SessionError}
use Rattle.mono_session.specs.declared.error.SessionError.TheVariants.{AtCapacity, Invalid, NoSession, ZeroLimit, Doubled, NotIn}

-- A session has the tick of its last heartbeat, and the number of ticks for which it then stays open.
pub record Session : Type 0 where
  pub last_beat : ℕ
  pub limit : ℕ

-- The tick at which the clock closes it, unless a further heartbeat comes.
abbrev pub closing_tick : Session → ℕ
closing_tick session = session.last_beat + session.limit

-- A session in the queue of a key.
pub record Entry : Type 0 where
  pub session : ℕ
  pub key : ℕ

-- The open sessions, the entries of all queues in the order in which they were made, the greatest tick of the clock so
-- far, and the greatest numbers of sessions and entries.
pub record Keeper : Type 0 where
  pub sessions : Table Session
  pub entries : List Entry
  pub greatest : ℕ
  pub most_sessions : ℕ
  pub most_entries : ℕ

abbrev pub no_sessions : ℕ → ℕ → Keeper
no_sessions most_sessions most_entries = record { sessions = []; entries = []; greatest = 0; most_sessions = most_sessions; most_entries = most_entries }

-- The queue of a key: its sessions, the session that has been there for the longest time first.
abbrev pub queue_in : List Entry → ℕ → List ℕ
queue_in [] key = []
queue_in (entry ∷ entries) key = if entry.key == key then entry.session ∷ queue_in entries key else queue_in entries key

abbrev pub queue_of : Keeper → ℕ → List ℕ
queue_of keeper key = queue_in keeper.entries key

-- Whether the entry is that of the session in the queue of the key.
abbrev pub is_entry : ℕ → ℕ → Entry → Bool
is_entry s key entry = (entry.session == s) && (entry.key == key)

abbrev pub stands_in : List Entry → ℕ → ℕ → Bool
stands_in [] s key = false
stands_in (entry ∷ entries) s key = is_entry s key entry || stands_in entries s key

abbrev pub is_open : Keeper → ℕ → Bool
is_open keeper s = is_some (value_at keeper.sessions s)

-- The greatest tick.
abbrev pub last_tick : ℕ
last_tick = 2 ^ 63 - 1

abbrev pub with_sessions : Keeper → Table Session → Keeper
with_sessions keeper sessions = record { sessions = sessions; entries = keeper.entries; greatest = keeper.greatest; most_sessions = keeper.most_sessions; most_entries = keeper.most_entries }

abbrev pub with_entries : Keeper → List Entry → Keeper
with_entries keeper entries = record { sessions = keeper.sessions; entries = entries; greatest = keeper.greatest; most_sessions = keeper.most_sessions; most_entries = keeper.most_entries }

abbrev pub with_greatest : Keeper → ℕ → Keeper
with_greatest keeper tick = record { sessions = keeper.sessions; entries = keeper.entries; greatest = tick; most_sessions = keeper.most_sessions; most_entries = keeper.most_entries }

-- A refused call changes nothing.
abbrev pub if_granted : {A : Type 0} → Result A SessionError → Keeper → Keeper → Keeper
if_granted (Ok x) before after = after
if_granted (Err error) before after = before

-- The answer for an open session, and a refusal for any other.
abbrev pub of_open : {A : Type 0} → Option Session → (Session → Result A SessionError) → Result A SessionError
of_open None answer = Err NoSession
of_open (Some session) answer = answer session

-- A call opens a session, and its last heartbeat is now.
abbrev pub open_answer : Keeper → ℕ → Result ℕ SessionError
open_answer keeper limit =
    if is_full keeper.sessions keeper.most_sessions then Err AtCapacity
    else if nat_lt last_tick (keeper.greatest + limit) then Err Invalid
    else if limit == 0 then Err ZeroLimit
    else Ok (next_number keeper.sessions)

abbrev pub opened : Keeper → ℕ → Keeper
opened keeper limit =
    if_granted (open_answer keeper limit) keeper (with_sessions keeper (with_next keeper.sessions (record { last_beat = keeper.greatest; limit = limit })))

-- A heartbeat: the last heartbeat is now.
abbrev pub beat_answer : Keeper → ℕ → Result ⊤ SessionError
beat_answer keeper s =
    of_open (value_at keeper.sessions s) (λ session. if nat_lt last_tick (keeper.greatest + session.limit) then Err Invalid else Ok tt)

abbrev pub beaten_value : Option Session → Keeper → ℕ → Keeper
beaten_value None keeper s = keeper
beaten_value (Some session) keeper s = with_sessions keeper (with_value keeper.sessions s (record { last_beat = keeper.greatest; limit = session.limit }))

abbrev pub beaten : Keeper → ℕ → Keeper
beaten keeper s = if_granted (beat_answer keeper s) keeper (beaten_value (value_at keeper.sessions s) keeper s)

-- A session that is closed has left all queues, whose order stays.
abbrev pub close_answer : Keeper → ℕ → Result ⊤ SessionError
close_answer keeper s = of_open (value_at keeper.sessions s) (λ session. Ok tt)

abbrev pub without_session : Keeper → ℕ → Keeper
without_session keeper s = with_entries (with_sessions keeper (without keeper.sessions s)) (filter (λ entry. not (entry.session == s)) keeper.entries)

abbrev pub closed : Keeper → ℕ → Keeper
closed keeper s = if_granted (close_answer keeper s) keeper (without_session keeper s)

-- A session is appended to the queue of a key. The answer says whether it is the first there.
abbrev pub acquire_answer : Keeper → ℕ → ℕ → Result Bool SessionError
acquire_answer keeper s key =
    if nat_le keeper.most_entries (length keeper.entries) then Err AtCapacity
    else of_open (value_at keeper.sessions s) (λ session. if stands_in keeper.entries s key then Err Doubled else Ok (length (queue_of keeper key) == 0))

abbrev pub acquired : Keeper → ℕ → ℕ → Keeper
acquired keeper s key = if_granted (acquire_answer keeper s key) keeper (with_entries keeper (keeper.entries ++ record { session = s; key = key } ∷ []))

-- A session leaves the queue of a key.
abbrev pub release_answer : Keeper → ℕ → ℕ → Result ⊤ SessionError
release_answer keeper s key = of_open (value_at keeper.sessions s) (λ session. if stands_in keeper.entries s key then Ok tt else Err NotIn)

abbrev pub released : Keeper → ℕ → ℕ → Keeper
released keeper s key = if_granted (release_answer keeper s key) keeper (with_entries keeper (filter (λ entry. not (is_entry s key entry)) keeper.entries))

-- The first in the queue of a key.
abbrev pub first_of : List ℕ → Option ℕ
first_of [] = None
first_of (s ∷ queue) = Some s

abbrev pub owner_answer : Keeper → ℕ → Option ℕ
owner_answer keeper key = first_of (queue_of keeper key)
