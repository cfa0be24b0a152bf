-- Laws that hold over any calls of a broadcast.
use Rattle.std.specs.Prelude.{true, false, ◌≡◌, ◌<◌, ◌≤◌, ◌+◌, ◌⊎◌, ℕ, List, [], ◌∷◌, ◌++◌, length, slice_index_or, Option, Some, None, Ok}
use Rattle.mono_sync.specs.Runs.{Run}
use Rattle.mono_locks.specs.declared.queues.Asked.{Asked}
use Rattle.mono_locks.specs.declared.queues.Asked.TheVariants as asked
use Rattle.mono_locks.specs.declared.broadcast.Broadcast.{Broadcast}
use Rattle.mono_locks.specs.declared.broadcast.Received.{Received}
use Rattle.mono_locks.specs.Laws.{Rises, IsPlaceOf}
use Rattle.mono_locks.specs.Broadcasts.{owed_by, listed_by, Gets, Receives, GivesUp}
use Rattle.mono_locks.specs.BroadcastRuns.{Event, Step, all_sent}

-- The channel keeps the last of the messages that it had and that were sent, in order, at most as many as its capacity.
abbrev pub KeepsTheLast : Type 0 → Type 0
KeepsTheLast T = (es : List (Event T)) (a b : Broadcast T) → Run Step a es b
    → ((gone : List T) × (gone ++ b.messages.items ≡ a.messages.items ++ all_sent es)) × (b.sent ≡ a.sent + length (all_sent es)) × (length a.messages.items ≤ a.capacity → length b.messages.items ≤ b.capacity)

-- A message that a receiver gets at the i-th number since it subscribed is the i-th that was sent since. Then the next
-- number is due. So it gets each message, in order, or is told how many it missed.
abbrev pub GetsEachInOrder : Type 0 → Type 0
GetsEachInOrder T = (es : List (Event T)) (a b : Broadcast T) (i next : ℕ) (x : T) → length a.messages.items ≤ a.sent → Run Step a es b → Gets b (a.sent + i) next (Ok x)
    → (i < length (all_sent es)) × (x ≡ slice_index_or (all_sent es) i x) × (next ≡ a.sent + i + 1)

-- A channel that was closed stays closed, and takes no message.
abbrev pub NothingAfterClose : Type 0 → Type 0
NothingAfterClose T = (es : List (Event T)) (a b : Broadcast T) → a.is_closed ≡ true → Run Step a es b → (b.is_closed ≡ true) × (all_sent es ≡ [])

-- While a task waits and nothing is owed, whatever was called, the channel is open, and the task came after the last send.
abbrev pub NoBroadcastLiesIdle : Type 0 → Type 0
NoBroadcastLiesIdle T = (es : List (Event T)) (a b : Broadcast T) (k t : ℕ) → Rises 0 a.queue.waiters.items a.queue.next → Run Step a es b → owed_by b ≡ [] → listed_by b (k ∷ []) t ≡ true
    → (b.is_closed ≡ false) × (b.cleared ≤ k)

-- A future that is pending is listed with its task, at its ticket.
abbrev pub PendingRecvIsListed : Type 0 → Type 0
PendingRecvIsListed T = (a b : Broadcast T) (n : ℕ) (ticket : Option ℕ) (me k : ℕ)
    → (Receives a n (Some k) me asked.Waits b → listed_by b (k ∷ []) me ≡ true) × (Receives a n ticket me (asked.Joined k) b → listed_by b (k ∷ []) me ≡ true)

-- A future that asks or is given up takes nobody out but its own task, at its own ticket.
abbrev pub RecvTakesOutItsOwn : Type 0 → Type 0
RecvTakesOutItsOwn T = (a b : Broadcast T) (n : ℕ) (ticket : Option ℕ) (me : ℕ) (p : List ℕ) (t : ℕ) → listed_by a p t ≡ true
    → ((r : Asked (Received T)) → Receives a n ticket me r b → (listed_by b p t ≡ true) ⊎ ((t ≡ me) × IsPlaceOf ticket p)) × (GivesUp a ticket me b → (listed_by b p t ≡ true) ⊎ ((t ≡ me) × IsPlaceOf ticket p))
