-- Laws that hold over any calls of a mutex.
use Rattle.std.specs.Prelude.{true, ◌≡◌, ◌≤◌, ◌+◌, ◌⊎◌, ℕ, List, [], ◌∷◌, ◌++◌, length, Option, Some, None}
use Rattle.mono_sync.specs.Runs.{Run}
use Rattle.mono_locks.specs.declared.queues.Asked.{Asked}
use Rattle.mono_locks.specs.declared.queues.Asked.TheVariants as asked
use Rattle.mono_locks.specs.declared.queues.Entry.{Entry}
use Rattle.mono_locks.specs.declared.mutex.Mutex.{Mutex}
use Rattle.mono_locks.specs.declared.mutex.MutexGuard.{MutexGuard}
use Rattle.mono_locks.specs.Laws.{Rises, AskAtMost, IsPlaceOf}
use Rattle.mono_locks.specs.Queues.{holder_of}
use Rattle.mono_locks.specs.Mutexes.{free, owed_by, listed_by, Locks, GivesUp, Pays}
use Rattle.mono_locks.specs.MutexRuns.{Event, Step, kept, taken, put_back}

-- The values that went into guards, followed by the one in its place, are the one at the start, followed by those that were
-- put back. So each guard has the value that the one before it was put back with.
abbrev pub HandedOn : Type 0 → Type 0
HandedOn T = (es : List (Event T)) (a b : Mutex T) → Run Step a es b → taken es ++ kept b.value ≡ kept a.value ++ put_back es

-- At most one guard more was made than was put back, and one more only while the mutex is locked.
abbrev pub AtMostOneGuard : Type 0 → Type 0
AtMostOneGuard T = (es : List (Event T)) (a b : Mutex T) → Run Step a es b → (length (taken es) ≤ length (put_back es) + 1) × ((x : T) → b.value ≡ Some x → length (taken es) ≤ length (put_back es))

-- Tickets rise along the queue, whatever was called. So the first, which is served, has the least.
abbrev pub LockersInOrder : Type 0 → Type 0
LockersInOrder T = (es : List (Event T)) (a b c : Mutex T) (w : Entry) → Rises 0 a.queue.waiters.items a.queue.next → Run Step a es b → Pays b (Some w) c → Rises (w.ticket + 1) c.queue.waiters.items c.queue.next

-- While a task waits and nothing is owed, whatever was called, a guard has the value, or it is reserved for a task that
-- was served.
abbrev pub NoMutexLiesIdle : Type 0 → Type 0
NoMutexLiesIdle T = (es : List (Event T)) (a b : Mutex T) (p : List ℕ) (t : ℕ) → AskAtMost 1 a.queue.waiters.items → Run Step a es b → owed_by b ≡ [] → listed_by b p t ≡ true → free b.value ≤ b.queue.granted

-- A future that was served and is given up passes the mutex on: the first task that waits is owed a wake.
abbrev pub PassedOn : Type 0 → Type 0
PassedOn T = (a b : Mutex T) (k me : ℕ) (x : T) (w : Entry) (ws : List Entry) → AskAtMost 1 a.queue.waiters.items
    → holder_of a.queue.waiters.items k ≡ None → a.value ≡ Some x → a.queue.granted ≤ 1 → a.queue.waiters.items ≡ w ∷ ws → GivesUp a (Some k) me b
    → (ts : List ℕ) × (owed_by b ≡ w.task ∷ ts)

-- A future that is pending is listed with its task, at its ticket.
abbrev pub PendingLockIsListed : Type 0 → Type 0
PendingLockIsListed T = (a b : Mutex T) (ticket : Option ℕ) (me k : ℕ)
    → (Locks a (Some k) me asked.Waits b → listed_by b (k ∷ []) me ≡ true) × (Locks a ticket me (asked.Joined k) b → listed_by b (k ∷ []) me ≡ true)

-- A future that asks or is given up takes nobody out but its own task, at its own ticket.
abbrev pub LockTakesOutItsOwn : Type 0 → Type 0
LockTakesOutItsOwn T = (a b : Mutex T) (ticket : Option ℕ) (me : ℕ) (p : List ℕ) (t : ℕ) → listed_by a p t ≡ true
    → ((r : Asked (MutexGuard T)) → Locks a ticket me r b → (listed_by b p t ≡ true) ⊎ ((t ≡ me) × IsPlaceOf ticket p)) × (GivesUp a ticket me b → (listed_by b p t ≡ true) ⊎ ((t ≡ me) × IsPlaceOf ticket p))
