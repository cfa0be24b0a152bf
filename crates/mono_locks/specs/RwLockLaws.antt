-- Laws that hold over any calls of a lock for readers and writers.
use Rattle.std.specs.Prelude.{true, ◌≡◌, ◌<◌, ◌≤◌, ◌+◌, ◌⊎◌, ℕ, List, [], ◌∷◌, ◌++◌, length, Option, Some, None, Ok}
use Rattle.mono_sync.specs.Runs.{Run}
use Rattle.mono_locks.specs.declared.queues.Asked.{Asked}
use Rattle.mono_locks.specs.declared.queues.Asked.TheVariants as asked
use Rattle.mono_locks.specs.declared.queues.Entry.{Entry}
use Rattle.mono_locks.specs.declared.rwlock.RwLock.{RwLock}
use Rattle.mono_locks.specs.declared.rwlock.RwLockReadGuard.{RwLockReadGuard}
use Rattle.mono_locks.specs.declared.rwlock.RwLockWriteGuard.{RwLockWriteGuard}
use Rattle.mono_locks.specs.Laws.{Rises, IsPlaceOf}
use Rattle.mono_locks.specs.MutexRuns.{kept}
use Rattle.mono_locks.specs.RwLocks.{room, owed_by, listed_by, TriesToRead, TriesToWrite, Reads, Writes, GivesUp, Pays}
use Rattle.mono_locks.specs.RwLockRuns.{Event, Step, taken, put_back, reads, read_ends}

-- The values that went into write guards, followed by the one in its place, are the one at the start, followed by those that
-- were put back. So at most one write guard is out.
abbrev pub WrittenOn : Type 0 → Type 0
WrittenOn T = (es : List (Event T)) (a b : RwLock T) → Run Step a es b → (taken es ++ kept b.value ≡ kept a.value ++ put_back es) × (length (taken es) ≤ length (put_back es) + 1)

-- The read guards that are out are those that were made and did not come back.
abbrev pub ReadersAreCounted : Type 0 → Type 0
ReadersAreCounted T = (es : List (Event T)) (a b : RwLock T) → Run Step a es b → reads es + a.readers ≡ b.readers + read_ends es

-- No read guard is out while a write guard is, whatever was called.
abbrev pub NoReaderBesideAWriter : Type 0 → Type 0
NoReaderBesideAWriter T = (es : List (Event T)) (a b : RwLock T) → (a.value ≡ None → a.readers ≡ 0) → Run Step a es b → b.value ≡ None → b.readers ≡ 0

-- While a task waits, no future that did not wait gets a guard, and none is had at once. So no reader overtakes a writer.
abbrev pub NobodyOvertakes : Type 0 → Type 0
NobodyOvertakes T = (a b : RwLock T) (p : List ℕ) (t me : ℕ) (g : RwLockReadGuard T) (h : RwLockWriteGuard T) → listed_by a p t ≡ true
    → (Reads a None me (asked.Got g) b → ⊥) × (TriesToRead a (Ok g) b → ⊥) × (Writes a None me (asked.Got h) b → ⊥) × (TriesToWrite a (Ok h) b → ⊥)

-- Tickets rise along the queue, whatever was called. So the first, which is served, has the least.
abbrev pub RwLockInOrder : Type 0 → Type 0
RwLockInOrder T = (es : List (Event T)) (a b c : RwLock T) (w : Entry) → Rises 0 a.queue.waiters.items a.queue.next → Run Step a es b → Pays b (Some w) c → Rises (w.ticket + 1) c.queue.waiters.items c.queue.next

-- While nothing is owed, the first task that waits asks for more than there is room for: a reader while a task writes, or
-- a writer while a task reads or writes, or while the lock is reserved for one that was served.
abbrev pub NoRwLockLiesIdle : Type 0 → Type 0
NoRwLockLiesIdle T = (a : RwLock T) (w : Entry) (ws : List Entry) → owed_by a ≡ [] → a.queue.waiters.items ≡ w ∷ ws → room a < a.queue.granted + w.amount

-- A future that is pending is listed with its task, at its ticket.
abbrev pub PendingReadIsListed : Type 0 → Type 0
PendingReadIsListed T = (a b : RwLock T) (ticket : Option ℕ) (me k : ℕ)
    → (Reads a (Some k) me asked.Waits b → listed_by b (k ∷ []) me ≡ true) × (Reads a ticket me (asked.Joined k) b → listed_by b (k ∷ []) me ≡ true)

abbrev pub PendingWriteIsListed : Type 0 → Type 0
PendingWriteIsListed T = (a b : RwLock T) (ticket : Option ℕ) (me k : ℕ)
    → (Writes a (Some k) me asked.Waits b → listed_by b (k ∷ []) me ≡ true) × (Writes a ticket me (asked.Joined k) b → listed_by b (k ∷ []) me ≡ true)

-- A future that asks or is given up takes nobody out but its own task, at its own ticket.
abbrev pub RwLockTakesOutItsOwn : Type 0 → Type 0
RwLockTakesOutItsOwn T = (a b : RwLock T) (ticket : Option ℕ) (me n : ℕ) (p : List ℕ) (t : ℕ) → listed_by a p t ≡ true
    → ((r : Asked (RwLockReadGuard T)) → Reads a ticket me r b → (listed_by b p t ≡ true) ⊎ ((t ≡ me) × IsPlaceOf ticket p))
    × ((r : Asked (RwLockWriteGuard T)) → Writes a ticket me r b → (listed_by b p t ≡ true) ⊎ ((t ≡ me) × IsPlaceOf ticket p))
    × (GivesUp a ticket me n b → (listed_by b p t ≡ true) ⊎ ((t ≡ me) × IsPlaceOf ticket p))
