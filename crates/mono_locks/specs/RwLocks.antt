-- A lock for many readers or one writer, and the effect of its calls.
use Rattle.std.specs.Prelude.{⊤, Bool, true, false, ◌≡◌, ◌+◌, ◌-◌, ℕ, List, Option, Some, None, Result, Ok, Err}
use Rattle.mono_locks.specs.declared.queues.Asked.{Asked}
use Rattle.mono_locks.specs.declared.queues.Entry.{Entry}
use Rattle.mono_locks.specs.declared.rwlock.RwLock.{RwLock}
use Rattle.mono_locks.specs.declared.rwlock.RwLockReadGuard.{RwLockReadGuard}
use Rattle.mono_locks.specs.declared.rwlock.RwLockWriteGuard.{RwLockWriteGuard}
use Rattle.mono_locks.specs.declared.rwlock.TheConstants.{MAX_READS}
use Rattle.mono_locks.specs.declared.mutex.TryLockError.{TryLockError}
use Rattle.mono_locks.specs.Mutexes.{has_none}
use Rattle.mono_locks.specs.Queues.{Asks, IfGot, Leaves, Serves, has_room, lists_at, owed_of, tasks_of}

-- How many readers may come. A writer takes the room of all.
abbrev pub room_of : {T : Type 0} → Option T → ℕ → ℕ
room_of None readers = 0
room_of (Some x) readers = MAX_READS - readers

module _ {T : Type 0} where
  abbrev pub room : RwLock T → ℕ
  room a = room_of a.value a.readers

  -- The tasks that are to be woken: the first ones, as many as there is room for.
  abbrev pub owed_by : RwLock T → List ℕ
  owed_by a = owed_of false (room a) a.queue

  -- A place is a ticket.
  abbrev pub listed_by : RwLock T → List ℕ → ℕ → Bool
  listed_by a = lists_at a.queue.waiters.items

  abbrev pub waiting_in : RwLock T → List ℕ
  waiting_in a = tasks_of a.queue.waiters.items

  -- There is one read guard more, if no task waits and there is room.
  abbrev pub TriesToRead : RwLock T → Result (RwLockReadGuard T) TryLockError → RwLock T → Type 0
  TriesToRead a (Ok g) b = (has_room a.queue 1 (room a) ≡ true) × (b.value ≡ a.value) × (b.readers ≡ a.readers + 1) × (b.queue ≡ a.queue)
  TriesToRead a (Err e) b = (has_room a.queue 1 (room a) ≡ false) × (b ≡ a)

  -- The value goes into the write guard, if no task waits and no guard is out.
  abbrev pub TriesToWrite : RwLock T → Result (RwLockWriteGuard T) TryLockError → RwLock T → Type 0
  TriesToWrite a (Ok g) b = (has_room a.queue MAX_READS (room a) ≡ true) × (a.value ≡ Some g.value) × (b.value ≡ None) × (b.readers ≡ a.readers) × (b.queue ≡ a.queue)
  TriesToWrite a (Err e) b = (has_room a.queue MAX_READS (room a) ≡ false) × (b ≡ a)

  -- A future of this task asks to read. There is one read guard more, or it waits.
  abbrev pub Reads : RwLock T → Option ℕ → ℕ → Asked (RwLockReadGuard T) → RwLock T → Type 0
  Reads a ticket me r b = Asks a.queue ticket me 1 (room a) r b.queue × (b.value ≡ a.value) × IfGot r (λ g. b.readers ≡ a.readers + 1) (b.readers ≡ a.readers)

  -- A future of this task asks to write. It takes the value into the write guard, or waits.
  abbrev pub Writes : RwLock T → Option ℕ → ℕ → Asked (RwLockWriteGuard T) → RwLock T → Type 0
  Writes a ticket me r b = Asks a.queue ticket me MAX_READS (room a) r b.queue × (b.readers ≡ a.readers) × IfGot r (λ g. (a.value ≡ Some g.value) × (b.value ≡ None)) (b.value ≡ a.value)

  -- There is one read guard fewer. The guard is refused if none was out.
  abbrev pub EndsRead : RwLock T → RwLockReadGuard T → Result ⊤ (RwLockReadGuard T) → RwLock T → Type 0
  EndsRead a g (Ok done) b = (b.readers + 1 ≡ a.readers) × (b.value ≡ a.value) × (b.queue ≡ a.queue)
  EndsRead a g (Err h) b = (a.readers ≡ 0) × (h ≡ g) × (b ≡ a)

  -- The guard's value is back. The guard is refused if none was out.
  abbrev pub EndsWrite : RwLock T → RwLockWriteGuard T → Result ⊤ (RwLockWriteGuard T) → RwLock T → Type 0
  EndsWrite a g (Ok done) b = (a.value ≡ None) × (b.value ≡ Some g.value) × (b.readers ≡ a.readers) × (b.queue ≡ a.queue)
  EndsWrite a g (Err h) b = (has_none a.value ≡ false) × (h ≡ g) × (b ≡ a)

  -- A future that asked for this much leaves the queue, in a turn of this task.
  abbrev pub GivesUp : RwLock T → Option ℕ → ℕ → ℕ → RwLock T → Type 0
  GivesUp a ticket me n b = (b.value ≡ a.value) × (b.readers ≡ a.readers) × Leaves a.queue ticket me n b.queue

  -- The first waiting task is woken, if there is room for it.
  abbrev pub Pays : RwLock T → Option Entry → RwLock T → Type 0
  Pays a first b = (b.value ≡ a.value) × (b.readers ≡ a.readers) × Serves a.queue (room a) first b.queue
