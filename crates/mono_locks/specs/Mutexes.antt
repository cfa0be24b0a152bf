-- A lock that is held over waits, and the effect of its calls.
use Rattle.std.specs.Prelude.{⊤, Bool, true, false, ◌≡◌, ℕ, List, Option, Some, None, Result, Ok, Err}
use Rattle.mono_locks.specs.declared.queues.Asked.{Asked}
use Rattle.mono_locks.specs.declared.queues.Entry.{Entry}
use Rattle.mono_locks.specs.declared.mutex.Mutex.{Mutex}
use Rattle.mono_locks.specs.declared.mutex.MutexGuard.{MutexGuard}
use Rattle.mono_locks.specs.declared.mutex.TryLockError.{TryLockError}
use Rattle.mono_locks.specs.Queues.{Asks, IfGot, Leaves, Serves, has_room, lists_at, owed_of, tasks_of}

-- How many tasks may lock a mutex with this value.
abbrev pub free : {T : Type 0} → Option T → ℕ
free None = 0
free (Some x) = 1

abbrev pub has_none : {T : Type 0} → Option T → Bool
has_none None = true
has_none (Some x) = false

module _ {T : Type 0} where
  -- The task that is to be woken: the first that waits, if the mutex is free for it. Those that left are woken, too.
  abbrev pub owed_by : Mutex T → List ℕ
  owed_by a = owed_of false (free a.value) a.queue

  -- A place is a ticket.
  abbrev pub listed_by : Mutex T → List ℕ → ℕ → Bool
  listed_by a = lists_at a.queue.waiters.items

  abbrev pub waiting_in : Mutex T → List ℕ
  waiting_in a = tasks_of a.queue.waiters.items

  -- The value goes into a guard, if no guard has it, no task waits and it is reserved for none.
  abbrev pub TriesToLock : Mutex T → Result (MutexGuard T) TryLockError → Mutex T → Type 0
  TriesToLock a (Ok g) b = (a.value ≡ Some g.value) × (has_room a.queue 1 (free a.value) ≡ true) × (b.value ≡ None) × (b.queue ≡ a.queue)
  TriesToLock a (Err e) b = (has_room a.queue 1 (free a.value) ≡ false) × (b ≡ a)

  -- A future of this task asks. It takes the value into a guard, or waits.
  abbrev pub Locks : Mutex T → Option ℕ → ℕ → Asked (MutexGuard T) → Mutex T → Type 0
  Locks a ticket me r b = Asks a.queue ticket me 1 (free a.value) r b.queue × IfGot r (λ g. (a.value ≡ Some g.value) × (b.value ≡ None)) (b.value ≡ a.value)

  -- The guard's value is back. The guard is refused if the mutex was not locked.
  abbrev pub Unlocks : Mutex T → MutexGuard T → Result ⊤ (MutexGuard T) → Mutex T → Type 0
  Unlocks a g (Ok done) b = (a.value ≡ None) × (b.value ≡ Some g.value) × (b.queue ≡ a.queue)
  Unlocks a g (Err h) b = (has_none a.value ≡ false) × (h ≡ g) × (b ≡ a)

  -- A future leaves the queue, in a turn of this task. What was reserved for it is free again.
  abbrev pub GivesUp : Mutex T → Option ℕ → ℕ → Mutex T → Type 0
  GivesUp a ticket me b = (b.value ≡ a.value) × Leaves a.queue ticket me 1 b.queue

  -- The first waiting task is woken, if the mutex is free for it.
  abbrev pub Pays : Mutex T → Option Entry → Mutex T → Type 0
  Pays a first b = (b.value ≡ a.value) × Serves a.queue (free a.value) first b.queue
