-- The calls of a lock for readers and writers, each with its answer, and the wakes of the tasks that it owes.
use Rattle.std.specs.Prelude.{⊤, ◌+◌, ℕ, List, [], ◌∷◌, ◌++◌, length, map, Option, Result, Ok, Err}
use Rattle.mono_locks.specs.declared.queues.Asked.{Asked}
use Rattle.mono_locks.specs.declared.queues.Entry.{Entry}
use Rattle.mono_locks.specs.declared.rwlock.RwLock.{RwLock}
use Rattle.mono_locks.specs.declared.rwlock.RwLockReadGuard.{RwLockReadGuard}
use Rattle.mono_locks.specs.declared.rwlock.RwLockWriteGuard.{RwLockWriteGuard}
use Rattle.mono_locks.specs.declared.mutex.TryLockError.{TryLockError}
use Rattle.mono_locks.specs.Queues.{got}
use Rattle.mono_locks.specs.RwLocks.{TriesToRead, TriesToWrite, Reads, Writes, EndsRead, EndsWrite, GivesUp, Pays}

pub data Event (T : Type 0) : Type 0 where
  tried_read : (answer : Result (RwLockReadGuard T) TryLockError) → Event T
  tried_write : (answer : Result (RwLockWriteGuard T) TryLockError) → Event T
  asked_read : (ticket : Option ℕ) → (task : ℕ) → (answer : Asked (RwLockReadGuard T)) → Event T
  asked_write : (ticket : Option ℕ) → (task : ℕ) → (answer : Asked (RwLockWriteGuard T)) → Event T
  ended_read : (guard : RwLockReadGuard T) → (answer : Result ⊤ (RwLockReadGuard T)) → Event T
  ended_write : (guard : RwLockWriteGuard T) → (answer : Result ⊤ (RwLockWriteGuard T)) → Event T
  gave_up : (ticket : Option ℕ) → (task : ℕ) → (amount : ℕ) → Event T
  served : (first : Option Entry) → Event T

abbrev pub Step : {T : Type 0} → RwLock T → Event T → RwLock T → Type 0
Step a (tried_read r) b = TriesToRead a r b
Step a (tried_write r) b = TriesToWrite a r b
Step a (asked_read ticket task r) b = Reads a ticket task r b
Step a (asked_write ticket task r) b = Writes a ticket task r b
Step a (ended_read g r) b = EndsRead a g r b
Step a (ended_write g r) b = EndsWrite a g r b
Step a (gave_up ticket task n) b = GivesUp a ticket task n b
Step a (served first) b = Pays a first b

module _ {T : Type 0} where
  -- The value that the call put into a write guard, if any.
  abbrev pub taken_by : Event T → List T
  taken_by (tried_read r) = []
  taken_by (tried_write (Ok g)) = g.value ∷ []
  taken_by (tried_write (Err e)) = []
  taken_by (asked_read ticket task r) = []
  taken_by (asked_write ticket task r) = map (λ g. g.value) (got r)
  taken_by (ended_read g r) = []
  taken_by (ended_write g r) = []
  taken_by (gave_up ticket task n) = []
  taken_by (served first) = []

  -- The values that went into write guards, in order.
  abbrev pub taken : List (Event T) → List T
  taken [] = []
  taken (e ∷ es) = taken_by e ++ taken es

  -- The value that the call put back, if any.
  abbrev pub put_back_by : Event T → List T
  put_back_by (tried_read r) = []
  put_back_by (tried_write r) = []
  put_back_by (asked_read ticket task r) = []
  put_back_by (asked_write ticket task r) = []
  put_back_by (ended_read g r) = []
  put_back_by (ended_write g (Ok done)) = g.value ∷ []
  put_back_by (ended_write g (Err h)) = []
  put_back_by (gave_up ticket task n) = []
  put_back_by (served first) = []

  -- The values that were put back, in order.
  abbrev pub put_back : List (Event T) → List T
  put_back [] = []
  put_back (e ∷ es) = put_back_by e ++ put_back es

  -- How many read guards the call made.
  abbrev pub reads_by : Event T → ℕ
  reads_by (tried_read (Ok g)) = 1
  reads_by (tried_read (Err e)) = 0
  reads_by (tried_write r) = 0
  reads_by (asked_read ticket task r) = length (got r)
  reads_by (asked_write ticket task r) = 0
  reads_by (ended_read g r) = 0
  reads_by (ended_write g r) = 0
  reads_by (gave_up ticket task n) = 0
  reads_by (served first) = 0

  -- How many read guards were made.
  abbrev pub reads : List (Event T) → ℕ
  reads [] = 0
  reads (e ∷ es) = reads_by e + reads es

  -- How many read guards the call took back.
  abbrev pub read_ends_by : Event T → ℕ
  read_ends_by (tried_read r) = 0
  read_ends_by (tried_write r) = 0
  read_ends_by (asked_read ticket task r) = 0
  read_ends_by (asked_write ticket task r) = 0
  read_ends_by (ended_read g (Ok done)) = 1
  read_ends_by (ended_read g (Err h)) = 0
  read_ends_by (ended_write g r) = 0
  read_ends_by (gave_up ticket task n) = 0
  read_ends_by (served first) = 0

  -- How many read guards were taken back.
  abbrev pub read_ends : List (Event T) → ℕ
  read_ends [] = 0
  read_ends (e ∷ es) = read_ends_by e + read_ends es
