-- The calls of a mutex, each with its answer, and the wakes of the tasks that it owes.
use Rattle.std.specs.Prelude.{⊤, ℕ, List, [], ◌∷◌, ◌++◌, map, Option, Some, None, Result, Ok, Err}
use Rattle.mono_locks.specs.declared.queues.Asked.{Asked}
use Rattle.mono_locks.specs.declared.queues.Entry.{Entry}
use Rattle.mono_locks.specs.declared.mutex.Mutex.{Mutex}
use Rattle.mono_locks.specs.declared.mutex.MutexGuard.{MutexGuard}
use Rattle.mono_locks.specs.declared.mutex.TryLockError.{TryLockError}
use Rattle.mono_locks.specs.Queues.{got}
use Rattle.mono_locks.specs.Mutexes.{TriesToLock, Locks, Unlocks, GivesUp, Pays}

pub data Event (T : Type 0) : Type 0 where
  tried : (answer : Result (MutexGuard T) TryLockError) → Event T
  asked : (ticket : Option ℕ) → (task : ℕ) → (answer : Asked (MutexGuard T)) → Event T
  unlocked : (guard : MutexGuard T) → (answer : Result ⊤ (MutexGuard T)) → Event T
  gave_up : (ticket : Option ℕ) → (task : ℕ) → Event T
  served : (first : Option Entry) → Event T

abbrev pub Step : {T : Type 0} → Mutex T → Event T → Mutex T → Type 0
Step a (tried r) b = TriesToLock a r b
Step a (asked ticket task r) b = Locks a ticket task r b
Step a (unlocked g r) b = Unlocks a g r b
Step a (gave_up ticket task) b = GivesUp a ticket task b
Step a (served first) b = Pays a first b

module _ {T : Type 0} where
  -- The value that no guard has, if any.
  abbrev pub kept : Option T → List T
  kept None = []
  kept (Some x) = x ∷ []

  -- The value that the call put into a guard, if any.
  abbrev pub taken_by : Event T → List T
  taken_by (tried (Ok g)) = g.value ∷ []
  taken_by (tried (Err e)) = []
  taken_by (asked ticket task r) = map (λ g. g.value) (got r)
  taken_by (unlocked g r) = []
  taken_by (gave_up ticket task) = []
  taken_by (served first) = []

  -- The values that went into guards, in order.
  abbrev pub taken : List (Event T) → List T
  taken [] = []
  taken (e ∷ es) = taken_by e ++ taken es

  -- The value that the call put back, if any.
  abbrev pub put_back_by : Event T → List T
  put_back_by (tried r) = []
  put_back_by (asked ticket task r) = []
  put_back_by (unlocked g (Ok done)) = g.value ∷ []
  put_back_by (unlocked g (Err h)) = []
  put_back_by (gave_up ticket task) = []
  put_back_by (served first) = []

  -- The values that were put back, in order.
  abbrev pub put_back : List (Event T) → List T
  put_back [] = []
  put_back (e ∷ es) = put_back_by e ++ put_back es
