-- A semaphore, and the effect of its calls.
use Rattle.std.specs.Prelude.{⊤, Bool, true, false, ◌≡◌, ◌<◌, ◌≤◌, ◌+◌, ℕ, List, length, Option, Result, Ok, Err}
use Rattle.mono_sync.specs.declared.lines.Waiter.{Waiter}
use Rattle.mono_sync.specs.declared.lines.Line.{Line}
use Rattle.mono_sync.specs.declared.lines.Coming.TheVariants.{Waits, Free, Full}
use Rattle.mono_sync.specs.declared.semaphores.Semaphore.{Semaphore}
use Rattle.mono_sync.specs.declared.semaphores.TryAcquireError.{TryAcquireError}
use Rattle.mono_sync.specs.declared.semaphores.TryAcquireError.TheVariants.{NoPermits, Closed}
use Rattle.mono_sync.specs.declared.semaphores.TooManyPermits.{TooManyPermits}
use Rattle.mono_sync.specs.declared.semaphores.Acquiring.{Acquiring}
use Rattle.mono_sync.specs.declared.semaphores.Acquiring.TheVariants as acquiring
use Rattle.mono_sync.specs.declared.semaphores.TheConstants.{MAX_PERMITS}
use Rattle.mono_sync.specs.Lines.{Comes, Joins, Leaves, SameLine, Takes, lists_at, owed_of, tasks_of}

-- The tasks that are to be woken: those for which a permit is free, and all once the semaphore was closed.
abbrev pub owed_by : Semaphore → List ℕ
owed_by a = owed_of a.is_closed a.available a.line

-- A place is a ticket.
abbrev pub listed_by : Semaphore → List ℕ → ℕ → Bool
listed_by a = lists_at a.line.waiters.items

abbrev pub waiting_in : Semaphore → List ℕ
waiting_in a = tasks_of a.line.waiters.items

-- There is one permit fewer, if one is neither taken, reserved nor owed to a task that waits.
abbrev pub TriesToAcquire : Semaphore → Result ⊤ TryAcquireError → Semaphore → Type 0
TriesToAcquire a (Ok done) b = (a.is_closed ≡ false) × (a.line.granted + length a.line.waiters.items < a.available) × (b.available + 1 ≡ a.available) × (b.line ≡ a.line) × (b.is_closed ≡ false)
TriesToAcquire a (Err Closed) b = (a.is_closed ≡ true) × (b ≡ a)
TriesToAcquire a (Err NoPermits) b = (a.is_closed ≡ false) × (a.available ≤ a.line.granted + length a.line.waiters.items) × (b ≡ a)

-- A future of this task asks. It still waits, or collects its permit, or takes one that is free and owed to no task, or
-- waits from now on. It leaves the line if the semaphore was closed.
abbrev pub Acquires : Semaphore → Option ℕ → ℕ → Acquiring → Semaphore → Type 0
Acquires a ticket me acquiring.Waits b = (a.is_closed ≡ false) × Comes a.line ticket me a.available Waits b.line × (b.available ≡ a.available) × (b.is_closed ≡ false)
Acquires a ticket me acquiring.Closed b = (a.is_closed ≡ true) × Leaves a.line ticket me b.line × (b.available ≡ a.available) × (b.is_closed ≡ true)
Acquires a ticket me acquiring.Acquired b = (a.is_closed ≡ false) × Comes a.line ticket me a.available Free b.line × (b.available + 1 ≡ a.available) × (b.is_closed ≡ false)
Acquires a ticket me (acquiring.Joined t) b = (a.is_closed ≡ false) × ((l : Line) × (Comes a.line ticket me a.available Full l × Joins l me (Ok t) b.line)) × (b.available ≡ a.available) × (b.is_closed ≡ false)
Acquires a ticket me acquiring.Memory b = (a.is_closed ≡ false) × ((l : Line) × (Comes a.line ticket me a.available Full l × SameLine l b.line)) × (b.available ≡ a.available) × (b.is_closed ≡ false)

-- There is one permit more.
abbrev pub Releases : Semaphore → Result ⊤ TooManyPermits → Semaphore → Type 0
Releases a (Ok done) b = (a.available < MAX_PERMITS) × (b.available ≡ a.available + 1) × (b.line ≡ a.line) × (b.is_closed ≡ a.is_closed)
Releases a (Err e) b = (MAX_PERMITS ≤ a.available) × (b ≡ a)

-- A future leaves the line in a turn of this task.
abbrev pub GivesUp : Semaphore → Option ℕ → ℕ → Semaphore → Type 0
GivesUp a ticket me b = (b.available ≡ a.available) × Leaves a.line ticket me b.line × (b.is_closed ≡ a.is_closed)

-- The semaphore gives no further permit.
abbrev pub Closes : Semaphore → Semaphore → Type 0
Closes a b = (b.available ≡ a.available) × (b.line ≡ a.line) × (b.is_closed ≡ true)

-- The first waiting task is woken, if a permit is free for it or the semaphore was closed.
abbrev pub Pays : Semaphore → Option Waiter → Semaphore → Type 0
Pays a first b = Takes a.is_closed a.available a.line first b.line × (b.available ≡ a.available) × (b.is_closed ≡ a.is_closed)
