-- Laws that hold over any calls of a barrier.
use Rattle.std.specs.Prelude.{true, ◌≡◌, ◌≤◌, ◌+◌, ◌⊎◌, ℕ, List, [], ◌∷◌, Option, Some, None}
use Rattle.mono_sync.specs.Runs.{Run}
use Rattle.mono_locks.specs.declared.queues.Asked.{Asked}
use Rattle.mono_locks.specs.declared.queues.Asked.TheVariants as asked
use Rattle.mono_locks.specs.declared.barrier.Barrier.{Barrier}
use Rattle.mono_locks.specs.declared.barrier.BarrierWaitResult.{BarrierWaitResult}
use Rattle.mono_locks.specs.Laws.{Rises, IsPlaceOf}
use Rattle.mono_locks.specs.Queues.{tasks_of}
use Rattle.mono_locks.specs.Barriers.{owed_by, listed_by, Arrives, GivesUp}
use Rattle.mono_locks.specs.BarrierRuns.{Event, Step, came, needed, opened}

-- For each time that the barrier opened, as many futures came as it has parties.
abbrev pub NeverTooEarly : Type 0
NeverTooEarly = (es : List Event) (a b : Barrier) → Run Step a es b → (b.parties ≡ a.parties) × (needed a.parties es + b.arrived ≤ came es + a.arrived)

-- A future that came goes on only if the barrier opened since: while it stays shut, no ticket that was not cleared before
-- is cleared.
abbrev pub ShutUntilItOpens : Type 0
ShutUntilItOpens = (es : List Event) (a b : Barrier) → Run Step a es b → opened es ≡ 0 → b.cleared ≡ a.cleared

-- The future that opens the barrier leaves all that wait owed a wake, whatever was called.
abbrev pub OpensForAll : Type 0
OpensForAll = (es : List Event) (a b c : Barrier) (me : ℕ) (r : BarrierWaitResult) → Rises 0 a.queue.waiters.items a.queue.next → Run Step a es b → Arrives b None me (asked.Got r) c
    → owed_by c ≡ tasks_of b.queue.waiters.items

-- While a task waits and nothing is owed, whatever was called, it came after the barrier opened last.
abbrev pub NoBarrierLiesIdle : Type 0
NoBarrierLiesIdle = (es : List Event) (a b : Barrier) (k t : ℕ) → Rises 0 a.queue.waiters.items a.queue.next → Run Step a es b → owed_by b ≡ [] → listed_by b (k ∷ []) t ≡ true → b.cleared ≤ k

-- A future that is pending is listed with its task, at its ticket.
abbrev pub PendingWaitIsListed : Type 0
PendingWaitIsListed = (a b : Barrier) (ticket : Option ℕ) (me k : ℕ)
    → (Arrives a (Some k) me asked.Waits b → listed_by b (k ∷ []) me ≡ true) × (Arrives a ticket me (asked.Joined k) b → listed_by b (k ∷ []) me ≡ true)

-- A future that asks or is given up takes nobody out but its own task, at its own ticket.
abbrev pub WaitTakesOutItsOwn : Type 0
WaitTakesOutItsOwn = (a b : Barrier) (ticket : Option ℕ) (me : ℕ) (p : List ℕ) (t : ℕ) → listed_by a p t ≡ true
    → ((r : Asked BarrierWaitResult) → Arrives a ticket me r b → (listed_by b p t ≡ true) ⊎ ((t ≡ me) × IsPlaceOf ticket p)) × (GivesUp a ticket me b → (listed_by b p t ≡ true) ⊎ ((t ≡ me) × IsPlaceOf ticket p))
