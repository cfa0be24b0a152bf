-- Laws that hold over any calls of a cell that is set once.
use Rattle.std.specs.Prelude.{true, false, ◌≡◌, ◌≤◌, ◌+◌, ◌⊎◌, ℕ, List, [], ◌∷◌, Option, Some, None}
use Rattle.mono_sync.specs.Runs.{Run}
use Rattle.mono_locks.specs.declared.queues.Asked.{Asked}
use Rattle.mono_locks.specs.declared.queues.Asked.TheVariants as asked
use Rattle.mono_locks.specs.declared.queues.Entry.{Entry}
use Rattle.mono_locks.specs.declared.once_cell.OnceCell.{OnceCell}
use Rattle.mono_locks.specs.declared.once_cell.Init.{Init}
use Rattle.mono_locks.specs.Laws.{Rises, AskAtMost, IsPlaceOf}
use Rattle.mono_locks.specs.OnceCells.{room_of, has_some, owed_by, listed_by, Inits, GivesBack, GivesUp, Pays}
use Rattle.mono_locks.specs.OnceCellRuns.{Event, Step, turns, ends}

-- The value that a cell was set to stays, whatever was called.
abbrev pub SetOnce : Type 0 → Type 0
SetOnce T = (es : List (Event T)) (a b : OnceCell T) (x : T) → a.value ≡ Some x → Run Step a es b → b.value ≡ Some x

-- At most one turn more was given than was ended.
abbrev pub OneTurnAtMost : Type 0 → Type 0
OneTurnAtMost T = (es : List (Event T)) (a b : OnceCell T) → Run Step a es b → turns es ≤ ends es + 1

-- A turn that is given back is owed to the first task that waits, unless the cell was set or one was served before.
abbrev pub NextTakesOver : Type 0 → Type 0
NextTakesOver T = (a b : OnceCell T) (w : Entry) (ws : List Entry) → AskAtMost 1 a.queue.waiters.items → a.value ≡ None → a.queue.granted ≡ 0 → a.queue.waiters.items ≡ w ∷ ws → GivesBack a b
    → (ts : List ℕ) × (owed_by b ≡ w.task ∷ ts)

-- Tickets rise along the queue, whatever was called. So the first, which is served, has the least.
abbrev pub InitsInOrder : Type 0 → Type 0
InitsInOrder T = (es : List (Event T)) (a b c : OnceCell T) (w : Entry) → Rises 0 a.queue.waiters.items a.queue.next → Run Step a es b → Pays b (Some w) c → Rises (w.ticket + 1) c.queue.waiters.items c.queue.next

-- While a task waits and nothing is owed, whatever was called, the cell was not set. A task has the turn, or it is reserved
-- for one that was served.
abbrev pub NoCellLiesIdle : Type 0 → Type 0
NoCellLiesIdle T = (es : List (Event T)) (a b : OnceCell T) (p : List ℕ) (t : ℕ) → AskAtMost 1 a.queue.waiters.items → Run Step a es b → owed_by b ≡ [] → listed_by b p t ≡ true
    → (has_some b.value ≡ false) × (room_of b.is_initializing ≤ b.queue.granted)

-- A future that is pending is listed with its task, at its ticket.
abbrev pub PendingInitIsListed : Type 0 → Type 0
PendingInitIsListed T = (a b : OnceCell T) (ticket : Option ℕ) (me k : ℕ)
    → (Inits a (Some k) me asked.Waits b → listed_by b (k ∷ []) me ≡ true) × (Inits a ticket me (asked.Joined k) b → listed_by b (k ∷ []) me ≡ true)

-- A future that asks or is given up takes nobody out but its own task, at its own ticket.
abbrev pub InitTakesOutItsOwn : Type 0 → Type 0
InitTakesOutItsOwn T = (a b : OnceCell T) (ticket : Option ℕ) (me : ℕ) (p : List ℕ) (t : ℕ) → listed_by a p t ≡ true
    → ((r : Asked (Init T)) → Inits a ticket me r b → (listed_by b p t ≡ true) ⊎ ((t ≡ me) × IsPlaceOf ticket p)) × (GivesUp a ticket me b → (listed_by b p t ≡ true) ⊎ ((t ≡ me) × IsPlaceOf ticket p))
