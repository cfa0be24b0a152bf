-- A cell that is set once, and the effect of its calls.
use Rattle.std.specs.Prelude.{⊤, Bool, true, false, ◌≡◌, MatchBool, ℕ, List, Option, Some, None, Result, Ok, Err}
use Rattle.mono_locks.specs.declared.queues.Asked.{Asked}
use Rattle.mono_locks.specs.declared.queues.Asked.TheVariants as asked
use Rattle.mono_locks.specs.declared.queues.Entry.{Entry}
use Rattle.mono_locks.specs.declared.once_cell.OnceCell.{OnceCell}
use Rattle.mono_locks.specs.declared.once_cell.Init.{Init}
use Rattle.mono_locks.specs.declared.once_cell.Init.TheVariants as init
use Rattle.mono_locks.specs.declared.once_cell.SetError.{SetError}
use Rattle.mono_locks.specs.declared.once_cell.SetError.TheVariants as unset
use Rattle.mono_locks.specs.Queues.{Asks, IfGot, Leaves, Takes, has_room, lists_at, owed_of, tasks_of}

abbrev pub has_some : {T : Type 0} → Option T → Bool
has_some None = false
has_some (Some x) = true

-- How many tasks may have the turn: one, if none has it.
abbrev pub room_of : Bool → ℕ
room_of true = 0
room_of false = 1

module _ {T : Type 0} where
  -- The tasks that are to be woken: all once the cell was set, and the first one if the turn is free for it.
  abbrev pub owed_by : OnceCell T → List ℕ
  owed_by a = owed_of (has_some a.value) (room_of a.is_initializing) a.queue

  -- A place is a ticket.
  abbrev pub listed_by : OnceCell T → List ℕ → ℕ → Bool
  listed_by a = lists_at a.queue.waiters.items

  abbrev pub waiting_in : OnceCell T → List ℕ
  waiting_in a = tasks_of a.queue.waiters.items

  -- The cell is set, if it was not, no task has the turn and none waits for it or is to have it.
  abbrev pub Sets : OnceCell T → T → Result ⊤ (SetError T) → OnceCell T → Type 0
  Sets a x (Ok done) b = (has_some a.value ≡ false) × (has_room a.queue 1 (room_of a.is_initializing) ≡ true) × (b.value ≡ Some x) × (b.is_initializing ≡ a.is_initializing) × (b.queue ≡ a.queue)
  Sets a x (Err (unset.AlreadyInitialized y)) b = (has_some a.value ≡ true) × (y ≡ x) × (b ≡ a)
  Sets a x (Err (unset.Initializing y)) b = (has_some a.value ≡ false) × (has_room a.queue 1 (room_of a.is_initializing) ≡ false) × (y ≡ x) × (b ≡ a)

  -- The future has the turn, which no task had.
  abbrev pub TakesTurn : Init T → OnceCell T → OnceCell T → Type 0
  TakesTurn init.Set a b = ⊥
  TakesTurn (init.Turn t) a b = (a.is_initializing ≡ false) × (b.is_initializing ≡ true)

  -- A future of this task asks. It leaves the queue if the cell was set. Else it takes the turn, or waits for it.
  abbrev pub Inits : OnceCell T → Option ℕ → ℕ → Asked (Init T) → OnceCell T → Type 0
  Inits a ticket me r b = (b.value ≡ a.value) × MatchBool (has_some a.value)
      ((r ≡ asked.Got init.Set) × Leaves a.queue ticket me 1 b.queue × (b.is_initializing ≡ a.is_initializing))
      (Asks a.queue ticket me 1 (room_of a.is_initializing) r b.queue × IfGot r (λ i. TakesTurn i a b) (b.is_initializing ≡ a.is_initializing))

  -- The cell is set and the turn ends. The value comes back if the cell was set or no task had the turn.
  abbrev pub Finishes : OnceCell T → T → Result ⊤ T → OnceCell T → Type 0
  Finishes a x (Ok done) b = (has_some a.value ≡ false) × (a.is_initializing ≡ true) × (b.value ≡ Some x) × (b.is_initializing ≡ false) × (b.queue ≡ a.queue)
  Finishes a x (Err y) b = MatchBool (has_some a.value) ⊤ (a.is_initializing ≡ false) × (y ≡ x) × (b ≡ a)

  -- The turn ends without a value.
  abbrev pub GivesBack : OnceCell T → OnceCell T → Type 0
  GivesBack a b = (b.value ≡ a.value) × (b.is_initializing ≡ false) × (b.queue ≡ a.queue)

  -- A future leaves the queue, in a turn of this task.
  abbrev pub GivesUp : OnceCell T → Option ℕ → ℕ → OnceCell T → Type 0
  GivesUp a ticket me b = (b.value ≡ a.value) × (b.is_initializing ≡ a.is_initializing) × Leaves a.queue ticket me 1 b.queue

  -- The first waiting task is woken, if the turn is free for it or the cell was set.
  abbrev pub Pays : OnceCell T → Option Entry → OnceCell T → Type 0
  Pays a first b = (b.value ≡ a.value) × (b.is_initializing ≡ a.is_initializing) × Takes (has_some a.value) (room_of a.is_initializing) a.queue first b.queue
