-- A channel whose receivers each get every message, and the effect of its calls.
use Rattle.std.specs.Prelude.{⊤, Bool, true, false, nat_lt, ◌≡◌, ◌<◌, ◌≤◌, ◌+◌, ◌-◌, if◌then◌else◌, ℕ, List, [], ◌∷◌, ◌++◌, length, slice_index_or, Option, Some, None, Result, Ok, Err}
use Rattle.mono_locks.specs.declared.queues.Asked.{Asked}
use Rattle.mono_locks.specs.declared.queues.Asked.TheVariants as asked
use Rattle.mono_locks.specs.declared.queues.Entry.{Entry}
use Rattle.mono_locks.specs.declared.broadcast.Broadcast.{Broadcast}
use Rattle.mono_locks.specs.declared.broadcast.Received.{Received}
use Rattle.mono_locks.specs.declared.broadcast.RecvError.{RecvError}
use Rattle.mono_locks.specs.declared.broadcast.RecvError.TheVariants.{Closed, Lagged}
use Rattle.mono_locks.specs.declared.broadcast.SendError.{SendError}
use Rattle.mono_locks.specs.declared.broadcast.SendError.TheVariants as unsent
use Rattle.mono_locks.specs.Queues.{Asks, Leaves, TakesBelow, lists_at, owed_below, tasks_of}

-- All but the first.
abbrev pub rest : {T : Type 0} → List T → List T
rest [] = []
rest (x ∷ xs) = xs

-- The messages without the oldest, if there are more than the capacity.
abbrev pub trimmed : {T : Type 0} → ℕ → List T → List T
trimmed capacity xs = if nat_lt capacity (length xs) then rest xs else xs

module _ {T : Type 0} where
  -- The number of the oldest message that is kept.
  abbrev pub oldest : Broadcast T → ℕ
  oldest a = a.sent - length a.messages.items

  -- The tasks that are to be woken: those that waited at the last send, and all once the channel was closed.
  abbrev pub owed_by : Broadcast T → List ℕ
  owed_by a = owed_below a.is_closed a.cleared a.queue

  -- A place is a ticket.
  abbrev pub listed_by : Broadcast T → List ℕ → ℕ → Bool
  listed_by a = lists_at a.queue.waiters.items

  abbrev pub waiting_in : Broadcast T → List ℕ
  waiting_in a = tasks_of a.queue.waiters.items

  abbrev pub SameButMessages : Broadcast T → Broadcast T → Type 0
  SameButMessages a b = (b.capacity ≡ a.capacity) × (b.sent ≡ a.sent) × (b.is_closed ≡ a.is_closed) × (b.cleared ≡ a.cleared) × (b.queue ≡ a.queue)

  -- All but the queue stays.
  abbrev pub Kept : Broadcast T → Broadcast T → Type 0
  Kept a b = (b.messages ≡ a.messages) × (b.capacity ≡ a.capacity) × (b.sent ≡ a.sent) × (b.is_closed ≡ a.is_closed) × (b.cleared ≡ a.cleared)

  -- The message is the last one, with the next number, and all waiting tasks are to be woken.
  abbrev pub Sends : Broadcast T → T → Result ⊤ (SendError T) → Broadcast T → Type 0
  Sends a x (Ok done) b = (a.is_closed ≡ false) × (b.messages.items ≡ trimmed a.capacity (a.messages.items ++ x ∷ [])) × (b.sent ≡ a.sent + 1) × (b.cleared ≡ a.queue.next) × (b.capacity ≡ a.capacity) × (b.is_closed ≡ false) × (b.queue ≡ a.queue)
  Sends a x (Err (unsent.Closed y)) b = (a.is_closed ≡ true) × (y ≡ x) × (b ≡ a)
  Sends a x (Err (unsent.Memory y)) b = (a.is_closed ≡ false) × (y ≡ x) × (b.messages.items ≡ a.messages.items) × SameButMessages a b

  -- What the receiver of the message with this number gets at once, and its next number.
  abbrev pub Gets : Broadcast T → ℕ → ℕ → Result T RecvError → Type 0
  Gets a n next (Ok x) = (oldest a ≤ n) × (n < a.sent) × (x ≡ slice_index_or a.messages.items (n - oldest a) x) × (next ≡ n + 1)
  Gets a n next (Err (Lagged k)) = (n < oldest a) × (k ≡ oldest a - n) × (next ≡ oldest a)
  Gets a n next (Err Closed) = (oldest a ≤ n) × (a.sent ≤ n) × (a.is_closed ≡ true) × (next ≡ n)

  abbrev pub Looks : Broadcast T → ℕ → Option (Received T) → Type 0
  Looks a n (Some r) = Gets a n r.receiver.next r.message
  Looks a n None = (a.sent ≤ n) × (a.is_closed ≡ false)

  -- A receiver's future of this task asks. It gets what is there for it, and leaves the queue, or waits.
  abbrev pub Receives : Broadcast T → ℕ → Option ℕ → ℕ → Asked (Received T) → Broadcast T → Type 0
  Receives a n ticket me (asked.Got r) b = Looks a n (Some r) × Leaves a.queue ticket me 1 b.queue × Kept a b
  Receives a n ticket me asked.Waits b = Looks a n None × Asks {G = Received T} a.queue ticket me 1 0 asked.Waits b.queue × Kept a b
  Receives a n ticket me (asked.Joined t) b = Looks a n None × Asks {G = Received T} a.queue ticket me 1 0 (asked.Joined t) b.queue × Kept a b
  Receives a n ticket me asked.Memory b = Looks a n None × Asks {G = Received T} a.queue ticket me 1 0 asked.Memory b.queue × Kept a b

  -- The channel takes no message from now on, and all waiting tasks are to be woken.
  abbrev pub Closes : Broadcast T → Broadcast T → Type 0
  Closes a b = (b.is_closed ≡ true) × (b.messages ≡ a.messages) × (b.capacity ≡ a.capacity) × (b.sent ≡ a.sent) × (b.cleared ≡ a.cleared) × (b.queue ≡ a.queue)

  -- A future leaves the queue, in a turn of this task.
  abbrev pub GivesUp : Broadcast T → Option ℕ → ℕ → Broadcast T → Type 0
  GivesUp a ticket me b = Leaves a.queue ticket me 1 b.queue × Kept a b

  -- The first waiting task is woken, if it waited at the last send or the channel was closed.
  abbrev pub Pays : Broadcast T → Option Entry → Broadcast T → Type 0
  Pays a first b = TakesBelow a.is_closed a.cleared a.queue first b.queue × Kept a b
