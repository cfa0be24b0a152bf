-- A channel for one message, and the effect of its calls.
use Rattle.std.specs.Prelude.{⊤, Bool, true, false, ◌≡◌, ◌<◌, ◌+◌, ◌&&◌, ◌⊎◌, ℕ, List, length, Option, Some, None, Result, Ok, Err}
use Rattle.mono_sync.specs.declared.lines.Waiter.{Waiter}
use Rattle.mono_sync.specs.declared.lines.Line.{Line}
use Rattle.mono_sync.specs.declared.lines.Coming.TheVariants.{Waits, Free, Full}
use Rattle.mono_sync.specs.declared.oneshot.Oneshot.{Oneshot}
use Rattle.mono_sync.specs.declared.oneshot.TryRecvError.{TryRecvError}
use Rattle.mono_sync.specs.declared.oneshot.TryRecvError.TheVariants as unreceived
use Rattle.mono_sync.specs.declared.oneshot.Receiving.{Receiving}
use Rattle.mono_sync.specs.declared.oneshot.Receiving.TheVariants as receiving
use Rattle.mono_sync.specs.Lines.{Comes, Joins, Leaves, SameLine, Takes, is_held, lists_at, owed_of, tasks_of}

-- How many messages there are.
abbrev pub count : {T : Type 0} → Option T → ℕ
count None = 0
count (Some x) = 1

abbrev pub has_none : {T : Type 0} → Option T → Bool
has_none None = true
has_none (Some x) = false

module _ {T : Type 0} where
  -- Whether no message will come.
  abbrev pub is_over : Oneshot T → Bool
  is_over a = a.is_closed && has_none a.message

  -- The tasks that are to be woken: the receiver once there is a message, and all once none will come.
  abbrev pub owed_by : Oneshot T → List ℕ
  owed_by a = owed_of (is_over a) (count a.message) a.line

  -- A place is a ticket.
  abbrev pub listed_by : Oneshot T → List ℕ → ℕ → Bool
  listed_by a = lists_at a.line.waiters.items

  abbrev pub waiting_in : Oneshot T → List ℕ
  waiting_in a = tasks_of a.line.waiters.items

  -- The message is in the channel, which takes no other.
  abbrev pub Sends : Oneshot T → T → Result ⊤ T → Oneshot T → Type 0
  Sends a x (Ok done) b = (a.is_closed ≡ false) × (b.message ≡ Some x) × (b.line ≡ a.line) × (b.is_closed ≡ true)
  Sends a x (Err y) b = (a.is_closed ≡ true) × (y ≡ x) × (b ≡ a)

  -- The message comes out once, if it is not for a future that waited. A closed channel has none.
  abbrev pub TriesToReceive : Oneshot T → Result T TryRecvError → Oneshot T → Type 0
  TriesToReceive a (Ok x) b = (a.message ≡ Some x) × (a.line.granted + length a.line.waiters.items ≡ 0) × (b.message ≡ None) × (b.line ≡ a.line) × (b.is_closed ≡ a.is_closed)
  TriesToReceive a (Err unreceived.Empty) b = (is_over a ≡ false) × ((a.message ≡ None) ⊎ (0 < a.line.granted + length a.line.waiters.items)) × (b ≡ a)
  TriesToReceive a (Err unreceived.Closed) b = (is_over a ≡ true) × (b ≡ a)

  -- All but the line stays.
  abbrev pub Kept : Oneshot T → Oneshot T → Type 0
  Kept a b = (b.message ≡ a.message) × (b.is_closed ≡ a.is_closed)

  -- A future of this task asks. It still waits, or takes the message, or waits from now on. Another future is refused while
  -- one waits or was served. It leaves the line if no message will come.
  abbrev pub Receives : Oneshot T → Option ℕ → ℕ → Receiving T → Oneshot T → Type 0
  Receives a ticket me (receiving.Received x) b = (a.message ≡ Some x) × (b.message ≡ None) × Comes a.line ticket me (count a.message) Free b.line × (b.is_closed ≡ a.is_closed)
  Receives a ticket me receiving.Closed b = (is_over a ≡ true) × Leaves a.line ticket me b.line × Kept a b
  Receives a ticket me receiving.Waits b = (is_over a ≡ false) × Comes a.line ticket me (count a.message) Waits b.line × Kept a b
  Receives a ticket me receiving.Taken b = (is_over a ≡ false) × Comes a.line ticket me (count a.message) Full b.line × (is_held b.line ≡ true) × Kept a b
  Receives a ticket me (receiving.Joined t) b = (is_over a ≡ false) × ((l : Line) × (Comes a.line ticket me (count a.message) Full l × (is_held l ≡ false) × Joins l me (Ok t) b.line)) × Kept a b
  Receives a ticket me receiving.Memory b = (is_over a ≡ false) × ((l : Line) × (Comes a.line ticket me (count a.message) Full l × (is_held l ≡ false) × SameLine l b.line)) × Kept a b

  -- The channel takes no message from now on. A message that was sent stays.
  abbrev pub Closes : Oneshot T → Oneshot T → Type 0
  Closes a b = (b.is_closed ≡ true) × (b.message ≡ a.message) × (b.line ≡ a.line)

  -- A future leaves the line, in a turn of this task.
  abbrev pub GivesUp : Oneshot T → Option ℕ → ℕ → Oneshot T → Type 0
  GivesUp a ticket me b = Leaves a.line ticket me b.line × Kept a b

  -- The first waiting task is woken, if the message is there or none will come.
  abbrev pub Pays : Oneshot T → Option Waiter → Oneshot T → Type 0
  Pays a first b = Takes (is_over a) (count a.message) a.line first b.line × Kept a b
