-- A bounded channel, and the effect of its calls.
use Rattle.std.specs.Prelude.{⊤, Bool, true, false, ◌≡◌, ◌<◌, ◌≤◌, ◌+◌, ◌-◌, ◌⊎◌, MatchBool, ℕ, List, [], ◌∷◌, ◌++◌, length, Option, Result, Ok, Err}
use Rattle.mono_sync.specs.declared.lines.Waiter.{Waiter}
use Rattle.mono_sync.specs.declared.lines.Line.{Line}
use Rattle.mono_sync.specs.declared.lines.Coming.TheVariants.{Waits, Free, Full}
use Rattle.mono_sync.specs.declared.mpsc.Channel.{Channel}
use Rattle.mono_sync.specs.declared.mpsc.TrySendError.{TrySendError}
use Rattle.mono_sync.specs.declared.mpsc.TrySendError.TheVariants as unsent
use Rattle.mono_sync.specs.declared.mpsc.TryRecvError.{TryRecvError}
use Rattle.mono_sync.specs.declared.mpsc.TryRecvError.TheVariants as unreceived
use Rattle.mono_sync.specs.declared.mpsc.Sending.{Sending}
use Rattle.mono_sync.specs.declared.mpsc.Sending.TheVariants as sending
use Rattle.mono_sync.specs.declared.mpsc.Receiving.{Receiving}
use Rattle.mono_sync.specs.declared.mpsc.Receiving.TheVariants as receiving
use Rattle.mono_sync.specs.Lines.{Comes, Joins, Leaves, SameLine, Takes, lists_at, owed_of, tasks_of}
use Rattle.mono_sync.specs.Parts.{lists_two}

module _ {T : Type 0} where
  -- How many places are not taken by a message.
  abbrev pub places : Channel T → ℕ
  places a = a.bound - length a.queue.items

  -- The senders that are to be woken: those for which a place is free, and all once the channel was closed.
  abbrev pub owed_senders : Channel T → List ℕ
  owed_senders a = owed_of a.is_closed (places a) a.senders

  -- The receivers that are to be woken: those for which a message is queued, and all once the channel was closed.
  abbrev pub owed_receivers : Channel T → List ℕ
  owed_receivers a = owed_of a.is_closed (length a.queue.items) a.receivers

  abbrev pub owed_by : Channel T → List ℕ
  owed_by a = owed_senders a ++ owed_receivers a

  abbrev pub sender_at : Channel T → List ℕ → ℕ → Bool
  sender_at a = lists_at a.senders.waiters.items

  abbrev pub receiver_at : Channel T → List ℕ → ℕ → Bool
  receiver_at a = lists_at a.receivers.waiters.items

  -- The place of a sender is 0 and its ticket, that of a receiver 1 and its ticket.
  abbrev pub listed_by : Channel T → List ℕ → ℕ → Bool
  listed_by = lists_two sender_at receiver_at

  abbrev pub waiting_in : Channel T → List ℕ
  waiting_in a = tasks_of a.senders.waiters.items ++ tasks_of a.receivers.waiters.items

  -- The bound stays, and a closed channel stays closed, an open one open.
  abbrev pub Kept : Channel T → Channel T → Type 0
  Kept a b = (b.bound ≡ a.bound) × (b.is_closed ≡ a.is_closed)

  -- The message is at the queue's back.
  abbrev pub Pushes : Channel T → T → Channel T → Type 0
  Pushes a x b = (b.queue.items ≡ a.queue.items ++ x ∷ []) × (b.receivers ≡ a.receivers) × Kept a b

  -- The first message leaves the queue.
  abbrev pub Pops : Channel T → T → Channel T → Type 0
  Pops a x b = (a.queue.items ≡ x ∷ b.queue.items) × (b.senders ≡ a.senders) × Kept a b

  -- The queue and both lines stay.
  abbrev pub Rests : Channel T → Channel T → Type 0
  Rests a b = (b.queue.items ≡ a.queue.items) × (b.senders ≡ a.senders) × (b.receivers ≡ a.receivers) × Kept a b

  -- The message is queued if a place is neither taken, reserved nor owed to a task that waits. Otherwise it comes back.
  abbrev pub TriesToSend : Channel T → T → Result ⊤ (TrySendError T) → Channel T → Type 0
  TriesToSend a x (Ok done) b = (a.is_closed ≡ false) × (a.senders.granted + length a.senders.waiters.items < places a) × Pushes a x b × (b.senders ≡ a.senders)
  TriesToSend a x (Err (unsent.Closed y)) b = (y ≡ x) × (a.is_closed ≡ true) × (b ≡ a)
  TriesToSend a x (Err (unsent.Full y)) b = (y ≡ x) × (a.is_closed ≡ false) × (places a ≤ a.senders.granted + length a.senders.waiters.items) × (b ≡ a)
  TriesToSend a x (Err (unsent.Memory y)) b = (y ≡ x) × (a.is_closed ≡ false) × (a.senders.granted + length a.senders.waiters.items < places a) × Rests a b

  -- The first message leaves the queue if it is neither promised nor owed to a task that waits. A closed channel promises
  -- none.
  abbrev pub TriesToReceive : Channel T → Result T TryRecvError → Channel T → Type 0
  TriesToReceive a (Ok x) b = Pops a x b × (b.receivers ≡ a.receivers) × (a.is_closed ≡ false → a.receivers.granted + length a.receivers.waiters.items < length a.queue.items)
  TriesToReceive a (Err unreceived.Empty) b = (a.is_closed ≡ false) × (length a.queue.items ≤ a.receivers.granted + length a.receivers.waiters.items) × (b ≡ a)
  TriesToReceive a (Err unreceived.Disconnected) b = (a.is_closed ≡ true) × (a.queue.items ≡ []) × (b ≡ a)

  -- The line of senders alone may change.
  abbrev pub SendersMove : Channel T → Channel T → Type 0
  SendersMove a b = (b.queue.items ≡ a.queue.items) × (b.receivers ≡ a.receivers) × Kept a b

  -- The line of receivers alone may change.
  abbrev pub ReceiversMove : Channel T → Channel T → Type 0
  ReceiversMove a b = (b.queue.items ≡ a.queue.items) × (b.senders ≡ a.senders) × Kept a b

  -- A future of this task asks to send. It still waits, or collects its place, or takes one that is free and owed to no
  -- task, or waits from now on. It leaves the line if the channel was closed.
  abbrev pub Sends : Channel T → Option ℕ → T → ℕ → Sending T → Channel T → Type 0
  Sends a ticket x me sending.Sent b = (a.is_closed ≡ false) × Comes a.senders ticket me (places a) Free b.senders × Pushes a x b
  Sends a ticket x me (sending.Closed y) b = (y ≡ x) × (a.is_closed ≡ true) × Leaves a.senders ticket me b.senders × SendersMove a b
  Sends a ticket x me (sending.Memory y) b = (y ≡ x) × (a.is_closed ≡ false) × (Comes a.senders ticket me (places a) Free b.senders ⊎ ((l : Line) × (Comes a.senders ticket me (places a) Full l × SameLine l b.senders))) × SendersMove a b
  Sends a ticket x me (sending.Joined t y) b = (y ≡ x) × (a.is_closed ≡ false) × ((l : Line) × (Comes a.senders ticket me (places a) Full l × Joins l me (Ok t) b.senders)) × SendersMove a b
  Sends a ticket x me (sending.Waits y) b = (y ≡ x) × (a.is_closed ≡ false) × Comes a.senders ticket me (places a) Waits b.senders × SendersMove a b

  -- A future of this task asks to receive. It still waits, or collects its message, or takes one that is neither promised
  -- nor owed to a task that waits, or waits from now on. Once the channel was closed, it leaves the line, and gets the
  -- first message, if there is one.
  abbrev pub Receives : Channel T → Option ℕ → ℕ → Receiving T → Channel T → Type 0
  Receives a ticket me (receiving.Received x) b = Pops a x b × MatchBool a.is_closed (Leaves a.receivers ticket me b.receivers) (Comes a.receivers ticket me (length a.queue.items) Free b.receivers)
  Receives a ticket me receiving.Closed b = (a.is_closed ≡ true) × (a.queue.items ≡ []) × Leaves a.receivers ticket me b.receivers × ReceiversMove a b
  Receives a ticket me receiving.Memory b = (a.is_closed ≡ false) × ((l : Line) × (Comes a.receivers ticket me (length a.queue.items) Full l × SameLine l b.receivers)) × ReceiversMove a b
  Receives a ticket me (receiving.Joined t) b = (a.is_closed ≡ false) × ((l : Line) × (Comes a.receivers ticket me (length a.queue.items) Full l × Joins l me (Ok t) b.receivers)) × ReceiversMove a b
  Receives a ticket me receiving.Waits b = (a.is_closed ≡ false) × Comes a.receivers ticket me (length a.queue.items) Waits b.receivers × ReceiversMove a b

  -- A future leaves the line of senders, in a turn of this task.
  abbrev pub GivesUpSend : Channel T → Option ℕ → ℕ → Channel T → Type 0
  GivesUpSend a ticket me b = Leaves a.senders ticket me b.senders × SendersMove a b

  -- A future leaves the line of receivers, in a turn of this task.
  abbrev pub GivesUpReceive : Channel T → Option ℕ → ℕ → Channel T → Type 0
  GivesUpReceive a ticket me b = Leaves a.receivers ticket me b.receivers × ReceiversMove a b

  -- The channel takes no further message.
  abbrev pub Closes : Channel T → Channel T → Type 0
  Closes a b = (b.queue ≡ a.queue) × (b.senders ≡ a.senders) × (b.receivers ≡ a.receivers) × (b.bound ≡ a.bound) × (b.is_closed ≡ true)

  -- The first sender is woken, if a place is free for it or the channel was closed.
  abbrev pub PaysSender : Channel T → Option Waiter → Channel T → Type 0
  PaysSender a first b = Takes a.is_closed (places a) a.senders first b.senders × (b.queue ≡ a.queue) × (b.receivers ≡ a.receivers) × Kept a b

  -- The first receiver is woken, if a message is there for it or the channel was closed.
  abbrev pub PaysReceiver : Channel T → Option Waiter → Channel T → Type 0
  PaysReceiver a first b = Takes a.is_closed (length a.queue.items) a.receivers first b.receivers × (b.queue ≡ a.queue) × (b.senders ≡ a.senders) × Kept a b
