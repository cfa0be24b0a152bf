-- The answer and the effect of one poll of a future that sends or receives over the channel with one key.
use Rattle.std.specs.Prelude.{⊤, ◌≡◌, ◌⊎◌, ℕ, Option, Some, None, Result, Ok, Err}
use Rattle.std.specs.declared.alloc.AllocError.{AllocError}
use Rattle.mono_model.specs.Tasks.{Tasks}
use Rattle.mono_model.specs.Table.{Table}
use Rattle.mono_model.specs.declared.poll.Poll.{Poll}
use Rattle.mono_model.specs.declared.poll.Poll.TheVariants.{Ready, Pending}
use Rattle.mono_sync.specs.declared.mpsc.Channel.{Channel}
use Rattle.mono_sync.specs.declared.mpsc.Sending.{Sending}
use Rattle.mono_sync.specs.declared.mpsc.Sending.TheVariants as sending
use Rattle.mono_sync.specs.declared.mpsc.Receiving.{Receiving}
use Rattle.mono_sync.specs.declared.mpsc.Receiving.TheVariants as receiving
use Rattle.mono_sync.specs.declared.mpsc.TrySendError.{TrySendError}
use Rattle.mono_sync.specs.declared.mpsc.TrySendError.TheVariants as unsent
use Rattle.mono_sync.specs.declared.mpsc.TryRecvError.{TryRecvError}
use Rattle.mono_sync.specs.declared.mpsc.TryRecvError.TheVariants as unreceived
use Rattle.mono_sync.specs.declared.messages.SendError.{SendError}
use Rattle.mono_sync.specs.declared.messages.SendError.TheVariants.{Closed, Memory}
use Rattle.mono_sync.specs.Mpsc.{TriesToSend, TriesToReceive, Sends, Receives, GivesUpSend, GivesUpReceive, Closes}
use Rattle.mono_sync.specs.KeyedCalls.{AtOr}

module _ {T : Type 0} (key : ℕ) where
  -- The channel with this key takes the message, as `Sends` says. With no such channel the answer is that it was closed.
  abbrev pub SendsAt : Table (Channel T) → Option ℕ → T → ℕ → Sending T → Table (Channel T) → Type 0
  SendsAt a ticket message me r b = AtOr (λ x y. Sends x ticket message me r y) (r ≡ sending.Closed message) key a b

  -- The channel with this key is asked, as `Receives` says. With no such channel the answer is that it was closed.
  abbrev pub ReceivesAt : Table (Channel T) → Option ℕ → ℕ → Receiving T → Table (Channel T) → Type 0
  ReceivesAt a ticket me r b = AtOr (λ x y. Receives x ticket me r y) (r ≡ receiving.Closed) key a b

  -- A future leaves the line of senders of the channel with this key, if there is one.
  abbrev pub GivesUpSendAt : Table (Channel T) → Option ℕ → ℕ → Table (Channel T) → Type 0
  GivesUpSendAt a ticket me b = AtOr (λ x y. GivesUpSend x ticket me y) ⊤ key a b

  -- A future leaves the line of receivers of the channel with this key, if there is one.
  abbrev pub GivesUpReceiveAt : Table (Channel T) → Option ℕ → ℕ → Table (Channel T) → Type 0
  GivesUpReceiveAt a ticket me b = AtOr (λ x y. GivesUpReceive x ticket me y) ⊤ key a b

  -- The channel with this key takes the message, as `TriesToSend` says. With no such channel the answer is that it was closed.
  abbrev pub TriesToSendAt : Table (Channel T) → T → Result ⊤ (TrySendError T) → Table (Channel T) → Type 0
  TriesToSendAt a message r b = AtOr (λ x y. TriesToSend x message r y) (r ≡ Err (unsent.Closed message)) key a b

  -- The channel with this key gives a message, as `TriesToReceive` says. With no such channel the answer is that it was closed.
  abbrev pub TriesToReceiveAt : Table (Channel T) → Result T TryRecvError → Table (Channel T) → Type 0
  TriesToReceiveAt a r b = AtOr (λ x y. TriesToReceive x r y) (r ≡ Err unreceived.Disconnected) key a b

  -- The channel with this key is closed, if there is one.
  abbrev pub ClosesAt : Table (Channel T) → Table (Channel T) → Type 0
  ClosesAt a b = AtOr Closes ⊤ key a b

module _ {T C : Type 0} (table : C → Table (Channel T)) (number : C → ℕ) (work : C → Tasks ⊤) (key : ℕ) where
  -- The channel's answer is the future's. A pending future is in the line with its ticket.
  abbrev pub SendAtPolls : Option T → Option ℕ → C → Poll (Result ⊤ (SendError T)) → Option T → Option ℕ → C → Type 0
  SendAtPolls None ticket c r kept left d = ⊥
  SendAtPolls (Some x) ticket c (Ready (Ok done)) kept left d = SendsAt key (table c) ticket x (number c) sending.Sent (table d) × (work d ≡ work c)
  SendAtPolls (Some x) ticket c (Ready (Err (Closed y))) kept left d = SendsAt key (table c) ticket x (number c) (sending.Closed y) (table d) × (work d ≡ work c)
  SendAtPolls (Some x) ticket c (Ready (Err (Memory y))) kept left d = SendsAt key (table c) ticket x (number c) (sending.Memory y) (table d) × (work d ≡ work c)
  SendAtPolls (Some x) ticket c Pending kept left d = ((kept ≡ Some x) × (left ≡ ticket) × SendsAt key (table c) ticket x (number c) (sending.Waits x) (table d) × (work d ≡ work c)) ⊎ ((t : ℕ) × ((kept ≡ Some x) × (left ≡ Some t) × SendsAt key (table c) ticket x (number c) (sending.Joined t x) (table d) × (work d ≡ work c)))

  -- The future leaves the line.
  abbrev pub SendAtCancels : Option ℕ → C → C → Type 0
  SendAtCancels ticket c d = GivesUpSendAt key (table c) ticket (number c) (table d) × (work d ≡ work c)

  -- The channel's answer is the future's. A pending future is in the line with its ticket.
  abbrev pub RecvAtPolls : Option ℕ → C → Poll (Result (Option T) AllocError) → Option ℕ → C → Type 0
  RecvAtPolls ticket c (Ready (Ok (Some x))) left d = ReceivesAt key (table c) ticket (number c) (receiving.Received x) (table d) × (work d ≡ work c)
  RecvAtPolls ticket c (Ready (Ok None)) left d = ReceivesAt key (table c) ticket (number c) receiving.Closed (table d) × (work d ≡ work c)
  RecvAtPolls ticket c (Ready (Err e)) left d = ReceivesAt key (table c) ticket (number c) receiving.Memory (table d) × (work d ≡ work c)
  RecvAtPolls ticket c Pending left d = ((left ≡ ticket) × ReceivesAt key (table c) ticket (number c) receiving.Waits (table d) × (work d ≡ work c)) ⊎ ((t : ℕ) × ((left ≡ Some t) × ReceivesAt key (table c) ticket (number c) (receiving.Joined t) (table d) × (work d ≡ work c)))

  -- The future leaves the line.
  abbrev pub RecvAtCancels : Option ℕ → C → C → Type 0
  RecvAtCancels ticket c d = GivesUpReceiveAt key (table c) ticket (number c) (table d) × (work d ≡ work c)

  -- The answer is that of a poll of a future that has this message, in some context.
  pub record SendAtGives (message : Option T) (answer : Result ⊤ (SendError T)) : Type 0 where
    pub ticket : Option ℕ
    pub at : C
    pub after : C
    pub polled : SendAtPolls message ticket at (Ready answer) None None after

  -- The answer is that of a poll of such a future in some context.
  pub record RecvAtGives (answer : Result (Option T) AllocError) : Type 0 where
    pub ticket : Option ℕ
    pub at : C
    pub after : C
    pub polled : RecvAtPolls ticket at (Ready answer) None after
