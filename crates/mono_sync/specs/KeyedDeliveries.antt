-- The answer and the effect of one poll of a future that receives the message of the channel with one key.
use Rattle.std.specs.Prelude.{⊤, Bool, true, false, ◌≡◌, ◌⊎◌, ℕ, Option, Some, None, Result, Ok, Err}
use Rattle.mono_model.specs.Tasks.{Tasks}
use Rattle.mono_model.specs.Table.{Table}
use Rattle.mono_model.specs.declared.poll.Poll.{Poll}
use Rattle.mono_model.specs.declared.poll.Poll.TheVariants.{Ready, Pending}
use Rattle.mono_sync.specs.declared.oneshot.Oneshot.{Oneshot}
use Rattle.mono_sync.specs.declared.oneshot.Receiving.{Receiving}
use Rattle.mono_sync.specs.declared.oneshot.Receiving.TheVariants as receiving
use Rattle.mono_sync.specs.declared.deliveries.RecvError.{RecvError}
use Rattle.mono_sync.specs.declared.deliveries.RecvError.TheVariants.{Closed, Taken, Memory}
use Rattle.mono_sync.specs.Oneshot.{Sends, Receives, Closes, GivesUp, waiting_in, owed_by}
use Rattle.mono_sync.specs.Many.{GoesIfIdle}
use Rattle.mono_sync.specs.KeyedCalls.{AtOr}

-- Whether the answer is the message, or that none will come.
abbrev pub has_ended : {T : Type 0} → Receiving T → Bool
has_ended (receiving.Received x) = true
has_ended receiving.Closed = true
has_ended receiving.Taken = false
has_ended receiving.Memory = false
has_ended (receiving.Joined t) = false
has_ended receiving.Waits = false

module _ {T : Type 0} (key : ℕ) where
  -- The channel with this key is asked, as `Receives` says. With no such channel the answer is that none will come.
  abbrev pub ReceivesAt : Table (Oneshot T) → Option ℕ → ℕ → Receiving T → Table (Oneshot T) → Type 0
  ReceivesAt a ticket me r b = AtOr (λ x y. Receives x ticket me r y) (r ≡ receiving.Closed) key a b

  -- The channel with this key gets the message, as `Sends` says. With no such channel the message comes back.
  abbrev pub SendsAt : Table (Oneshot T) → T → Result ⊤ T → Table (Oneshot T) → Type 0
  SendsAt a message r b = AtOr (λ x y. Sends x message r y) (r ≡ Err message) key a b

  -- The channel with this key is closed, if there is one.
  abbrev pub ClosesAt : Table (Oneshot T) → Table (Oneshot T) → Type 0
  ClosesAt a b = AtOr Closes ⊤ key a b

  -- A future leaves the line of the channel with this key, if there is one.
  abbrev pub GivesUpAt : Table (Oneshot T) → Option ℕ → ℕ → Table (Oneshot T) → Type 0
  GivesUpAt a ticket me b = AtOr (λ x y. GivesUp x ticket me y) ⊤ key a b

  -- The channel is removed after its last answer, if no other task waits in it.
  abbrev pub GoesOnce : Bool → Table (Oneshot T) → Table (Oneshot T) → Type 0
  GoesOnce true a b = GoesIfIdle waiting_in owed_by key a b
  GoesOnce false a b = b ≡ a

  -- The channel with this key is asked, and is removed once it has answered.
  abbrev pub TakesAt : Table (Oneshot T) → Option ℕ → ℕ → Receiving T → Table (Oneshot T) → Type 0
  TakesAt a ticket me r b = (middle : Table (Oneshot T)) × ReceivesAt a ticket me r middle × GoesOnce (has_ended r) middle b

  -- A future leaves the line of the channel with this key, and the channel is removed.
  abbrev pub DropsAt : Table (Oneshot T) → Option ℕ → ℕ → Table (Oneshot T) → Type 0
  DropsAt a ticket me b = (middle : Table (Oneshot T)) × GivesUpAt a ticket me middle × GoesIfIdle waiting_in owed_by key middle b

module _ {T C : Type 0} (table : C → Table (Oneshot T)) (number : C → ℕ) (work : C → Tasks ⊤) (key : ℕ) where
  -- The answer is the future's. A pending future is in the line with its ticket.
  abbrev pub RecvAtPolls : Option ℕ → C → Poll (Result T RecvError) → Option ℕ → C → Type 0
  RecvAtPolls ticket c (Ready (Ok x)) left d = TakesAt key (table c) ticket (number c) (receiving.Received x) (table d) × (work d ≡ work c)
  RecvAtPolls ticket c (Ready (Err Closed)) left d = TakesAt key (table c) ticket (number c) receiving.Closed (table d) × (work d ≡ work c)
  RecvAtPolls ticket c (Ready (Err Taken)) left d = TakesAt key (table c) ticket (number c) receiving.Taken (table d) × (work d ≡ work c)
  RecvAtPolls ticket c (Ready (Err Memory)) left d = TakesAt key (table c) ticket (number c) receiving.Memory (table d) × (work d ≡ work c)
  RecvAtPolls ticket c Pending left d = ((left ≡ ticket) × TakesAt key (table c) ticket (number c) receiving.Waits (table d) × (work d ≡ work c)) ⊎ ((t : ℕ) × ((left ≡ Some t) × TakesAt key (table c) ticket (number c) (receiving.Joined t) (table d) × (work d ≡ work c)))

  -- The future leaves the line, and the channel is removed.
  abbrev pub RecvAtCancels : Option ℕ → C → C → Type 0
  RecvAtCancels ticket c d = DropsAt key (table c) ticket (number c) (table d) × (work d ≡ work c)

  -- The answer is that of a poll of such a future in some context.
  pub record RecvAtGives (answer : Result T RecvError) : Type 0 where
    pub ticket : Option ℕ
    pub at : C
    pub after : C
    pub polled : RecvAtPolls ticket at (Ready answer) None after
