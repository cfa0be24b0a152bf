-- The answer and the effect of one poll of a future that sends or receives.
use Rattle.std.specs.Prelude.{⊤, Bool, true, false, ◌≡◌, ◌⊎◌, ℕ, Option, Some, None, Result, Ok, Err}
use Rattle.std.specs.declared.alloc.AllocError.{AllocError}
use Rattle.mono_model.specs.Tasks.{Tasks}
use Rattle.mono_model.specs.declared.poll.Poll.{Poll}
use Rattle.mono_model.specs.declared.poll.Poll.TheVariants.{Ready, Pending}
use Rattle.mono_sync.specs.declared.mpsc.Channel.{Channel}
use Rattle.mono_sync.specs.declared.mpsc.Sending.TheVariants as sending
use Rattle.mono_sync.specs.declared.mpsc.Receiving.TheVariants as receiving
use Rattle.mono_sync.specs.declared.messages.SendError.{SendError}
use Rattle.mono_sync.specs.declared.messages.SendError.TheVariants.{Closed, Memory}
use Rattle.mono_sync.specs.Mpsc.{Sends, Receives, GivesUpSend, GivesUpReceive}

abbrev pub has_none : {T : Type 0} → Option T → Bool
has_none None = true
has_none (Some x) = false

module _ {T C : Type 0} (part : C → Channel T) (number : C → ℕ) (work : C → Tasks ⊤) where
  -- The channel's answer is the future's. A pending future is in the line with its ticket.
  abbrev pub SendPolls : Option T → Option ℕ → C → Poll (Result ⊤ (SendError T)) → Option T → Option ℕ → C → Type 0
  SendPolls None ticket c r kept left d = ⊥
  SendPolls (Some x) ticket c (Ready (Ok done)) kept left d = Sends (part c) ticket x (number c) sending.Sent (part d) × (work d ≡ work c)
  SendPolls (Some x) ticket c (Ready (Err (Closed y))) kept left d = Sends (part c) ticket x (number c) (sending.Closed y) (part d) × (work d ≡ work c)
  SendPolls (Some x) ticket c (Ready (Err (Memory y))) kept left d = Sends (part c) ticket x (number c) (sending.Memory y) (part d) × (work d ≡ work c)
  SendPolls (Some x) ticket c Pending kept left d = ((kept ≡ Some x) × (left ≡ ticket) × Sends (part c) ticket x (number c) (sending.Waits x) (part d) × (work d ≡ work c)) ⊎ ((t : ℕ) × ((kept ≡ Some x) × (left ≡ Some t) × Sends (part c) ticket x (number c) (sending.Joined t x) (part d) × (work d ≡ work c)))

  -- The future leaves the line.
  abbrev pub SendCancels : Option ℕ → C → C → Type 0
  SendCancels ticket c d = GivesUpSend (part c) ticket (number c) (part d) × (work d ≡ work c)

  -- The channel's answer is the future's. A pending future is in the line with its ticket.
  abbrev pub RecvPolls : Option ℕ → C → Poll (Result (Option T) AllocError) → Option ℕ → C → Type 0
  RecvPolls ticket c (Ready (Ok (Some x))) left d = Receives (part c) ticket (number c) (receiving.Received x) (part d) × (work d ≡ work c)
  RecvPolls ticket c (Ready (Ok None)) left d = Receives (part c) ticket (number c) receiving.Closed (part d) × (work d ≡ work c)
  RecvPolls ticket c (Ready (Err e)) left d = Receives (part c) ticket (number c) receiving.Memory (part d) × (work d ≡ work c)
  RecvPolls ticket c Pending left d = ((left ≡ ticket) × Receives (part c) ticket (number c) receiving.Waits (part d) × (work d ≡ work c)) ⊎ ((t : ℕ) × ((left ≡ Some t) × Receives (part c) ticket (number c) (receiving.Joined t) (part d) × (work d ≡ work c)))

  -- The future leaves the line.
  abbrev pub RecvCancels : Option ℕ → C → C → Type 0
  RecvCancels ticket c d = GivesUpReceive (part c) ticket (number c) (part d) × (work d ≡ work c)

  -- The answer is that of a poll of a future that has this message, in some context.
  pub record SendGives (message : Option T) (answer : Result ⊤ (SendError T)) : Type 0 where
    pub ticket : Option ℕ
    pub at : C
    pub after : C
    pub polled : SendPolls message ticket at (Ready answer) None None after

  -- The answer is that of a poll of such a future in some context.
  pub record RecvGives (answer : Result (Option T) AllocError) : Type 0 where
    pub ticket : Option ℕ
    pub at : C
    pub after : C
    pub polled : RecvPolls ticket at (Ready answer) None after
