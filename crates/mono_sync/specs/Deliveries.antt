-- The answer and the effect of one poll of a future that receives the one message.
use Rattle.std.specs.Prelude.{⊤, ◌≡◌, ◌⊎◌, ℕ, Option, Some, None, Result, Ok, Err}
use Rattle.mono_model.specs.Tasks.{Tasks}
use Rattle.mono_model.specs.declared.poll.Poll.{Poll}
use Rattle.mono_model.specs.declared.poll.Poll.TheVariants.{Ready, Pending}
use Rattle.mono_sync.specs.declared.oneshot.Oneshot.{Oneshot}
use Rattle.mono_sync.specs.declared.oneshot.Receiving.TheVariants as receiving
use Rattle.mono_sync.specs.declared.deliveries.RecvError.{RecvError}
use Rattle.mono_sync.specs.declared.deliveries.RecvError.TheVariants.{Closed, Taken, Memory}
use Rattle.mono_sync.specs.Oneshot.{Receives, GivesUp}

module _ {T C : Type 0} (part : C → Oneshot T) (number : C → ℕ) (work : C → Tasks ⊤) where
  -- The channel's answer is the future's. A pending future is in the line with its ticket.
  abbrev pub RecvPolls : Option ℕ → C → Poll (Result T RecvError) → Option ℕ → C → Type 0
  RecvPolls ticket c (Ready (Ok x)) left d = Receives (part c) ticket (number c) (receiving.Received x) (part d) × (work d ≡ work c)
  RecvPolls ticket c (Ready (Err Closed)) left d = Receives (part c) ticket (number c) receiving.Closed (part d) × (work d ≡ work c)
  RecvPolls ticket c (Ready (Err Taken)) left d = Receives (part c) ticket (number c) receiving.Taken (part d) × (work d ≡ work c)
  RecvPolls ticket c (Ready (Err Memory)) left d = Receives (part c) ticket (number c) receiving.Memory (part d) × (work d ≡ work c)
  RecvPolls ticket c Pending left d = ((left ≡ ticket) × Receives (part c) ticket (number c) receiving.Waits (part d) × (work d ≡ work c)) ⊎ ((t : ℕ) × ((left ≡ Some t) × Receives (part c) ticket (number c) (receiving.Joined t) (part d) × (work d ≡ work c)))

  -- The future leaves the line.
  abbrev pub RecvCancels : Option ℕ → C → C → Type 0
  RecvCancels ticket c d = GivesUp (part c) ticket (number c) (part d) × (work d ≡ work c)

  -- The answer is that of a poll of such a future in some context.
  pub record RecvGives (answer : Result T RecvError) : Type 0 where
    pub ticket : Option ℕ
    pub at : C
    pub after : C
    pub polled : RecvPolls ticket at (Ready answer) None after
