-- The answer and the effect of one poll of a future that waits for a notice.
use Rattle.std.specs.Prelude.{⊤, ◌≡◌, ◌⊎◌, ℕ, Option, Some, None, Result, Ok, Err}
use Rattle.std.specs.declared.alloc.AllocError.{AllocError}
use Rattle.mono_model.specs.Tasks.{Tasks}
use Rattle.mono_model.specs.declared.poll.Poll.{Poll}
use Rattle.mono_model.specs.declared.poll.Poll.TheVariants.{Ready, Pending}
use Rattle.mono_sync.specs.declared.notices.Notify.{Notify}
use Rattle.mono_sync.specs.declared.notices.Notifying.TheVariants as notifying
use Rattle.mono_sync.specs.Notices.{Awaits, GivesUp}

module _ {C : Type 0} (part : C → Notify) (number : C → ℕ) (work : C → Tasks ⊤) where
  -- The notice's answer is the future's. A pending future is in the line with its ticket.
  abbrev pub NotifiedPolls : Option ℕ → C → Poll (Result ⊤ AllocError) → Option ℕ → C → Type 0
  NotifiedPolls ticket c (Ready (Ok done)) left d = Awaits (part c) ticket (number c) notifying.Notified (part d) × (work d ≡ work c)
  NotifiedPolls ticket c (Ready (Err e)) left d = Awaits (part c) ticket (number c) notifying.Memory (part d) × (work d ≡ work c)
  NotifiedPolls ticket c Pending left d = ((left ≡ ticket) × Awaits (part c) ticket (number c) notifying.Waits (part d) × (work d ≡ work c)) ⊎ ((t : ℕ) × ((left ≡ Some t) × Awaits (part c) ticket (number c) (notifying.Joined t) (part d) × (work d ≡ work c)))

  -- The future leaves the line, or passes its notice on.
  abbrev pub NotifiedCancels : Option ℕ → C → C → Type 0
  NotifiedCancels ticket c d = GivesUp (part c) ticket (number c) (part d) × (work d ≡ work c)

  -- The answer is that of a poll of such a future in some context.
  pub record NotifiedGives (answer : Result ⊤ AllocError) : Type 0 where
    pub ticket : Option ℕ
    pub at : C
    pub after : C
    pub polled : NotifiedPolls ticket at (Ready answer) None after
