-- The answer and the effect of one poll of a future that acquires a permit.
use Rattle.std.specs.Prelude.{⊤, ◌≡◌, ◌⊎◌, ℕ, Option, Some, None, Result, Ok, Err}
use Rattle.mono_model.specs.Tasks.{Tasks}
use Rattle.mono_model.specs.declared.poll.Poll.{Poll}
use Rattle.mono_model.specs.declared.poll.Poll.TheVariants.{Ready, Pending}
use Rattle.mono_sync.specs.declared.semaphores.Semaphore.{Semaphore}
use Rattle.mono_sync.specs.declared.semaphores.Acquiring.TheVariants as acquiring
use Rattle.mono_sync.specs.declared.permits.AcquireError.{AcquireError}
use Rattle.mono_sync.specs.declared.permits.AcquireError.TheVariants.{Closed, Memory}
use Rattle.mono_sync.specs.Semaphores.{Acquires, GivesUp}

module _ {C : Type 0} (part : C → Semaphore) (number : C → ℕ) (work : C → Tasks ⊤) where
  -- The semaphore's answer is the future's, and no task is woken. A pending future is in the line with its ticket.
  abbrev pub AcquirePolls : Option ℕ → C → Poll (Result ⊤ AcquireError) → Option ℕ → C → Type 0
  AcquirePolls ticket c (Ready (Ok done)) left d = Acquires (part c) ticket (number c) acquiring.Acquired (part d) × (work d ≡ work c)
  AcquirePolls ticket c (Ready (Err Closed)) left d = Acquires (part c) ticket (number c) acquiring.Closed (part d) × (work d ≡ work c)
  AcquirePolls ticket c (Ready (Err Memory)) left d = Acquires (part c) ticket (number c) acquiring.Memory (part d) × (work d ≡ work c)
  AcquirePolls ticket c Pending left d = ((left ≡ ticket) × Acquires (part c) ticket (number c) acquiring.Waits (part d) × (work d ≡ work c)) ⊎ ((t : ℕ) × ((left ≡ Some t) × Acquires (part c) ticket (number c) (acquiring.Joined t) (part d) × (work d ≡ work c)))

  -- The future leaves the line.
  abbrev pub AcquireCancels : Option ℕ → C → C → Type 0
  AcquireCancels ticket c d = GivesUp (part c) ticket (number c) (part d) × (work d ≡ work c)

  -- The answer is that of a poll of such a future in some context.
  pub record AcquireGives (answer : Result ⊤ AcquireError) : Type 0 where
    pub ticket : Option ℕ
    pub at : C
    pub after : C
    pub polled : AcquirePolls ticket at (Ready answer) None after
