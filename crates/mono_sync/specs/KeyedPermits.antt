-- The answer and the effect of one poll of a future that acquires a permit of the semaphore with one key.
use Rattle.std.specs.Prelude.{⊤, ◌≡◌, ◌⊎◌, ℕ, Option, Some, None, Result, Ok, Err}
use Rattle.mono_model.specs.Tasks.{Tasks}
use Rattle.mono_model.specs.Table.{Table}
use Rattle.mono_model.specs.declared.poll.Poll.{Poll}
use Rattle.mono_model.specs.declared.poll.Poll.TheVariants.{Ready, Pending}
use Rattle.mono_sync.specs.declared.semaphores.Semaphore.{Semaphore}
use Rattle.mono_sync.specs.declared.semaphores.Acquiring.{Acquiring}
use Rattle.mono_sync.specs.declared.semaphores.Acquiring.TheVariants as acquiring
use Rattle.mono_sync.specs.declared.semaphores.TryAcquireError.{TryAcquireError}
use Rattle.mono_sync.specs.declared.semaphores.TryAcquireError.TheVariants as shut
use Rattle.mono_sync.specs.declared.semaphores.TooManyPermits.{TooManyPermits}
use Rattle.mono_sync.specs.declared.permits.AcquireError.{AcquireError}
use Rattle.mono_sync.specs.declared.permits.AcquireError.TheVariants.{Closed, Memory}
use Rattle.mono_sync.specs.Semaphores.{TriesToAcquire, Acquires, Releases, GivesUp, Closes}
use Rattle.mono_sync.specs.KeyedCalls.{AtOr}

module _ (key : ℕ) where
  -- The semaphore with this key is asked, as `Acquires` says. With no such semaphore the answer is that it was closed.
  abbrev pub AcquiresAt : Table Semaphore → Option ℕ → ℕ → Acquiring → Table Semaphore → Type 0
  AcquiresAt a ticket me r b = AtOr (λ x y. Acquires x ticket me r y) (r ≡ acquiring.Closed) key a b

  -- A future leaves the line of the semaphore with this key, if there is one.
  abbrev pub GivesUpAt : Table Semaphore → Option ℕ → ℕ → Table Semaphore → Type 0
  GivesUpAt a ticket me b = AtOr (λ x y. GivesUp x ticket me y) ⊤ key a b

  -- The semaphore with this key gives a permit, as `TriesToAcquire` says. With no such semaphore the answer is that it was closed.
  abbrev pub TriesToAcquireAt : Table Semaphore → Result ⊤ TryAcquireError → Table Semaphore → Type 0
  TriesToAcquireAt a r b = AtOr (λ x y. TriesToAcquire x r y) (r ≡ Err shut.Closed) key a b

  -- The semaphore with this key gets a permit back, as `Releases` says. With no such semaphore nothing is done.
  abbrev pub ReleasesAt : Table Semaphore → Result ⊤ TooManyPermits → Table Semaphore → Type 0
  ReleasesAt a r b = AtOr (λ x y. Releases x r y) (r ≡ Ok tt) key a b

  -- The semaphore with this key is closed, if there is one.
  abbrev pub ClosesAt : Table Semaphore → Table Semaphore → Type 0
  ClosesAt a b = AtOr Closes ⊤ key a b

module _ {C : Type 0} (table : C → Table Semaphore) (number : C → ℕ) (work : C → Tasks ⊤) (key : ℕ) where
  -- The answer is the future's. A pending future is in the line with its ticket.
  abbrev pub AcquireAtPolls : Option ℕ → C → Poll (Result ⊤ AcquireError) → Option ℕ → C → Type 0
  AcquireAtPolls ticket c (Ready (Ok done)) left d = AcquiresAt key (table c) ticket (number c) acquiring.Acquired (table d) × (work d ≡ work c)
  AcquireAtPolls ticket c (Ready (Err Closed)) left d = AcquiresAt key (table c) ticket (number c) acquiring.Closed (table d) × (work d ≡ work c)
  AcquireAtPolls ticket c (Ready (Err Memory)) left d = AcquiresAt key (table c) ticket (number c) acquiring.Memory (table d) × (work d ≡ work c)
  AcquireAtPolls ticket c Pending left d = ((left ≡ ticket) × AcquiresAt key (table c) ticket (number c) acquiring.Waits (table d) × (work d ≡ work c)) ⊎ ((t : ℕ) × ((left ≡ Some t) × AcquiresAt key (table c) ticket (number c) (acquiring.Joined t) (table d) × (work d ≡ work c)))

  -- The future leaves the line.
  abbrev pub AcquireAtCancels : Option ℕ → C → C → Type 0
  AcquireAtCancels ticket c d = GivesUpAt key (table c) ticket (number c) (table d) × (work d ≡ work c)

  -- The answer is that of a poll of such a future in some context.
  pub record AcquireAtGives (answer : Result ⊤ AcquireError) : Type 0 where
    pub ticket : Option ℕ
    pub at : C
    pub after : C
    pub polled : AcquireAtPolls ticket at (Ready answer) None after
