-- The answer and the effect of one poll of a future that waits for another value under one key.
use Rattle.std.specs.Prelude.{⊤, ◌≡◌, ◌⊎◌, ℕ, Option, Some, None, Result, Ok, Err}
use Rattle.mono_model.specs.Tasks.{Tasks}
use Rattle.mono_model.specs.Table.{Table}
use Rattle.mono_model.specs.declared.poll.Poll.{Poll}
use Rattle.mono_model.specs.declared.poll.Poll.TheVariants.{Ready, Pending}
use Rattle.mono_sync.specs.declared.watch.Watch.{Watch}
use Rattle.mono_sync.specs.declared.watch.Changing.{Changing}
use Rattle.mono_sync.specs.declared.watch.Changing.TheVariants as changing
use Rattle.mono_sync.specs.declared.changes.ChangedError.{ChangedError}
use Rattle.mono_sync.specs.declared.changes.ChangedError.TheVariants.{Closed, Memory}
use Rattle.mono_sync.specs.Watches.{Sends, Changes, GivesUp, Closes}
use Rattle.mono_sync.specs.KeyedCalls.{AtOr}

module _ {T : Type 0} (key : ℕ) where
  -- The watched value with this key is asked, as `Changes` says. With no such value the answer is that it was closed.
  abbrev pub ChangesAt : Table (Watch T) → ℕ → Option ℕ → ℕ → Changing → Table (Watch T) → Type 0
  ChangesAt a seen ticket me r b = AtOr (λ x y. Changes x seen ticket me r y) (r ≡ changing.Closed) key a b

  -- A future leaves the line of the watched value with this key, if there is one.
  abbrev pub GivesUpAt : Table (Watch T) → Option ℕ → ℕ → Table (Watch T) → Type 0
  GivesUpAt a ticket me b = AtOr (λ x y. GivesUp x ticket me y) ⊤ key a b

  -- The watched value with this key is replaced, as `Sends` says. With no such value the new one comes back.
  abbrev pub SendsAt : Table (Watch T) → T → Result T T → Table (Watch T) → Type 0
  SendsAt a value r b = AtOr (λ x y. Sends x value r y) (r ≡ Err value) key a b

  -- The watched value with this key is closed, if there is one.
  abbrev pub ClosesAt : Table (Watch T) → Table (Watch T) → Type 0
  ClosesAt a b = AtOr Closes ⊤ key a b

module _ {T C : Type 0} (table : C → Table (Watch T)) (number : C → ℕ) (work : C → Tasks ⊤) (key : ℕ) where
  -- The answer of the watched value is the future's. A pending future is in the line with its ticket.
  abbrev pub ChangedAtPolls : ℕ → Option ℕ → C → Poll (Result ℕ ChangedError) → Option ℕ → C → Type 0
  ChangedAtPolls seen ticket c (Ready (Ok v)) left d = ChangesAt key (table c) seen ticket (number c) (changing.Changed v) (table d) × (work d ≡ work c)
  ChangedAtPolls seen ticket c (Ready (Err Closed)) left d = ChangesAt key (table c) seen ticket (number c) changing.Closed (table d) × (work d ≡ work c)
  ChangedAtPolls seen ticket c (Ready (Err Memory)) left d = ChangesAt key (table c) seen ticket (number c) changing.Memory (table d) × (work d ≡ work c)
  ChangedAtPolls seen ticket c Pending left d = ((left ≡ ticket) × ChangesAt key (table c) seen ticket (number c) changing.Waits (table d) × (work d ≡ work c)) ⊎ ((t : ℕ) × ((left ≡ Some t) × ChangesAt key (table c) seen ticket (number c) (changing.Joined t) (table d) × (work d ≡ work c)))

  -- The future leaves the line.
  abbrev pub ChangedAtCancels : Option ℕ → C → C → Type 0
  ChangedAtCancels ticket c d = GivesUpAt key (table c) ticket (number c) (table d) × (work d ≡ work c)

  -- The answer is that of a poll of a future that has seen this version, in some context.
  pub record ChangedAtGives (seen : ℕ) (answer : Result ℕ ChangedError) : Type 0 where
    pub ticket : Option ℕ
    pub at : C
    pub after : C
    pub polled : ChangedAtPolls seen ticket at (Ready answer) None after
