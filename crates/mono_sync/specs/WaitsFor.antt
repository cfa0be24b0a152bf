-- The answer and the effect of a future that waits until a watched value meets a condition.
use Rattle.std.specs.Prelude.{⊤, Bool, true, false, ◌≡◌, ◌⊎◌, ℕ, Option, Some, None, Result, Ok, Err}
use Rattle.mono_model.specs.Tasks.{Tasks}
use Rattle.mono_model.specs.declared.poll.Poll.{Poll}
use Rattle.mono_model.specs.declared.poll.Poll.TheVariants.{Ready, Pending}
use Rattle.mono_sync.specs.declared.watch.Watch.{Watch}
use Rattle.mono_sync.specs.declared.watch.Changing.{Changing}
use Rattle.mono_sync.specs.declared.watch.Changing.TheVariants as changing
use Rattle.mono_sync.specs.declared.changes.ChangedError.{ChangedError}
use Rattle.mono_sync.specs.declared.changes.ChangedError.TheVariants.{Closed, Memory}
use Rattle.mono_sync.specs.Watches.{Changes, GivesUp}

module _ {T : Type 0} where
  -- The answer is the version if the value meets the condition, also if it was closed. Otherwise the future waits for another
  -- value, as one that has seen this version.
  abbrev pub WaitsIf : Bool → Watch T → Option ℕ → ℕ → Changing → Watch T → Type 0
  WaitsIf true a ticket me r b = (r ≡ changing.Changed a.version) × GivesUp a ticket me b
  WaitsIf false a ticket me r b = Changes a a.version ticket me r b

  -- The closure has said whether the value meets the condition.
  abbrev pub WaitsFor : (T → Bool → Type 0) → Watch T → Option ℕ → ℕ → Changing → Watch T → Type 0
  WaitsFor says a ticket me r b = (does_meet : Bool) × (says a.value does_meet × WaitsIf does_meet a ticket me r b)

module _ {T C : Type 0} (part : C → Watch T) (number : C → ℕ) (work : C → Tasks ⊤) (says : T → Bool → Type 0) where
  -- The answer of the watched value is the future's, and no task is woken. A pending future is in the line with its
  -- ticket.
  abbrev pub WaitForPolls : Option ℕ → C → Poll (Result ℕ ChangedError) → Option ℕ → C → Type 0
  WaitForPolls ticket c (Ready (Ok v)) left d = WaitsFor says (part c) ticket (number c) (changing.Changed v) (part d) × (work d ≡ work c)
  WaitForPolls ticket c (Ready (Err Closed)) left d = WaitsFor says (part c) ticket (number c) changing.Closed (part d) × (work d ≡ work c)
  WaitForPolls ticket c (Ready (Err Memory)) left d = WaitsFor says (part c) ticket (number c) changing.Memory (part d) × (work d ≡ work c)
  WaitForPolls ticket c Pending left d = ((left ≡ ticket) × WaitsFor says (part c) ticket (number c) changing.Waits (part d) × (work d ≡ work c)) ⊎ ((t : ℕ) × ((left ≡ Some t) × WaitsFor says (part c) ticket (number c) (changing.Joined t) (part d) × (work d ≡ work c)))

  -- The answer is that of a poll of such a future, in some context.
  pub record WaitForGives (answer : Result ℕ ChangedError) : Type 0 where
    pub ticket : Option ℕ
    pub at : C
    pub after : C
    pub polled : WaitForPolls ticket at (Ready answer) None after
