-- The answer and the effect of one poll of a future that waits for another value.
use Rattle.std.specs.Prelude.{⊤, ◌≡◌, ◌⊎◌, ℕ, Option, Some, None, Result, Ok, Err}
use Rattle.mono_model.specs.Tasks.{Tasks}
use Rattle.mono_model.specs.declared.poll.Poll.{Poll}
use Rattle.mono_model.specs.declared.poll.Poll.TheVariants.{Ready, Pending}
use Rattle.mono_sync.specs.declared.watch.Watch.{Watch}
use Rattle.mono_sync.specs.declared.watch.Changing.TheVariants as changing
use Rattle.mono_sync.specs.declared.changes.ChangedError.{ChangedError}
use Rattle.mono_sync.specs.declared.changes.ChangedError.TheVariants.{Closed, Memory}
use Rattle.mono_sync.specs.Watches.{Changes, GivesUp}

module _ {T C : Type 0} (part : C → Watch T) (number : C → ℕ) (work : C → Tasks ⊤) where
  -- The answer of the watched value is the future's, and no task is woken. A pending future is in the line with its
  -- ticket.
  abbrev pub ChangedPolls : ℕ → Option ℕ → C → Poll (Result ℕ ChangedError) → Option ℕ → C → Type 0
  ChangedPolls seen ticket c (Ready (Ok v)) left d = Changes (part c) seen ticket (number c) (changing.Changed v) (part d) × (work d ≡ work c)
  ChangedPolls seen ticket c (Ready (Err Closed)) left d = Changes (part c) seen ticket (number c) changing.Closed (part d) × (work d ≡ work c)
  ChangedPolls seen ticket c (Ready (Err Memory)) left d = Changes (part c) seen ticket (number c) changing.Memory (part d) × (work d ≡ work c)
  ChangedPolls seen ticket c Pending left d = ((left ≡ ticket) × Changes (part c) seen ticket (number c) changing.Waits (part d) × (work d ≡ work c)) ⊎ ((t : ℕ) × ((left ≡ Some t) × Changes (part c) seen ticket (number c) (changing.Joined t) (part d) × (work d ≡ work c)))

  -- The future leaves the line.
  abbrev pub ChangedCancels : Option ℕ → C → C → Type 0
  ChangedCancels ticket c d = GivesUp (part c) ticket (number c) (part d) × (work d ≡ work c)

  -- The answer is that of a poll of a future that has seen this version, in some context.
  pub record ChangedGives (seen : ℕ) (answer : Result ℕ ChangedError) : Type 0 where
    pub ticket : Option ℕ
    pub at : C
    pub after : C
    pub polled : ChangedPolls seen ticket at (Ready answer) None after
