-- A watched value, and the effect of its calls.
use Rattle.std.specs.Prelude.{Bool, true, false, ◌≡◌, ◌≢◌, ◌≤◌, ◌+◌, ◌^◌, ◌⊎◌, ℕ, List, Option, Result, Ok, Err}
use Rattle.mono_sync.specs.declared.lines.Waiter.{Waiter}
use Rattle.mono_sync.specs.declared.lines.Line.{Line}
use Rattle.mono_sync.specs.declared.lines.Coming.TheVariants.{Waits, Full}
use Rattle.mono_sync.specs.declared.watch.Watch.{Watch}
use Rattle.mono_sync.specs.declared.watch.Changing.{Changing}
use Rattle.mono_sync.specs.declared.watch.Changing.TheVariants as changing
use Rattle.mono_sync.specs.Lines.{Comes, Joins, Leaves, SameLine, TakesBelow, lists_at, owed_below, tasks_of}

module _ {T : Type 0} where
  -- The tasks that are to be woken: those that waited at the last send, and all once the value was closed.
  abbrev pub owed_by : Watch T → List ℕ
  owed_by a = owed_below a.is_closed a.cleared a.line

  -- A place is a ticket.
  abbrev pub listed_by : Watch T → List ℕ → ℕ → Bool
  listed_by a = lists_at a.line.waiters.items

  abbrev pub waiting_in : Watch T → List ℕ
  waiting_in a = tasks_of a.line.waiters.items

  -- All but the line stays.
  abbrev pub Kept : Watch T → Watch T → Type 0
  Kept a b = (b.value ≡ a.value) × (b.version ≡ a.version) × (b.is_closed ≡ a.is_closed) × (b.cleared ≡ a.cleared)

  -- The value is replaced, and all waiting tasks are to be woken. The new value comes back if it was closed or no version
  -- is left.
  abbrev pub Sends : Watch T → T → Result T T → Watch T → Type 0
  Sends a x (Ok old) b = (a.is_closed ≡ false) × (b.value ≡ x) × (old ≡ a.value) × (b.version ≡ a.version + 1) × (b.line ≡ a.line) × (b.cleared ≡ a.line.next) × (b.is_closed ≡ false)
  Sends a x (Err y) b = (y ≡ x) × ((a.is_closed ≡ true) ⊎ (2 ^ 64 ≤ a.version + 1)) × (b ≡ a)

  -- The value is changed without another version, and no task is woken.
  abbrev pub Edits : Watch T → T → Watch T → Type 0
  Edits a x b = (b.value ≡ x) × (b.version ≡ a.version) × (b.line ≡ a.line) × (b.cleared ≡ a.cleared) × (b.is_closed ≡ a.is_closed)

  -- A future of this task that has seen a version asks for another. It leaves the line if there is one, or the value was
  -- closed.
  abbrev pub Changes : Watch T → ℕ → Option ℕ → ℕ → Changing → Watch T → Type 0
  Changes a seen ticket me (changing.Changed v) b = (v ≡ a.version) × (a.version ≢ seen) × Leaves a.line ticket me b.line × Kept a b
  Changes a seen ticket me changing.Closed b = (a.version ≡ seen) × (a.is_closed ≡ true) × Leaves a.line ticket me b.line × Kept a b
  Changes a seen ticket me changing.Waits b = (a.version ≡ seen) × (a.is_closed ≡ false) × Comes a.line ticket me 0 Waits b.line × Kept a b
  Changes a seen ticket me (changing.Joined t) b = (a.version ≡ seen) × (a.is_closed ≡ false) × ((l : Line) × (Comes a.line ticket me 0 Full l × Joins l me (Ok t) b.line)) × Kept a b
  Changes a seen ticket me changing.Memory b = (a.version ≡ seen) × (a.is_closed ≡ false) × ((l : Line) × (Comes a.line ticket me 0 Full l × SameLine l b.line)) × Kept a b

  -- A future leaves the line, in a turn of this task.
  abbrev pub GivesUp : Watch T → Option ℕ → ℕ → Watch T → Type 0
  GivesUp a ticket me b = Leaves a.line ticket me b.line × Kept a b

  -- The value no longer changes, and all waiting tasks are to be woken.
  abbrev pub Closes : Watch T → Watch T → Type 0
  Closes a b = (b.value ≡ a.value) × (b.version ≡ a.version) × (b.line ≡ a.line) × (b.cleared ≡ a.cleared) × (b.is_closed ≡ true)

  -- The first waiting task is woken, if it waited at the last send or the value was closed.
  abbrev pub Pays : Watch T → Option Waiter → Watch T → Type 0
  Pays a first b = TakesBelow a.is_closed a.cleared a.line first b.line × Kept a b
