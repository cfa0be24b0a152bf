-- The calls of a cell that is set once, each with its answer, and the wakes of the tasks that it owes.
use Rattle.std.specs.Prelude.{⊤, ◌+◌, ℕ, List, [], ◌∷◌, Option, Result, Ok, Err}
use Rattle.mono_locks.specs.declared.queues.Asked.{Asked}
use Rattle.mono_locks.specs.declared.queues.Asked.TheVariants as asked
use Rattle.mono_locks.specs.declared.queues.Entry.{Entry}
use Rattle.mono_locks.specs.declared.once_cell.OnceCell.{OnceCell}
use Rattle.mono_locks.specs.declared.once_cell.Init.{Init}
use Rattle.mono_locks.specs.declared.once_cell.Init.TheVariants as init
use Rattle.mono_locks.specs.declared.once_cell.SetError.{SetError}
use Rattle.mono_locks.specs.OnceCells.{Sets, Inits, Finishes, GivesBack, GivesUp, Pays}

pub data Event (T : Type 0) : Type 0 where
  was_set : (value : T) → (answer : Result ⊤ (SetError T)) → Event T
  asked_for : (ticket : Option ℕ) → (task : ℕ) → (answer : Asked (Init T)) → Event T
  finished : (value : T) → (answer : Result ⊤ T) → Event T
  gave_back : Event T
  gave_up : (ticket : Option ℕ) → (task : ℕ) → Event T
  served : (first : Option Entry) → Event T

abbrev pub Step : {T : Type 0} → OnceCell T → Event T → OnceCell T → Type 0
Step a (was_set x r) b = Sets a x r b
Step a (asked_for ticket task r) b = Inits a ticket task r b
Step a (finished x r) b = Finishes a x r b
Step a gave_back b = GivesBack a b
Step a (gave_up ticket task) b = GivesUp a ticket task b
Step a (served first) b = Pays a first b

module _ {T : Type 0} where
  -- How many turns the call gave.
  abbrev pub turns_by : Event T → ℕ
  turns_by (was_set x r) = 0
  turns_by (asked_for ticket task (asked.Got init.Set)) = 0
  turns_by (asked_for ticket task (asked.Got (init.Turn t))) = 1
  turns_by (asked_for ticket task asked.Waits) = 0
  turns_by (asked_for ticket task (asked.Joined t)) = 0
  turns_by (asked_for ticket task asked.Memory) = 0
  turns_by (finished x r) = 0
  turns_by gave_back = 0
  turns_by (gave_up ticket task) = 0
  turns_by (served first) = 0

  -- How many turns were given.
  abbrev pub turns : List (Event T) → ℕ
  turns [] = 0
  turns (e ∷ es) = turns_by e + turns es

  -- How many turns the call ended, at most.
  abbrev pub ends_by : Event T → ℕ
  ends_by (was_set x r) = 0
  ends_by (asked_for ticket task r) = 0
  ends_by (finished x (Ok done)) = 1
  ends_by (finished x (Err y)) = 0
  ends_by gave_back = 1
  ends_by (gave_up ticket task) = 0
  ends_by (served first) = 0

  -- How many turns were ended, at most.
  abbrev pub ends : List (Event T) → ℕ
  ends [] = 0
  ends (e ∷ es) = ends_by e + ends es
