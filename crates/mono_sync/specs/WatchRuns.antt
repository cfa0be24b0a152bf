-- The calls of a watched value, each with its answer.
use Rattle.std.specs.Prelude.{ℕ, Option, Result}
use Rattle.mono_sync.specs.declared.lines.Waiter.{Waiter}
use Rattle.mono_sync.specs.declared.watch.Watch.{Watch}
use Rattle.mono_sync.specs.declared.watch.Changing.{Changing}
use Rattle.mono_sync.specs.Watches.{Sends, Edits, Changes, GivesUp, Closes, Pays}

-- A call with its answer, or the wake of the first owed task.
pub data Event (T : Type 0) : Type 0 where
  sent : (value : T) → (answer : Result T T) → Event T
  edited : (value : T) → Event T
  asked : (seen : ℕ) → (ticket : Option ℕ) → (task : ℕ) → (answer : Changing) → Event T
  gave_up : (ticket : Option ℕ) → (task : ℕ) → Event T
  closed : Event T
  served : (first : Option Waiter) → Event T

abbrev pub Step : {T : Type 0} → Watch T → Event T → Watch T → Type 0
Step a (sent x r) b = Sends a x r b
Step a (edited x) b = Edits a x b
Step a (asked seen ticket task r) b = Changes a seen ticket task r b
Step a (gave_up ticket task) b = GivesUp a ticket task b
Step a closed b = Closes a b
Step a (served first) b = Pays a first b
