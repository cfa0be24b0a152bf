-- The outputs in a table of tasks, and that calls of a running task add none.
use Rattle.std.specs.Prelude.{◌≡◌, ℕ, Option, Some, None}
use Rattle.mono_model.specs.Table.{value_at, next_number}
use Rattle.mono_model.specs.Tasks.{Tasks, Task}
use Rattle.mono_model.specs.Joins.{output_of}

abbrev pub output_in : {O : Type 0} → Option (Task O) → Option O
output_in None = None
output_in (Some task) = output_of task.phase

-- The output of a task that has finished, if its handle is kept and the output was not taken.
abbrev pub output_at : {O : Type 0} → Tasks O → ℕ → Option O
output_at tasks t = output_in (value_at tasks.table t)

-- Each output that is there now was there before.
abbrev pub KeepsOutputs : {O : Type 0} → Tasks O → Tasks O → Type 0
KeepsOutputs {O} old new = (t : ℕ) (x : O) → output_at new t ≡ Some x → output_at old t ≡ Some x

-- The same, and no number was given out.
pub record AddsNone {O : Type 0} (old new : Tasks O) : Type 0 where
  pub outputs : KeepsOutputs old new
  pub next : next_number new.table ≡ next_number old.table
