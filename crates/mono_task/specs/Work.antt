-- Tasks without their outputs, which every context can expose.
use Rattle.std.specs.Prelude.{⊤, ◌≡◌, ℕ, Bool, true, false, if◌then◌else◌, Option, Some, None, Result, Ok, Err, map}
use Rattle.std.specs.Option.{option_map}
use Rattle.mono_model.specs.Table.{value_at, is_issued}
use Rattle.mono_model.specs.declared.task_error.TaskError.{TaskError}
use Rattle.mono_model.specs.declared.task_error.TaskError.TheVariants.{NoTask}
use Rattle.mono_model.specs.Joins.{drop_answer}
use Rattle.mono_model.specs.Tasks.{Tasks, Task, Phase, idle, queued, running, done, taken, is_finished}

abbrev pub phase_without : {O : Type 0} → Phase O → Phase ⊤
phase_without idle = idle
phase_without queued = queued
phase_without (running noted) = running noted
phase_without (done output) = done tt
phase_without taken = taken

abbrev pub task_without : {O : Type 0} → Task O → Task ⊤
task_without task = record { phase = phase_without task.phase; is_kept = task.is_kept; waiter = task.waiter }

abbrev pub without_outputs : {O : Type 0} → Tasks O → Tasks ⊤
without_outputs tasks = record { queue = tasks.queue; table = map (option_map task_without) tasks.table; limit = tasks.limit }

-- Whether the task has finished and its output was not taken.
abbrev pub is_done : {O : Type 0} → Phase O → Bool
is_done idle = false
is_done queued = false
is_done (running noted) = false
is_done (done output) = true
is_done taken = false

abbrev pub has_output : {O : Type 0} → Option (Task O) → Bool
has_output None = false
has_output (Some task) = is_done task.phase

-- Whether dropping the task's handle returns an output.
abbrev pub GivesOutput : {O : Type 0} → Tasks O → ℕ → Type 0
GivesOutput {O} tasks t = (output : O) × (drop_answer tasks t ≡ Ok (Some output))

-- Whether a task that was given out has finished, with its handle kept or dropped. A task that is not there has
-- finished.
abbrev pub has_finished : {O : Type 0} → Option (Task O) → Bool
has_finished None = true
has_finished (Some task) = is_finished task.phase

abbrev pub over_answer : {O : Type 0} → Tasks O → ℕ → Result Bool TaskError
over_answer tasks t = if is_issued tasks.table t then Ok (has_finished (value_at tasks.table t)) else Err NoTask
