-- The answers of a task's handle and the tasks afterwards: a poll of the handle, its drop, and whether its task has
-- finished. Each call is refused if the task was never given out, then if its handle is dropped. A refusal changes
-- nothing.
use Rattle.std.specs.Prelude.{ℕ, Bool, true, false, if◌then◌else◌, Option, Some, None, Result, Ok, Err}
use Rattle.mono_model.specs.Table.{value_at, is_issued}
use Rattle.mono_model.specs.Tasks.{Tasks, Task, Phase, idle, queued, running, done, taken, is_finished, with_task, without_task, woke}
use Rattle.mono_model.specs.declared.Woke.{Woke}
use Rattle.mono_model.specs.declared.task_error.TaskError.{TaskError}
use Rattle.mono_model.specs.declared.task_error.TaskError.TheVariants.{NoTask, NoHandle, Taken}
use Rattle.mono_model.specs.declared.poll.Poll.{Poll}
use Rattle.mono_model.specs.declared.poll.Poll.TheVariants.{Ready, Pending}

-- The task if its handle is kept, else the refusal.
abbrev pub kept_value : {O : Type 0} → Option (Task O) → Result (Task O) TaskError
kept_value None = Err NoHandle
kept_value (Some task) = if task.is_kept then Ok task else Err NoHandle

-- The task t if its handle is kept, else the refusal.
abbrev pub kept_task : {O : Type 0} → Tasks O → ℕ → Result (Task O) TaskError
kept_task tasks t = if is_issued tasks.table t then kept_value (value_at tasks.table t) else Err NoTask

-- The answer of a poll of the handle: the output, once, and before that pending.
abbrev pub output_in : {O : Type 0} → Phase O → Result (Poll O) TaskError
output_in idle = Ok Pending
output_in queued = Ok Pending
output_in (running noted) = Ok Pending
output_in (done output) = Ok (Ready output)
output_in taken = Err Taken

abbrev pub join_value : {O : Type 0} → Result (Task O) TaskError → Result (Poll O) TaskError
join_value (Ok task) = output_in task.phase
join_value (Err error) = Err error

-- The answer of a poll of the handle of t.
abbrev pub join_answer : {O : Type 0} → Tasks O → ℕ → Result (Poll O) TaskError
join_answer tasks t = join_value (kept_task tasks t)

-- The tasks after one task has become the only waiter for the output of t.
abbrev pub waited_for : {O : Type 0} → Tasks O → ℕ → Phase O → ℕ → Tasks O
waited_for tasks t phase by = with_task tasks t (record { phase = phase; is_kept = true; waiter = Some by })

abbrev pub joined_in : {O : Type 0} → Phase O → Tasks O → ℕ → ℕ → Tasks O
joined_in idle tasks t by = waited_for tasks t idle by
joined_in queued tasks t by = waited_for tasks t queued by
joined_in (running noted) tasks t by = waited_for tasks t (running noted) by
joined_in (done output) tasks t by = with_task tasks t (record { phase = taken; is_kept = true; waiter = None })
joined_in taken tasks t by = tasks

abbrev pub joined_value : {O : Type 0} → Result (Task O) TaskError → Tasks O → ℕ → ℕ → Tasks O
joined_value (Ok task) tasks t by = joined_in task.phase tasks t by
joined_value (Err error) tasks t by = tasks

-- The tasks after another task has polled the handle of t. An output that was there is taken; otherwise that task waits
-- for it, instead of any earlier one.
abbrev pub joined : {O : Type 0} → Tasks O → ℕ → ℕ → Tasks O
joined tasks t by = joined_value (kept_task tasks t) tasks t by

-- The output that a drop of the handle returns: one that was not taken.
abbrev pub output_of : {O : Type 0} → Phase O → Option O
output_of idle = None
output_of queued = None
output_of (running noted) = None
output_of (done output) = Some output
output_of taken = None

abbrev pub drop_value : {O : Type 0} → Result (Task O) TaskError → Result (Option O) TaskError
drop_value (Ok task) = Ok (output_of task.phase)
drop_value (Err error) = Err error

-- The answer of a drop of the handle of t.
abbrev pub drop_answer : {O : Type 0} → Tasks O → ℕ → Result (Option O) TaskError
drop_answer tasks t = drop_value (kept_task tasks t)

-- The tasks after t has lost its handle and its waiter; t runs on.
abbrev pub let_go : {O : Type 0} → Tasks O → ℕ → Phase O → Tasks O
let_go tasks t phase = with_task tasks t (record { phase = phase; is_kept = false; waiter = None })

abbrev pub dropped_in : {O : Type 0} → Phase O → Tasks O → ℕ → Tasks O
dropped_in idle tasks t = let_go tasks t idle
dropped_in queued tasks t = let_go tasks t queued
dropped_in (running noted) tasks t = let_go tasks t (running noted)
dropped_in (done output) tasks t = without_task tasks t
dropped_in taken tasks t = without_task tasks t

abbrev pub dropped_value : {O : Type 0} → Result (Task O) TaskError → Tasks O → ℕ → Tasks O
dropped_value (Ok task) tasks t = dropped_in task.phase tasks t
dropped_value (Err error) tasks t = tasks

-- The tasks after a drop of the handle of t: a finished task is removed, and any other runs on without a handle.
abbrev pub join_dropped : {O : Type 0} → Tasks O → ℕ → Tasks O
join_dropped tasks t = dropped_value (kept_task tasks t) tasks t

abbrev pub finished_value : {O : Type 0} → Result (Task O) TaskError → Result Bool TaskError
finished_value (Ok task) = Ok (is_finished task.phase)
finished_value (Err error) = Err error

-- Whether the task t has finished, for its handle, or the refusal.
abbrev pub finished_answer : {O : Type 0} → Tasks O → ℕ → Result Bool TaskError
finished_answer tasks t = finished_value (kept_task tasks t)

-- The answer of a wake of t, which may never have been given out.
abbrev pub wake_answer : {O : Type 0} → Tasks O → ℕ → Result Woke TaskError
wake_answer tasks t = if is_issued tasks.table t then Ok (woke tasks t) else Err NoTask
