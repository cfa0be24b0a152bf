-- The view of the table of tasks: the tasks and the queue, how many turns have begun, and whose turn runs.
use Rattle.std.specs.Prelude.{ℕ, ◌+◌, ◌-◌, ◌^◌, min, List, [], ◌∷◌, Option, Some, None, Result, Ok, Err}
use Rattle.mono_model.specs.Table.{value_at}
use Rattle.mono_model.specs.Tasks.{Tasks, no_tasks, begun, paused_value, pause_answer, completed_value, complete_answer}
use Rattle.mono_model.specs.declared.task_error.TaskError.{TaskError}
use Rattle.mono_model.specs.declared.task_error.TaskError.TheVariants as error
use Rattle.mono_model.specs.declared.poll.Poll.{Poll}
use Rattle.mono_model.specs.declared.poll.Poll.TheVariants.{Ready, Pending}
use Rattle.mono_model.specs.declared.Ended.{Ended}
use Rattle.mono_model.specs.declared.Ended.TheVariants as ended

pub record Schedule (O : Type 0) : Type 0 where
  pub tasks : Tasks O
  -- How many turns have begun, at most 2 ^ 64 - 1.
  pub turns : ℕ
  -- The task whose turn runs, if any.
  pub turn : Option ℕ

abbrev pub no_schedule : {O : Type 0} → ℕ → Schedule O
no_schedule limit = record { tasks = no_tasks limit; turns = 0; turn = None }

-- The schedule with these tasks and everything else unchanged.
abbrev pub with_tasks : {O : Type 0} → Schedule O → Tasks O → Schedule O
with_tasks s tasks = record { tasks = tasks; turns = s.turns; turn = s.turn }

-- The count of turns after one more has begun.
abbrev pub one_more_turn : ℕ → ℕ
one_more_turn turns = min (turns + 1) (2 ^ 64 - 1)

abbrev pub front_of : List ℕ → Result ℕ TaskError
front_of [] = Err error.Idle
front_of (t ∷ rest) = Ok t

abbrev pub begin_answer : {O : Type 0} → Schedule O → Result ℕ TaskError
begin_answer s = front_of s.tasks.queue

abbrev pub begun_by : {O : Type 0} → List ℕ → Schedule O → Schedule O
begun_by [] s = s
begun_by (t ∷ rest) s = record { tasks = begun s.tasks t rest; turns = one_more_turn s.turns; turn = Some t }

abbrev pub after_begin : {O : Type 0} → Schedule O → Schedule O
after_begin s = begun_by s.tasks.queue s

-- The tasks after a turn of t has ended: pending, or ready with an output.
abbrev pub tasks_after : {O : Type 0} → Tasks O → ℕ → Poll O → Tasks O
tasks_after tasks t Pending = paused_value (value_at tasks.table t) tasks t
tasks_after tasks t (Ready output) = completed_value (value_at tasks.table t) tasks t output

abbrev pub ended_as : {O : Type 0} → Tasks O → ℕ → Poll O → Ended
ended_as tasks t Pending = pause_answer (value_at tasks.table t)
ended_as tasks t (Ready output) = complete_answer (value_at tasks.table t)

abbrev pub ended_by : {O : Type 0} → Option ℕ → Schedule O → Poll O → Schedule O
ended_by None s end = s
ended_by (Some t) s end = record { tasks = tasks_after s.tasks t end; turns = s.turns; turn = None }

-- The schedule after the end of the running turn.
abbrev pub after_end : {O : Type 0} → Schedule O → Poll O → Schedule O
after_end s end = ended_by s.turn s end

abbrev pub end_by : {O : Type 0} → Option ℕ → Schedule O → Poll O → Ended
end_by None s end = ended.Idle
end_by (Some t) s end = ended_as s.tasks t end

-- The answer of the end of the running turn.
abbrev pub end_answer : {O : Type 0} → Schedule O → Poll O → Ended
end_answer s end = end_by s.turn s end
