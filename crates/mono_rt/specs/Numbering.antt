-- Tasks with numbers in the place of their outputs: in this form a runtime's tasks are those of the reference machine.
use Rattle.std.specs.Prelude.{ℕ, map, Option, Result, Ok, Err}
use Rattle.std.specs.Option.{option_map}
use Rattle.mono_model.specs.Tasks.{Tasks, Task, Phase, idle, queued, running, done, taken}
use Rattle.mono_model.specs.declared.task_error.TaskError.{TaskError}
use Rattle.mono_model.specs.declared.poll.Poll.{Poll}
use Rattle.mono_model.specs.declared.poll.Poll.TheVariants.{Ready, Pending}
use Rattle.mono_rt.specs.declared.parts.errors.RunError.{RunError}
use Rattle.mono_machine.specs.declared.events.End.{End}
use Rattle.mono_machine.specs.declared.events.End.TheVariants as end

module _ {O : Type 0} (number : O → ℕ) where
  abbrev pub phase_numbered : Phase O → Phase ℕ
  phase_numbered idle = idle
  phase_numbered queued = queued
  phase_numbered (running noted) = running noted
  phase_numbered (done output) = done (number output)
  phase_numbered taken = taken

  abbrev pub task_numbered : Task O → Task ℕ
  task_numbered task = record { phase = phase_numbered task.phase; is_kept = task.is_kept; waiter = task.waiter }

  abbrev pub numbered : Tasks O → Tasks ℕ
  numbered tasks = record { queue = tasks.queue; table = map (option_map task_numbered) tasks.table; limit = tasks.limit }

  abbrev pub poll_numbered : Poll O → Poll ℕ
  poll_numbered (Ready output) = Ready (number output)
  poll_numbered Pending = Pending

  -- the answers of a poll of a handle and of its drop
  abbrev pub join_numbered : Result (Poll O) TaskError → Result (Poll ℕ) TaskError
  join_numbered (Ok poll) = Ok (poll_numbered poll)
  join_numbered (Err e) = Err e

  abbrev pub drop_numbered : Result (Option O) TaskError → Result (Option ℕ) TaskError
  drop_numbered (Ok output) = Ok (option_map number output)
  drop_numbered (Err e) = Err e

  -- the answer of a call that runs a main task
  abbrev pub answer_numbered : Result O RunError → Result ℕ RunError
  answer_numbered (Ok output) = Ok (number output)
  answer_numbered (Err e) = Err e

  -- the end of a turn whose future gave this answer
  abbrev pub end_of : Poll O → End
  end_of (Ready output) = end.Ready (number output)
  end_of Pending = end.Pending
