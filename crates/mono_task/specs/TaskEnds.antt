-- How a task finishes, before its waiter is woken.
use Rattle.std.specs.Prelude.{◌≡◌, ℕ, true, if◌then◌else◌, Some, None}
use Rattle.mono_model.specs.Table.{value_at}
use Rattle.mono_model.specs.Tasks.{Tasks, Task, done, with_task, without_task}
use Rattle.mono_task.specs.declared.entries.Handle.{Handle}
use Rattle.mono_task.specs.Entries.{is_kept, waiter_of}
use Rattle.mono_task.specs.Schedule.{Schedule}

-- The tasks after t has finished: it is done if its handle is kept, else removed.
abbrev pub finished : {O : Type 0} → Tasks O → ℕ → Handle → O → Tasks O
finished tasks t handle output = if is_kept handle then with_task tasks t (record { phase = done output; is_kept = true; waiter = None }) else without_task tasks t

-- The task whose turn ran has finished, and this was its handle.
pub record Finishes {O : Type 0} (old new : Schedule O) (output : O) (handle : Handle) : Type 0 where
  pub t : ℕ
  pub task : Task O
  pub turn : old.turn ≡ Some t
  pub was : value_at old.tasks.table t ≡ Some task
  pub kept : task.is_kept ≡ is_kept handle
  pub waiter : task.waiter ≡ waiter_of handle
  pub left : new ≡ record { tasks = finished old.tasks t handle output; turns = old.turns; turn = None }
