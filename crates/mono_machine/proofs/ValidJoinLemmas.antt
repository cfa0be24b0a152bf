-- Each call on the handle of a task leaves valid tasks, and gives out no number.
use Rattle.std.proofs.Common.{◌≡◌, ◌<◌, ℕ, true, false, Bool, cond, Some, None, Option, refl, ap, sym}
use Rattle.std.specs.Prelude.{Result, Ok, Err}
use Rattle.std.proofs.lemmas.List.{length-set}
use Rattle.mono_model.specs.Table.{value_at, next_number, is_issued}
use Rattle.mono_model.specs.Tasks.{Tasks, Task, Phase, idle, queued, running, done, taken, with_task}
use Rattle.mono_model.specs.Joins.{kept_task, kept_value, dropped_in, dropped_value, join_dropped, joined_in, joined_value, joined}
use Rattle.mono_model.specs.Valid.{AreValidTasks, is_queued, is_running, is_unfinished}
use Rattle.mono_model.specs.declared.task_error.TaskError.{TaskError}
use Rattle.mono_model.specs.declared.task_error.TaskError.TheVariants.{NoTask, NoHandle}
use Rattle.mono_model.proofs.ValidTaskLemmas.{same_phase, finished_gone}

true-false : true ≡ false → ⊥
true-false e = cc

module _ {O : Type 0} (turn : Option ℕ) (tasks : Tasks O) (t : ℕ) (valid : AreValidTasks turn tasks) where
  -- the drop of the handle
  dropped_at : (task : Task O) → value_at tasks.table t ≡ Some task → (phase : Phase O) → task.phase ≡ phase → AreValidTasks turn (dropped_in phase tasks t)
  dropped_at task at idle is = same_phase turn tasks t task _ valid at (ap is_queued (sym is)) (ap is_running (sym is)) (record { waiter = tt; is_live = λ over. absurd (true-false over) })
  dropped_at task at queued is = same_phase turn tasks t task _ valid at (ap is_queued (sym is)) (ap is_running (sym is)) (record { waiter = tt; is_live = λ over. absurd (true-false over) })
  dropped_at task at (running noted) is = same_phase turn tasks t task _ valid at (ap is_queued (sym is)) (ap is_running (sym is)) (record { waiter = tt; is_live = λ over. absurd (true-false over) })
  dropped_at task at (done output) is = finished_gone turn tasks t task valid at (ap is_queued is) (ap is_running is)
  dropped_at task at taken is = finished_gone turn tasks t task valid at (ap is_queued is) (ap is_running is)

  dropped_kept : (task : Task O) → value_at tasks.table t ≡ Some task → (k : Bool) → AreValidTasks turn (dropped_value (cond k (Ok task) (Err NoHandle)) tasks t)
  dropped_kept task at true = dropped_at task at task.phase refl
  dropped_kept task at false = valid

  dropped_by : (b : Bool) (v : Option (Task O)) → value_at tasks.table t ≡ v → AreValidTasks turn (dropped_value (cond b (kept_value v) (Err NoTask)) tasks t)
  dropped_by true None at = valid
  dropped_by true (Some task) at = dropped_kept task at task.is_kept
  dropped_by false v at = valid

  pub valid_join_dropped : AreValidTasks turn (join_dropped tasks t)
  valid_join_dropped = dropped_by (is_issued tasks.table t) (value_at tasks.table t) refl

  -- a poll of the handle by a task that was given out
  waits_at : (by : ℕ) → by < next_number tasks.table → (task : Task O) → value_at tasks.table t ≡ Some task → (phase : Phase O) → task.phase ≡ phase → is_unfinished phase ≡ true
      → AreValidTasks turn (with_task tasks t (record { phase = phase; is_kept = true; waiter = Some by }))
  waits_at by given task at phase is unfinished =
      same_phase turn tasks t task (record { phase = phase; is_kept = true; waiter = Some by }) valid at (ap is_queued (sym is)) (ap is_running (sym is)) (record { waiter = (given, unfinished, refl); is_live = λ over. refl })

  joined_at : (by : ℕ) → by < next_number tasks.table → (task : Task O) → value_at tasks.table t ≡ Some task → (phase : Phase O) → task.phase ≡ phase → AreValidTasks turn (joined_in phase tasks t by)
  joined_at by given task at idle is = waits_at by given task at idle is refl
  joined_at by given task at queued is = waits_at by given task at queued is refl
  joined_at by given task at (running noted) is = waits_at by given task at (running noted) is refl
  joined_at by given task at (done output) is = same_phase turn tasks t task (record { phase = taken; is_kept = true; waiter = None }) valid at (ap is_queued (sym is)) (ap is_running (sym is)) (record { waiter = tt; is_live = λ over. refl })
  joined_at by given task at taken is = valid

  joined_kept : (by : ℕ) → by < next_number tasks.table → (task : Task O) → value_at tasks.table t ≡ Some task → (k : Bool) → AreValidTasks turn (joined_value (cond k (Ok task) (Err NoHandle)) tasks t by)
  joined_kept by given task at true = joined_at by given task at task.phase refl
  joined_kept by given task at false = valid

  joined_by : (by : ℕ) → by < next_number tasks.table → (b : Bool) (v : Option (Task O)) → value_at tasks.table t ≡ v → AreValidTasks turn (joined_value (cond b (kept_value v) (Err NoTask)) tasks t by)
  joined_by by given true None at = valid
  joined_by by given true (Some task) at = joined_kept by given task at task.is_kept
  joined_by by given false v at = valid

  pub valid_joined : (by : ℕ) → by < next_number tasks.table → AreValidTasks turn (joined tasks t by)
  valid_joined by given = joined_by by given (is_issued tasks.table t) (value_at tasks.table t) refl

-- these calls give out no number
module _ {O : Type 0} (tasks : Tasks O) (t : ℕ) where
  dropped_phase : (phase : Phase O) → next_number (dropped_in phase tasks t).table ≡ next_number tasks.table
  dropped_phase idle = length-set tasks.table t _
  dropped_phase queued = length-set tasks.table t _
  dropped_phase (running noted) = length-set tasks.table t _
  dropped_phase (done output) = length-set tasks.table t None
  dropped_phase taken = length-set tasks.table t None

  dropped_answer : (r : Result (Task O) TaskError) → next_number (dropped_value r tasks t).table ≡ next_number tasks.table
  dropped_answer (Ok task) = dropped_phase task.phase
  dropped_answer (Err e) = refl

  pub next_number-join_dropped : next_number (join_dropped tasks t).table ≡ next_number tasks.table
  next_number-join_dropped = dropped_answer (kept_task tasks t)

  joined_phase : (by : ℕ) (phase : Phase O) → next_number (joined_in phase tasks t by).table ≡ next_number tasks.table
  joined_phase by idle = length-set tasks.table t _
  joined_phase by queued = length-set tasks.table t _
  joined_phase by (running noted) = length-set tasks.table t _
  joined_phase by (done output) = length-set tasks.table t _
  joined_phase by taken = refl

  joined_answer : (by : ℕ) (r : Result (Task O) TaskError) → next_number (joined_value r tasks t by).table ≡ next_number tasks.table
  joined_answer by (Ok task) = joined_phase by task.phase
  joined_answer by (Err e) = refl

  pub next_number-joined : (by : ℕ) → next_number (joined tasks t by).table ≡ next_number tasks.table
  next_number-joined by = joined_answer by (kept_task tasks t)
