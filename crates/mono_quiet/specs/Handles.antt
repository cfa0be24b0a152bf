-- The handle of a task makes no task, and neither does that of a job; a job that is made at the first poll is no task.
use Rattle.std.specs.Prelude.{⊤, ◌≡◌, ℕ, Bool, Result, Ok, Err}
use Rattle.std.specs.Option.{option_map}
use Rattle.std.proofs.Common.{refl, ap, sym, ◌∙◌}
use Rattle.std.proofs.lemmas.List.{length-map, length-set}
use Rattle.mono_model.specs.Jobs.{Jobs}
use Rattle.mono_model.specs.Table.{next_number}
use Rattle.mono_model.specs.Tasks.{Tasks, Task, Phase, idle, queued, running, done, taken}
use Rattle.mono_model.specs.Joins.{kept_task, joined_in, joined_value, joined, dropped_in, dropped_value, join_dropped}
use Rattle.mono_model.specs.declared.task_error.TaskError.{TaskError}
use Rattle.mono_model.specs.declared.poll.Poll.{Poll}
use Rattle.mono_model.specs.declared.poll.Poll.TheVariants.{Ready, Pending}
use Rattle.mono_task.specs.Work.{task_without, without_outputs}
use Rattle.mono_joinword.specs.declared.outcome.JoinError.{JoinError}
use Rattle.mono_machine.specs.declared.events.Blocking.{Blocking}
use Rattle.mono_blocking.specs.Runs.{RunCancels, AfterPoll, Awaits, AfterSpawn, RunPolls}
use Rattle.mono_blocking.specs.declared.jobs.handles.JobHandle.{JobHandle}
use Rattle.mono_blocking.specs.declared.jobs.refusals.SpawnError.{SpawnError}
use Rattle.mono_blocking.specs.declared.jobs.refusals.PollJob.{PollJob}
use Rattle.mono_blocking.specs.declared.runs.JobError.{JobError}
use Rattle.mono_blocking.specs.declared.runs.RunJob.{RunJob}
use Rattle.mono_blocking.specs.declared.runs.RunJob.TheVariants.{Fresh, Waits, Over}
use Rattle.mono_quiet.specs.Numbers.{MakesNone, same_number, none_at_all, same_tasks, none_on}

pub next_without_outputs : {O : Type 0} (tasks : Tasks O) → next_number (without_outputs tasks).table ≡ next_number tasks.table
next_without_outputs tasks = length-map tasks.table (option_map task_without)

module _ {O : Type 0} (tasks : Tasks O) (t : ℕ) where
  joined_by : (kept : Result (Task O) TaskError) (by : ℕ) → next_number (joined_value kept tasks t by).table ≡ next_number tasks.table
  joined_by (Ok task) by = by_phase task.phase
    where
      by_phase : (phase : Phase O) → next_number (joined_in phase tasks t by).table ≡ next_number tasks.table
      by_phase idle = length-set tasks.table t _
      by_phase queued = length-set tasks.table t _
      by_phase (running noted) = length-set tasks.table t _
      by_phase (done output) = length-set tasks.table t _
      by_phase taken = refl
  joined_by (Err error) by = refl

  dropped_by : (kept : Result (Task O) TaskError) → next_number (dropped_value kept tasks t).table ≡ next_number tasks.table
  dropped_by (Ok task) = by_phase task.phase
    where
      by_phase : (phase : Phase O) → next_number (dropped_in phase tasks t).table ≡ next_number tasks.table
      by_phase idle = length-set tasks.table t _
      by_phase queued = length-set tasks.table t _
      by_phase (running noted) = length-set tasks.table t _
      by_phase (done output) = length-set tasks.table t _
      by_phase taken = length-set tasks.table t _
  dropped_by (Err error) = refl

module _ {C O : Type 0} (work : C → Tasks ⊤) (tasks : C → Tasks O) (same_work : (c : C) → work c ≡ without_outputs (tasks c)) where
  next_of : (c : C) → next_number (work c).table ≡ next_number (tasks c).table
  next_of c = ap (λ w. next_number w.table) (same_work c) ∙ next_without_outputs (tasks c)

  as_before : (c d : C) (after : Tasks O) → tasks d ≡ after → next_number after.table ≡ next_number (tasks c).table → MakesNone work c d
  as_before c d after is same = same_number work c d (next_of d ∙ ap (λ w. next_number w.table) is ∙ same ∙ sym (next_of c))

  pub join_handle_makes_none : (h by : ℕ) (c d : C) → tasks d ≡ joined (tasks c) h by → MakesNone work c d
  join_handle_makes_none h by c d is = as_before c d (joined (tasks c) h by) is (joined_by (tasks c) h (kept_task (tasks c) h) by)

  pub join_handle_left : (h : ℕ) (c d : C) → tasks d ≡ join_dropped (tasks c) h → MakesNone work c d
  join_handle_left h c d is = as_before c d (join_dropped (tasks c) h) is (dropped_by (tasks c) h (kept_task (tasks c) h))

module _ {A J C : Type 0} (number : A → ℕ) (jobs : C → Jobs) (work : C → Tasks ⊤) (reaches : C → C → Type 0) where
  pub run_left : (m : RunJob J) (c d : C) → RunCancels number jobs work reaches m c d → MakesNone work c d
  run_left (Fresh job) c d q = none_at_all work c d q
  run_left (Waits handle) c d q = same_tasks work c d q.2
  run_left Over c d q = none_at_all work c d q

  module _ (me : C → ℕ) (is_out_of_memory : C → Bool) where
    after_job : (answer : Poll (Result (Result A JoinError) PollJob)) (handle : JobHandle) (c : C) (r : Poll (Result A (JobError J))) (n : RunJob J) (d : C) → AfterPoll number me jobs is_out_of_memory work reaches answer handle c r n d → MakesNone work c d
    after_job (Ready x) handle c r n d q = run_left (Waits handle) c d q.2
    after_job Pending handle c r n d q = none_at_all work c d q.2

    awaits_none : (handle : JobHandle) (c : C) (r : Poll (Result A (JobError J))) (n : RunJob J) (d : C) → Awaits number me jobs is_out_of_memory work reaches handle c r n d → MakesNone work c d
    awaits_none handle c r n d q = none_on work c q.middle d (same_tasks work c q.middle q.work_after) (after_job q.answer handle q.middle r n d q.rest)

    module _ (job_number : J → ℕ) (strategy : C → Blocking) (refusals : C → ℕ) where
      after_spawn : (made : Result JobHandle (SpawnError J)) (c : C) (r : Poll (Result A (JobError J))) (n : RunJob J) (d : C) → AfterSpawn job_number number me jobs strategy refusals is_out_of_memory work reaches made c r n d → MakesNone work c d
      after_spawn (Ok handle) c r n d q = awaits_none handle c r n d q
      after_spawn (Err e) c r n d q = none_at_all work c d q.2

      pub run_makes_none : (m : RunJob J) (c : C) (r : Poll (Result A (JobError J))) (n : RunJob J) (d : C) → RunPolls job_number number me jobs strategy refusals is_out_of_memory work reaches m c r n d → MakesNone work c d
      run_makes_none (Fresh job) c r n d q = none_on work c q.middle d (same_tasks work c q.middle q.work_after) (after_spawn q.made q.middle r n d q.rest)
      run_makes_none (Waits handle) c r n d q = awaits_none handle c r n d q
      run_makes_none Over c r n d q = absurd q
