-- The views of a trace's tables.
use Rattle.std.specs.Prelude.{ℕ, List, map, Option, Result, Ok, Err}
use Rattle.std.specs.Option.{option_map}
use Rattle.mono_model.specs.Tasks.{Tasks, Task, Phase}
use Rattle.mono_model.specs.Tasks as tasks
use Rattle.mono_model.specs.Jobs.{Jobs}
use Rattle.mono_model.specs.Jobs as jobs
use Rattle.mono_model.specs.Sleeps.{Sleeps, Arming}
use Rattle.mono_model.specs.Sleeps as sleeps
use Rattle.mono_model.specs.declared.task_error.TaskError.{TaskError}
use Rattle.mono_machine.specs.declared.events.Refusal.{Refusal}
use Rattle.mono_trace.specs.declared.tasks.Phase.{Phase as CodePhase}
use Rattle.mono_trace.specs.declared.tasks.Phase.TheVariants as phase
use Rattle.mono_trace.specs.declared.tasks.Task.{Task as CodeTask}
use Rattle.mono_trace.specs.declared.jobs.Job.{Job as CodeJob}
use Rattle.mono_trace.specs.declared.jobs.Job.TheVariants as job
use Rattle.mono_trace.specs.declared.sleeps.Arming.{Arming as CodeArming}
use Rattle.mono_trace.specs.declared.sleeps.Sleep.{Sleep as CodeSleep}
use Rattle.mono_trace.specs.declared.sleeps.Sleep.TheVariants as sleep

abbrev pub phase_of : CodePhase → Phase ℕ
phase_of phase.Idle = tasks.idle
phase_of phase.Queued = tasks.queued
phase_of (phase.Running noted) = tasks.running noted
phase_of (phase.Done output) = tasks.done output
phase_of phase.Taken = tasks.taken

abbrev pub task_of : CodeTask → Task ℕ
task_of task = record { phase = phase_of task.phase; is_kept = task.is_kept; waiter = task.waiter }

abbrev pub task_place : Option CodeTask → Option (Task ℕ)
task_place = option_map task_of

abbrev pub tasks_of : List (Option CodeTask) → List ℕ → ℕ → Tasks ℕ
tasks_of places queue limit = record { queue = queue; table = map task_place places; limit = limit }

-- The same tasks with another queue.
abbrev pub with_queue : Tasks ℕ → List ℕ → Tasks ℕ
with_queue tasks queue = record { queue = queue; table = tasks.table; limit = tasks.limit }

abbrev pub found_task : Result CodeTask TaskError → Result (Task ℕ) TaskError
found_task (Ok task) = Ok (task_of task)
found_task (Err e) = Err e

abbrev pub job_of : CodeJob → jobs.Job
job_of (job.Running output waiter) = jobs.running output waiter
job_of (job.EndedOk output) = jobs.ended_ok output
job_of job.EndedCanceled = jobs.ended_canceled
job_of job.Taken = jobs.taken

abbrev pub job_place : Option CodeJob → Option jobs.Job
job_place = option_map job_of

abbrev pub jobs_of : List (Option CodeJob) → ℕ → Jobs
jobs_of places limit = record { table = map job_place places; limit = limit }

abbrev pub found_job : Result CodeJob Refusal → Result jobs.Job Refusal
found_job (Ok job) = Ok (job_of job)
found_job (Err r) = Err r

abbrev pub arming_of : CodeArming → Arming
arming_of a = record { tick = a.tick; arm = a.arm; is_moved = a.is_moved; waker = a.waker }

abbrev pub sleep_of : CodeSleep → sleeps.Sleep
sleep_of (sleep.Fresh nanos) = sleeps.fresh nanos
sleep_of (sleep.Armed a) = sleeps.armed (arming_of a)
sleep_of sleep.Elapsed = sleeps.elapsed

abbrev pub sleep_place : Option CodeSleep → Option sleeps.Sleep
sleep_place = option_map sleep_of

abbrev pub sleeps_of : List (Option CodeSleep) → ℕ → ℕ → ℕ → Sleeps
sleeps_of places greatest arms limit = record { table = map sleep_place places; greatest = greatest; arm_count = arms; limit = limit }
