-- The reference machine.
use Rattle.std.specs.Prelude.{◌<◌, ◌≤◌, ℕ, List, [], Option, None, IfSome}
use Rattle.mono_model.specs.Table.{value_at, next_number, count_of}
use Rattle.mono_model.specs.Tasks.{Tasks, no_tasks}
use Rattle.mono_model.specs.Sleeps.{Sleeps, no_sleeps}
use Rattle.mono_model.specs.Jobs.{Jobs, no_jobs}
use Rattle.mono_model.specs.Valid.{AreValidTasks, AreValidSleeps, times}
use Rattle.mono_model.specs.Jobs as job
use Rattle.mono_machine.specs.declared.events.Limits.{Limits}
use Rattle.mono_machine.specs.declared.events.Blocking.{Blocking}

pub record Machine : Type 0 where
  pub tasks : Tasks ℕ
  pub jobs : Jobs
  pub sleeps : Sleeps
  pub inbox : List ℕ
  pub strategy : Blocking

-- The machine in which nothing was given out and the clock is at 0.
abbrev pub start_machine : Limits → Blocking → Machine
start_machine limits strategy = record {
  tasks = no_tasks limits.tasks;
  jobs = no_jobs limits.jobs;
  sleeps = no_sleeps limits.sleeps;
  inbox = [];
  strategy = strategy;
}

abbrev pub with_tasks : Machine → Tasks ℕ → Machine
with_tasks m tasks = record { tasks = tasks; jobs = m.jobs; sleeps = m.sleeps; inbox = m.inbox; strategy = m.strategy }

abbrev pub with_sleeps : Machine → Sleeps → Machine
with_sleeps m sleeps = record { tasks = m.tasks; jobs = m.jobs; sleeps = sleeps; inbox = m.inbox; strategy = m.strategy }

abbrev pub with_jobs : Machine → Jobs → Machine
with_jobs m jobs = record { tasks = m.tasks; jobs = jobs; sleeps = m.sleeps; inbox = m.inbox; strategy = m.strategy }

abbrev pub with_inbox : Machine → List ℕ → Machine
with_inbox m inbox = record { tasks = m.tasks; jobs = m.jobs; sleeps = m.sleeps; inbox = inbox; strategy = m.strategy }

abbrev pub IsValidJob : ℕ → job.Job → Type 0
IsValidJob next (job.running output waiter) = IfSome waiter (λ t. t < next)
IsValidJob next (job.ended_ok output) = Unit {0}
IsValidJob next job.ended_canceled = Unit {0}
IsValidJob next job.taken = Unit {0}

pub record AreValidJobs (next : ℕ) (jobs : Jobs) : Type 0 where
  pub each : (j : ℕ) → IfSome (value_at jobs.table j) (IsValidJob next)
  pub within : count_of jobs.table ≤ jobs.limit

-- The inbox has each task at most once, and only tasks that were given out.
pub record IsValidInbox (next : ℕ) (inbox : List ℕ) : Type 0 where
  pub once : (t : ℕ) → times inbox t ≤ 1
  pub are_issued : (t : ℕ) → 0 < times inbox t → t < next

-- The machine while a task has the turn, or between two events, when no task has it.
pub record IsValidDuring (turn : Option ℕ) (m : Machine) : Type 0 where
  pub tasks : AreValidTasks turn m.tasks
  pub sleeps : AreValidSleeps (next_number m.tasks.table) m.sleeps
  pub jobs : AreValidJobs (next_number m.tasks.table) m.jobs
  pub inbox : IsValidInbox (next_number m.tasks.table) m.inbox

abbrev pub IsValid : Machine → Type 0
IsValid m = IsValidDuring None m
