-- What the handle of a job may answer in the end, and a job that is made at the first poll.
use Rattle.std.specs.Prelude.{◌≡◌, ◌⊎◌, ℕ, ⊤, Bool, Result, Ok, Err}
use Rattle.mono_model.specs.Jobs.{Jobs}
use Rattle.mono_model.specs.Poll.{call_of}
use Rattle.mono_model.specs.declared.poll.Poll.TheVariants.{Ready}
use Rattle.mono_joinword.specs.declared.outcome.JoinError.{JoinError}
use Rattle.mono_machine.specs.declared.events.Blocking.{Blocking}
use Rattle.mono_machine.specs.declared.events.Refusal.{Refusal}
use Rattle.mono_machine.specs.declared.events.Refusal.TheVariants as refusal
use Rattle.mono_blocking.specs.Calls.{PollsOutput}
use Rattle.mono_blocking.specs.JobSpawns.{Spawned}
use Rattle.mono_blocking.specs.Runs.{told}
use Rattle.mono_blocking.specs.declared.jobs.refusals.SpawnError.{SpawnError}
use Rattle.mono_blocking.specs.declared.jobs.refusals.PollJob.{PollJob}
use Rattle.mono_blocking.specs.declared.jobs.refusals.PollJob.TheVariants as polling
use Rattle.mono_blocking.specs.declared.runs.JobError.{JobError}
use Rattle.mono_blocking.specs.declared.runs.JobError.TheVariants.{Spawn}
use Rattle.mono_blocking.specs.declared.runs.RunJob.{RunJob}
use Rattle.mono_blocking.specs.declared.runs.RunJob.TheVariants.{Fresh, Waits, Over}

-- The refusal is one of the three that a handle has.
abbrev pub IsOfHandle : Refusal → Type 0
IsOfHandle refusal.Idle = ⊥
IsOfHandle refusal.NoTask = ⊤
IsOfHandle refusal.NoTimer = ⊥
IsOfHandle refusal.NoHandle = ⊤
IsOfHandle refusal.Taken = ⊤
IsOfHandle refusal.AtCapacity = ⊥
IsOfHandle refusal.Invalid = ⊥
IsOfHandle refusal.NoPool = ⊥
IsOfHandle refusal.Ended = ⊥

abbrev pub OfHandle : {X : Type 0} → Result X PollJob → Type 0
OfHandle (Ok output) = ⊤
OfHandle (Err polling.Memory) = ⊤
OfHandle (Err (polling.Refused reason)) = IsOfHandle reason

-- The answer is that of a poll of job j, by some task and among some jobs.
pub record JobGives {A : Type 0} (number : A → ℕ) (j : ℕ) (answer : Result (Result A JoinError) PollJob) : Type 0 where
  pub me : ℕ
  pub before : Jobs
  pub after : Jobs
  pub noted : Bool
  pub polled : PollsOutput number me j (call_of (Ready answer)) before after noted
  pub of_handle : OfHandle answer

-- The error is why this job was not made, among some jobs.
pub record NotMade {J : Type 0} (number : J → ℕ) (job : J) (error : SpawnError J) : Type 0 where
  pub strategy : Blocking
  pub refusals : ℕ
  pub refusals_after : ℕ
  pub before : Jobs
  pub after : Jobs
  pub spawned : Spawned number job (Err error) strategy refusals refusals_after before after

-- The answer of the form is that of its handle.
pub record Tells {A J : Type 0} (number : A → ℕ) (j : ℕ) (x : Result A (JobError J)) : Type 0 where
  pub answer : Result (Result A JoinError) PollJob
  pub is_told : x ≡ told answer
  pub given : JobGives number j answer

-- The error is why the job was not made.
pub record Refuses {A J : Type 0} (number : J → ℕ) (job : J) (x : Result A (JobError J)) : Type 0 where
  pub error : SpawnError J
  pub is_error : x ≡ Err (Spawn error)
  pub refused : NotMade number job error

module _ {A J : Type 0} (job_number : J → ℕ) (number : A → ℕ) where
  abbrev pub RunGives : RunJob J → Result A (JobError J) → Type 0
  RunGives (Fresh job) x = Refuses job_number job x ⊎ ((j : ℕ) × Tells number j x)
  RunGives (Waits handle) x = Tells number handle.job x
  RunGives Over x = ⊥
