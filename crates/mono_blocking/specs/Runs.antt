-- A job that is made at the first poll.
use Rattle.std.specs.Prelude.{◌≡◌, ℕ, ⊤, Bool, true, false, Option, Result, Ok, Err}
use Rattle.mono_model.specs.Jobs.{Jobs}
use Rattle.mono_model.specs.Tasks.{Tasks}
use Rattle.mono_model.specs.Poll.{call_of}
use Rattle.mono_model.specs.declared.poll.Poll.{Poll}
use Rattle.mono_model.specs.declared.poll.Poll.TheVariants.{Ready, Pending}
use Rattle.mono_joinword.specs.declared.outcome.JoinError.{JoinError}
use Rattle.mono_machine.specs.declared.events.Blocking.{Blocking}
use Rattle.mono_machine.specs.declared.events.Refusal.{Refusal}
use Rattle.mono_blocking.specs.Calls.{PollsOutput, DropsHandle}
use Rattle.mono_blocking.specs.JobSpawns.{Spawned}
use Rattle.mono_blocking.specs.declared.jobs.handles.JobHandle.{JobHandle}
use Rattle.mono_blocking.specs.declared.jobs.refusals.SpawnError.{SpawnError}
use Rattle.mono_blocking.specs.declared.jobs.refusals.PollJob.{PollJob}
use Rattle.mono_blocking.specs.declared.runs.JobError.{JobError}
use Rattle.mono_blocking.specs.declared.runs.JobError.TheVariants.{Spawn, Poll as Unasked, Canceled}
use Rattle.mono_blocking.specs.declared.runs.RunJob.{RunJob}
use Rattle.mono_blocking.specs.declared.runs.RunJob.TheVariants.{Fresh, Waits, Over}

abbrev pub run_spent : {J : Type 0} → RunJob J → Bool
run_spent (Fresh job) = false
run_spent (Waits handle) = false
run_spent Over = true

-- the handle's answer as one of the form
abbrev pub told : {A J : Type 0} → Result (Result A JoinError) PollJob → Result A (JobError J)
told (Ok (Ok output)) = Ok output
told (Ok (Err e)) = Err Canceled
told (Err e) = Err (Unasked e)

module _ {A C : Type 0} (number : A → ℕ) (jobs : C → Jobs) (work : C → Tasks ⊤) (reaches : C → C → Type 0) where
  abbrev pub GivesUp : JobHandle → C → C → Type 0
  GivesUp handle c d = (r : Result (Option (Result A JoinError)) Refusal) × DropsHandle number handle.job r (jobs c) (jobs d) × (work d ≡ work c) × reaches c d

  abbrev pub RunCancels : {J : Type 0} → RunJob J → C → C → Type 0
  RunCancels (Fresh job) c d = d ≡ c
  RunCancels (Waits handle) c d = GivesUp handle c d
  RunCancels Over c d = d ≡ c

module _ {A J C : Type 0} (number : A → ℕ) (me : C → ℕ) (jobs : C → Jobs) (is_out_of_memory : C → Bool) (work : C → Tasks ⊤) (reaches : C → C → Type 0) where
  abbrev pub AfterPoll : Poll (Result (Result A JoinError) PollJob) → JobHandle → C → Poll (Result A (JobError J)) → RunJob J → C → Type 0
  AfterPoll (Ready x) handle c r n d = (r ≡ Ready (told x)) × (n ≡ Over) × GivesUp number jobs work reaches handle c d
  AfterPoll Pending handle c r n d = (r ≡ Pending) × (n ≡ Waits handle) × (d ≡ c)

  -- the handle is polled, and dropped if it answered
  pub record Awaits (handle : JobHandle) (c : C) (r : Poll (Result A (JobError J))) (n : RunJob J) (d : C) : Type 0 where
    pub answer : Poll (Result (Result A JoinError) PollJob)
    pub middle : C
    pub polled : PollsOutput number (me c) handle.job (call_of answer) (jobs c) (jobs middle) (is_out_of_memory middle)
    pub work_after : work middle ≡ work c
    pub reached : reaches c middle
    pub rest : AfterPoll answer handle middle r n d

module _ {A J C : Type 0} (job_number : J → ℕ) (number : A → ℕ) (me : C → ℕ) (jobs : C → Jobs) (strategy : C → Blocking) (refusals : C → ℕ) (is_out_of_memory : C → Bool) (work : C → Tasks ⊤) (reaches : C → C → Type 0) where
  -- the job was made, and its handle is polled; or it was refused
  abbrev pub AfterSpawn : Result JobHandle (SpawnError J) → C → Poll (Result A (JobError J)) → RunJob J → C → Type 0
  AfterSpawn (Ok handle) c r n d = Awaits number me jobs is_out_of_memory work reaches handle c r n d
  AfterSpawn (Err e) c r n d = (r ≡ Ready (Err (Spawn e))) × (n ≡ Over) × (d ≡ c)

  pub record Begins (job : J) (c : C) (r : Poll (Result A (JobError J))) (n : RunJob J) (d : C) : Type 0 where
    pub made : Result JobHandle (SpawnError J)
    pub middle : C
    pub spawned : Spawned job_number job made (strategy c) (refusals c) (refusals middle) (jobs c) (jobs middle)
    pub work_after : work middle ≡ work c
    pub reached : reaches c middle
    pub rest : AfterSpawn made middle r n d

  abbrev pub RunPolls : RunJob J → C → Poll (Result A (JobError J)) → RunJob J → C → Type 0
  RunPolls (Fresh job) c r n d = Begins job c r n d
  RunPolls (Waits handle) c r n d = Awaits number me jobs is_out_of_memory work reaches handle c r n d
  RunPolls Over c r n d = ⊥
