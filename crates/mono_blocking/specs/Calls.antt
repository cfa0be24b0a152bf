-- What a context's calls on jobs answer, and what they leave of its jobs.
use Rattle.std.specs.Prelude.{◌≡◌, ◌⊎◌, ⊤, ℕ, Bool, true, false, Option, Result, Ok, Err}
use Rattle.mono_model.specs.Jobs.{Jobs}
use Rattle.mono_model.specs.declared.poll.Poll.{Poll}
use Rattle.mono_joinword.specs.declared.outcome.JoinError.{JoinError}
use Rattle.mono_machine.specs.JobCalls.{poll_answer, job_polled, drop_answer, job_dropped, finished_answer}
use Rattle.mono_machine.specs.declared.events.Reply.{Reply}
use Rattle.mono_machine.specs.declared.events.Reply.TheVariants as reply
use Rattle.mono_machine.specs.declared.events.Refusal.{Refusal}
use Rattle.mono_blocking.specs.JobAnswers.{IsEnd, after_end, polled_reply, dropped_reply}
use Rattle.mono_blocking.specs.declared.jobs.ends.End.{End}
use Rattle.mono_blocking.specs.declared.jobs.handles.JobHandle.{JobHandle}
use Rattle.mono_blocking.specs.declared.jobs.refusals.SpawnError.{SpawnError}
use Rattle.mono_blocking.specs.declared.jobs.refusals.SpawnError.TheVariants as error
use Rattle.mono_blocking.specs.declared.jobs.refusals.PollJob.{PollJob}
use Rattle.mono_blocking.specs.declared.jobs.refusals.PollJob.TheVariants as polling

-- refused memory is noted by a flag
abbrev pub NotesMemory : {J : Type 0} → Result JobHandle (SpawnError J) → Bool → Type 0
NotesMemory (Ok handle) noted = ⊤
NotesMemory (Err (error.Memory back)) noted = noted ≡ true
NotesMemory (Err (error.AtCapacity back)) noted = ⊤
NotesMemory (Err (error.NoPool back)) noted = ⊤
NotesMemory (Err error.PoolFault) noted = ⊤

-- One call on job j, with the machine's answer to it. If the call saw the end of the job as the first, the answer is that after the end.
pub record Asks (answer_of : Jobs → ℕ → Result Reply Refusal) (after : Jobs → ℕ → Jobs) (j : ℕ) (answer : Result Reply Refusal) (old new : Jobs) : Type 0 where
  pub end : Option End
  pub is_end : IsEnd end old j
  pub is_answer : answer ≡ answer_of (after_end end old j) j
  pub jobs : new ≡ after (after_end end old j) j

-- a poll by this task, which waits for the job from then on if that runs
abbrev pub polled_by : ℕ → Jobs → ℕ → Jobs
polled_by me jobs j = job_polled jobs j me

module _ {A : Type 0} (number : A → ℕ) where
  -- if the waker could not be cloned, nothing was asked, and a flag notes it
  abbrev pub PollsOutput : ℕ → ℕ → Result (Poll (Result A JoinError)) PollJob → Jobs → Jobs → Bool → Type 0
  PollsOutput me j (Ok answer) old new noted = Asks poll_answer (polled_by me) j (polled_reply number (Ok answer)) old new
  PollsOutput me j (Err (polling.Refused r)) old new noted = Asks poll_answer (polled_by me) j (polled_reply number (Err r)) old new
  PollsOutput me j (Err polling.Memory) old new noted = (new ≡ old) × (noted ≡ true)

  abbrev pub DropsHandle : ℕ → Result (Option (Result A JoinError)) Refusal → Jobs → Jobs → Type 0
  DropsHandle j answer old new = Asks drop_answer job_dropped j (dropped_reply number answer) old new

-- A job that runs for the machine may have ended, and no call has seen it.
abbrev pub Finds : ℕ → Result Bool Refusal → Jobs → Type 0
Finds j (Ok false) jobs = finished_answer jobs j ≡ Ok reply.No
Finds j (Ok true) jobs = (finished_answer jobs j ≡ Ok reply.Yes) ⊎ (finished_answer jobs j ≡ Ok reply.No)
Finds j (Err e) jobs = finished_answer jobs j ≡ Err e
