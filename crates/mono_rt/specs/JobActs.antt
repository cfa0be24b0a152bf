-- How a call on a job changes the parts of a runtime, and its effect on the record of the turn.
use Rattle.std.specs.Prelude.{◌≡◌, ℕ, Bool, true, Option, Some, None, Result, Ok, Err}
use Rattle.mono_model.specs.Jobs.{Jobs}
use Rattle.mono_model.specs.declared.poll.Poll.{Poll}
use Rattle.mono_joinword.specs.declared.outcome.JoinError.{JoinError}
use Rattle.mono_joinword.specs.declared.views.JoinerView.{JoinerView}
use Rattle.mono_machine.specs.Acts.{reply_of}
use Rattle.mono_machine.specs.JobCalls.{poll_answer, drop_answer, job_dropped}
use Rattle.mono_machine.specs.declared.events.Act.TheVariants as act
use Rattle.mono_machine.specs.declared.events.Query.TheVariants as query
use Rattle.mono_machine.specs.declared.events.TurnStep.{TurnStep}
use Rattle.mono_machine.specs.declared.events.TurnStep.TheVariants as step
use Rattle.mono_machine.specs.declared.events.Reply.{Reply}
use Rattle.mono_machine.specs.declared.events.Reply.TheVariants as reply
use Rattle.mono_machine.specs.declared.events.Refusal.{Refusal}
use Rattle.mono_machine.specs.declared.events.Refusal.TheVariants as refusal
use Rattle.mono_blocking.specs.JobAnswers.{IsEnd, after_end, polled_reply, dropped_reply, PollShown, DropShown, FinishShown}
use Rattle.mono_blocking.specs.Calls.{polled_by}
use Rattle.mono_blocking.specs.JobSpawns.{Seen, Spawned, strategy_of, refusals_of}
use Rattle.mono_blocking.specs.declared.jobs.ends.End.{End}
use Rattle.mono_blocking.specs.declared.jobs.handles.JobHandle.{JobHandle}
use Rattle.mono_blocking.specs.declared.jobs.refusals.SpawnError.{SpawnError}
use Rattle.mono_blocking.specs.declared.jobs.refusals.SpawnError.TheVariants as error
use Rattle.mono_blocking.specs.declared.jobs.refusals.PollJob.{PollJob}
use Rattle.mono_blocking.specs.declared.jobs.refusals.PollJob.TheVariants as polling
use Rattle.mono_rt.specs.Record.{Record, noted}
use Rattle.mono_rt.specs.declared.parts.state.Parts.{Parts}

-- The record with the end of job j, and the task that waited for it, if the call was the first to see that end. The end
-- is right before the act of that call.
abbrev pub noted_end : Record → ℕ → Option End → Record
noted_end acts j None = acts
noted_end acts j (Some e) = noted acts (step.Act (act.JobEnd j e.how)) (reply.Ended e.waiter)

-- The record with the spawn of a job, made or refused. An allocation that fails and a fault of the pool add nothing.
abbrev pub noted_block : {J : Type 0} → Record → ℕ → Result JobHandle (SpawnError J) → Record
noted_block acts n (Ok handle) = noted acts (step.Act (act.Block n)) (reply.Job handle.job)
noted_block acts n (Err (error.AtCapacity back)) = noted acts (step.Act (act.Block n)) (reply.Refused refusal.AtCapacity)
noted_block acts n (Err (error.NoPool back)) = noted acts (step.Act (act.Block n)) (reply.Refused refusal.NoPool)
noted_block acts n (Err (error.Memory back)) = acts
noted_block acts n (Err error.PoolFault) = acts

-- an allocation that fails sets the flag
abbrev pub lacks_after : {J : Type 0} → Bool → Result JobHandle (SpawnError J) → Bool
lacks_after before (Ok handle) = before
lacks_after before (Err (error.AtCapacity back)) = before
lacks_after before (Err (error.NoPool back)) = before
lacks_after before (Err (error.Memory back)) = true
lacks_after before (Err error.PoolFault) = before

-- the parts with these jobs and this record
abbrev pub with_blocking : {O B : Type 0} → Parts O B → B → Record → Bool → Parts O B
with_blocking c blocking acts lacks = record { tasks = c.tasks; timers = c.timers; has_timers = c.has_timers; blocking = blocking; acts = acts; me = c.me; now = c.now; is_out_of_memory = lacks }

-- A job is made, or is refused, as `Spawned` specifies. The strategy stays, the act is recorded with its reply, and
-- nothing else changes.
pub record SpawnsJob {O P J : Type 0} (number : J → ℕ) (refusals : P → ℕ) (job : J) (answer : Result JobHandle (SpawnError J)) (c d : Parts O (Seen P)) : Type 0 where
  pub spawned : Spawned number job answer (strategy_of c.blocking.pool) (refusals_of refusals c.blocking.pool) (refusals_of refusals d.blocking.pool) c.blocking.table.jobs d.blocking.table.jobs
  pub same_strategy : strategy_of d.blocking.pool ≡ strategy_of c.blocking.pool
  pub parts : d ≡ with_blocking c d.blocking (noted_block c.acts (number job) answer) (lacks_after c.is_out_of_memory answer)

-- One call on job j, with the machine's answer to it. If the call was the first to see the end of the job, the end is
-- recorded right before it. The pool and all else stay.
pub record AsksJob {O P : Type 0} (answer_of : Jobs → ℕ → Result Reply Refusal) (after : Jobs → ℕ → Jobs) (asked : TurnStep) (j : ℕ) (answer : Result Reply Refusal) (c d : Parts O (Seen P)) : Type 0 where
  pub end : Option End
  pub is_end : IsEnd end c.blocking.table.jobs j
  pub is_answer : answer ≡ answer_of (after_end end c.blocking.table.jobs j) j
  pub jobs : d.blocking.table.jobs ≡ after (after_end end c.blocking.table.jobs j) j
  pub pool : d.blocking.pool ≡ c.blocking.pool
  pub parts : d ≡ with_blocking c d.blocking (noted (noted_end c.acts j end) asked (reply_of answer)) c.is_out_of_memory

pub record AsksOutput {O P A : Type 0} (number : A → ℕ) (j : ℕ) (answer : Result (Poll (Result A JoinError)) Refusal) (c d : Parts O (Seen P)) : Type 0 where
  pub asks : AsksJob poll_answer (polled_by c.me) (step.Query (query.Job j)) j (polled_reply number answer) c d
  -- the last view of the job's joiner, if it gave the output
  pub last : Option JoinerView
  pub shown : PollShown number c.blocking.table j c.me answer last d.blocking.table

-- if the waker could not be cloned, the job was not polled
abbrev pub PollsJob : {O P A : Type 0} → (A → ℕ) → ℕ → Result (Poll (Result A JoinError)) PollJob → Parts O (Seen P) → Parts O (Seen P) → Type 0
PollsJob number j (Ok answer) c d = AsksOutput number j (Ok answer) c d
PollsJob number j (Err (polling.Refused r)) c d = AsksOutput number j (Err r) c d
PollsJob number j (Err polling.Memory) c d = d ≡ with_blocking c c.blocking c.acts true

pub record DropsJob {O P A : Type 0} (number : A → ℕ) (j : ℕ) (answer : Result (Option (Result A JoinError)) Refusal) (c d : Parts O (Seen P)) : Type 0 where
  pub asks : AsksJob drop_answer job_dropped (step.Act (act.DropJob j)) j (dropped_reply number answer) c d
  -- the last view of the job's joiner
  pub last : Option JoinerView
  pub shown : DropShown number c.blocking.table j answer last

-- A question: it is not recorded, and the machine's jobs stay.
pub record AsksWhetherEnded {O P : Type 0} (j : ℕ) (answer : Result Bool Refusal) (c d : Parts O (Seen P)) : Type 0 where
  pub shown : FinishShown c.blocking.table j answer d.blocking.table
  pub jobs : d.blocking.table.jobs ≡ c.blocking.table.jobs
  pub pool : d.blocking.pool ≡ c.blocking.pool
  pub parts : d ≡ with_blocking c d.blocking c.acts c.is_out_of_memory
