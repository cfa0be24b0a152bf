-- How many acts a call of a script's task adds to the record of its turn.
use Rattle.std.proofs.Common.{◌≡◌, ℕ, [], ◌∷◌, length, Option, Some, None, Result, Ok, Err, refl, ap, length-append, arith}
use Rattle.mono_model.specs.declared.poll.Poll.{Poll}
use Rattle.mono_model.specs.declared.error.Error.TheVariants as timer
use Rattle.mono_model.specs.declared.error.SleepError.{SleepError}
use Rattle.mono_model.specs.declared.error.SleepError.TheVariants.{Memory, Timer}
use Rattle.mono_joinword.specs.declared.outcome.JoinError.{JoinError}
use Rattle.mono_machine.specs.Acts.{reply_of}
use Rattle.mono_machine.specs.declared.events.Act.TheVariants as act
use Rattle.mono_machine.specs.declared.events.Query.TheVariants as query
use Rattle.mono_machine.specs.declared.events.TurnStep.{TurnStep}
use Rattle.mono_machine.specs.declared.events.TurnStep.TheVariants as step
use Rattle.mono_machine.specs.declared.events.Reply.{Reply}
use Rattle.mono_machine.specs.declared.events.Reply.TheVariants as reply
use Rattle.mono_machine.specs.declared.events.Refusal.{Refusal}
use Rattle.mono_machine.specs.declared.events.Refusal.TheVariants as refusal
use Rattle.mono_blocking.specs.JobAnswers.{polled_reply, dropped_reply}
use Rattle.mono_blocking.specs.JobSpawns.{Seen}
use Rattle.mono_blocking.specs.declared.jobs.ends.End.{End}
use Rattle.mono_blocking.specs.declared.jobs.handles.JobHandle.{JobHandle}
use Rattle.mono_blocking.specs.declared.jobs.refusals.PollJob.{PollJob}
use Rattle.mono_blocking.specs.declared.jobs.refusals.PollJob.TheVariants as polling
use Rattle.mono_blocking.specs.declared.jobs.refusals.SpawnError.{SpawnError}
use Rattle.mono_blocking.specs.declared.jobs.refusals.SpawnError.TheVariants as error
use Rattle.mono_rt.specs.Record.{Record, noted}
use Rattle.mono_rt.specs.CallActs.{noted_sleep}
use Rattle.mono_rt.specs.Spawns.{noted_spawn}
use Rattle.mono_rt.specs.JobActs.{SpawnsJob, PollsJob, DropsJob, noted_end, noted_block}
use Rattle.mono_rt.specs.declared.parts.state.Parts.{Parts}
use Rattle.mono_task.specs.declared.error.SpawnRefused.{SpawnRefused}
use Rattle.mono_task.specs.declared.error.SpawnRefused.TheVariants as back
use Rattle.mono_run.specs.TaskPolls.{GrewAtMost}

pub no_act : (n : ℕ) (c d : Record) → d ≡ c → GrewAtMost n c d
no_act n c d is = omega (arith, ap (λ r. length r.steps) is)

pub one_act : (c d : Record) (s : TurnStep) (r : Reply) → d ≡ noted c s r → GrewAtMost 1 c d
one_act c d s r is = omega (arith, ap (λ r. length r.steps) is, length-append c.steps (s ∷ []))

pub of_spawn : {F : Type 0} (c d : Record) (answer : Result ℕ (SpawnRefused F)) → d ≡ noted_spawn c answer → GrewAtMost 1 c d
of_spawn c d (Ok t) is = one_act c d (step.Act act.Spawn) (reply.Task t) is
of_spawn c d (Err (back.AtCapacity f)) is = one_act c d (step.Act act.Spawn) (reply.Refused refusal.AtCapacity) is
of_spawn c d (Err (back.Memory f)) is = no_act 1 c d is

pub of_sleep : (c d : Record) (nanos : ℕ) (answer : Result ℕ SleepError) → d ≡ noted_sleep c nanos answer → GrewAtMost 1 c d
of_sleep c d nanos (Ok s) is = one_act c d (step.Act (act.NewSleep nanos)) (reply.Sleep s) is
of_sleep c d nanos (Err (Timer timer.AtCapacity)) is = one_act c d (step.Act (act.NewSleep nanos)) (reply.Refused refusal.AtCapacity) is
of_sleep c d nanos (Err (Timer timer.Shutdown)) is = no_act 1 c d is
of_sleep c d nanos (Err (Timer timer.Invalid)) is = no_act 1 c d is
of_sleep c d nanos (Err Memory) is = no_act 1 c d is

-- ---- jobs
of_block : {J : Type 0} (c d : Record) (n : ℕ) (answer : Result JobHandle (SpawnError J)) → d ≡ noted_block c n answer → GrewAtMost 1 c d
of_block c d n (Ok handle) is = one_act c d (step.Act (act.Block n)) (reply.Job handle.job) is
of_block c d n (Err (error.AtCapacity job)) is = one_act c d (step.Act (act.Block n)) (reply.Refused refusal.AtCapacity) is
of_block c d n (Err (error.NoPool job)) is = one_act c d (step.Act (act.Block n)) (reply.Refused refusal.NoPool) is
of_block c d n (Err (error.Memory job)) is = no_act 1 c d is
of_block c d n (Err error.PoolFault) is = no_act 1 c d is

-- an act after the end that it saw
after_end : (c d : Record) (j : ℕ) (end : Option End) (s : TurnStep) (r : Reply) → d ≡ noted (noted_end c j end) s r → GrewAtMost 2 c d
after_end c d j None s r is = omega (arith, one_act c d s r is)
after_end c d j (Some e) s r is =
    let ended : Record = noted c (step.Act (act.JobEnd j e.how)) (reply.Ended e.waiter) in
    omega (arith, one_act c ended (step.Act (act.JobEnd j e.how)) (reply.Ended e.waiter) refl, one_act ended d s r is)

module _ {P : Type 0} (c d : Parts ℕ (Seen P)) where
  pub of_block_call : {J : Type 0} (number : J → ℕ) (job : J) (answer : Result JobHandle (SpawnError J)) → SpawnsJob number (λ _. 0) job answer c d → GrewAtMost 1 c.acts d.acts
  of_block_call number job answer p = of_block c.acts d.acts (number job) answer (ap (λ x. x.acts) p.parts)

  module _ {B : Type 0} (number : B → ℕ) (j : ℕ) where
    pub of_job_poll : (answer : Result (Poll (Result B JoinError)) PollJob) → PollsJob number j answer c d → GrewAtMost 2 c.acts d.acts
    of_job_poll (Ok answer) p = after_end c.acts d.acts j p.asks.end (step.Query (query.Job j)) (reply_of (polled_reply number (Ok answer))) (ap (λ x. x.acts) p.asks.parts)
    of_job_poll (Err (polling.Refused r)) p = after_end c.acts d.acts j p.asks.end (step.Query (query.Job j)) (reply_of (polled_reply number (Err r))) (ap (λ x. x.acts) p.asks.parts)
    of_job_poll (Err polling.Memory) p = no_act 2 c.acts d.acts (ap (λ x. x.acts) p)

    pub of_job_drop : (answer : Result (Option (Result B JoinError)) Refusal) → DropsJob number j answer c d → GrewAtMost 2 c.acts d.acts
    of_job_drop answer p = after_end c.acts d.acts j p.asks.end (step.Act (act.DropJob j)) (reply_of (dropped_reply number answer)) (ap (λ x. x.acts) p.asks.parts)
