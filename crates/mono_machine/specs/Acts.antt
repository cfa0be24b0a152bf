-- The answer of each act and each poll, and the machine afterwards. The refusals are tried in the order in which they
-- are written.
use Rattle.std.specs.Prelude.{ℕ, if◌then◌else◌, Option, Some, None, Result, Ok, Err, nat_lt}
use Rattle.mono_model.specs.Ticks.{max_nanos, up}
use Rattle.mono_model.specs.Table.{value_at, next_number, is_full}
use Rattle.mono_model.specs.Tasks.{spawned, woken, woken_if_any}
use Rattle.mono_model.specs.Joins as join
use Rattle.mono_model.specs.Jobs as job
use Rattle.mono_model.specs.Sleeps.{Sleep}
use Rattle.mono_model.specs.SleepAnswers.{waker_in}
use Rattle.mono_model.specs.SleepActs as sleep
use Rattle.mono_machine.specs.Machine.{Machine, with_tasks, with_sleeps, with_jobs}
use Rattle.mono_machine.specs.JobCalls as jobs
use Rattle.mono_machine.specs.JoinCalls.{wake_reply, drop_reply, finished_reply, join_reply}
use Rattle.mono_machine.specs.SleepCalls.{poll_reply, gone_reply, elapsed_reply, reset_reply}
use Rattle.mono_machine.specs.declared.events.Act.{Act}
use Rattle.mono_machine.specs.declared.events.Act.TheVariants as act
use Rattle.mono_machine.specs.declared.events.Query.{Query}
use Rattle.mono_machine.specs.declared.events.Query.TheVariants as query
use Rattle.mono_machine.specs.declared.events.TurnStep.{TurnStep}
use Rattle.mono_machine.specs.declared.events.TurnStep.TheVariants as step
use Rattle.mono_machine.specs.declared.events.Reply.{Reply}
use Rattle.mono_machine.specs.declared.events.Reply.TheVariants as reply
use Rattle.mono_machine.specs.declared.events.Refusal.{Refusal}
use Rattle.mono_machine.specs.declared.events.Refusal.TheVariants as refusal
use Rattle.mono_machine.specs.declared.events.Blocking.{Blocking}
use Rattle.mono_machine.specs.declared.events.Blocking.TheVariants as blocking

-- The reply, and the machine after it.
pub record Outcome : Type 0 where
  pub reply : Reply
  pub machine : Machine

abbrev pub answered : Reply → Machine → Outcome
answered r m = record { reply = r; machine = m }

-- The outcome of a refused act, which changes nothing.
abbrev pub refused : Refusal → Machine → Outcome
refused r m = answered (reply.Refused r) m

abbrev pub reply_of : Result Reply Refusal → Reply
reply_of (Ok r) = r
reply_of (Err r) = reply.Refused r

-- The outcome of making a job: it runs on a thread, has run on the caller, or is refused.
abbrev pub block : Blocking → ℕ → Machine → Outcome
block blocking.Attached output m = answered (reply.Job (next_number m.jobs.table)) (with_jobs m (jobs.with_next_job m.jobs (job.running output None)))
block blocking.ExecuteLocal output m = answered (reply.Job (next_number m.jobs.table)) (with_jobs m (jobs.with_next_job m.jobs (job.ended_ok output)))
block blocking.Panic output m = refused refusal.NoPool m

-- The outcome for a sleep, or the refusal if it was never given out or was dropped.
abbrev pub for_sleep : Option Sleep → Machine → Outcome → Outcome
for_sleep None m outcome = refused refusal.NoTimer m
for_sleep (Some value) m outcome = outcome

-- The outcome of arming a sleep at the tick of n. If it elapses at once, its waker is woken.
abbrev pub reset : ℕ → ℕ → Machine → Outcome
reset s n m =
    answered (reset_reply m.sleeps.greatest (up n))
    (with_tasks (with_sleeps m (sleep.reset m.sleeps s n)) (woken_if_any m.tasks (waker_in (sleep.reset_answer m.sleeps s n))))

abbrev pub act_outcome : Act → Machine → Outcome
act_outcome act.Spawn m =
    if is_full m.tasks.table m.tasks.limit then refused refusal.AtCapacity m
    else answered (reply.Task (next_number m.tasks.table)) (with_tasks m (spawned m.tasks))
act_outcome (act.Wake t) m = answered (wake_reply (join.wake_answer m.tasks t)) (with_tasks m (woken m.tasks t))
act_outcome (act.NewSleep n) m =
    if is_full m.sleeps.table m.sleeps.limit then refused refusal.AtCapacity m
    else if nat_lt max_nanos n then refused refusal.Invalid m
    else answered (reply.Sleep (next_number m.sleeps.table)) (with_sleeps m (sleep.added m.sleeps n))
act_outcome (act.Reset s n) m =
    for_sleep (value_at m.sleeps.table s) m (if nat_lt max_nanos n then refused refusal.Invalid m else reset s n m)
act_outcome (act.DropSleep s) m = answered (gone_reply (sleep.remove_answer m.sleeps s)) (with_sleeps m (sleep.removed m.sleeps s))
act_outcome (act.DropJoin t) m = answered (drop_reply (join.drop_answer m.tasks t)) (with_tasks m (join.join_dropped m.tasks t))
act_outcome (act.Block output) m =
    if is_full m.jobs.table m.jobs.limit then refused refusal.AtCapacity m else block m.strategy output m
act_outcome (act.DropJob j) m = answered (reply_of (jobs.drop_answer m.jobs j)) (with_jobs m (jobs.job_dropped m.jobs j))
act_outcome (act.Finished t) m = answered (finished_reply (join.finished_answer m.tasks t)) m
act_outcome (act.JobFinished j) m = answered (reply_of (jobs.finished_answer m.jobs j)) m
act_outcome (act.SleepElapsed s) m = answered (elapsed_reply (sleep.elapsed_answer m.sleeps s)) m
act_outcome (act.JobEnd j h) m = answered (reply_of (jobs.end_answer m.jobs j)) (with_jobs m (jobs.job_ended m.jobs j h))

-- The outcome of a poll by the running task, `me`, which becomes the only waker or waiter if the answer is Pending.
abbrev pub query_outcome : ℕ → Query → Machine → Outcome
query_outcome me (query.Sleep s) m = answered (poll_reply (sleep.poll_answer m.sleeps s)) (with_sleeps m (sleep.polled m.sleeps s me))
query_outcome me (query.Join t) m = answered (join_reply (join.join_answer m.tasks t)) (with_tasks m (join.joined m.tasks t me))
query_outcome me (query.Job j) m = answered (reply_of (jobs.poll_answer m.jobs j)) (with_jobs m (jobs.job_polled m.jobs j me))

abbrev pub step_outcome : ℕ → TurnStep → Machine → Outcome
step_outcome me (step.Act a) m = act_outcome a m
step_outcome me (step.Query q) m = query_outcome me q m
