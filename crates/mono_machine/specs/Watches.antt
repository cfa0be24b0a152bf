-- The sources for which a task may wait in the machine, the waiting task, and the ends of such a wait.
use Rattle.std.specs.Prelude.{◌≡◌, ◌⊎◌, ℕ, Bool, true, false, not, ◌==◌, ◌&&◌, ◌||◌, List, [], ◌∷◌, Option, Some, None}
use Rattle.mono_model.specs.Table.{value_at}
use Rattle.mono_model.specs.Inbox.{is_waiting}
use Rattle.mono_model.specs.Tasks.{Task, Phase, idle, queued, running, done, taken}
use Rattle.mono_model.specs.Jobs as job
use Rattle.mono_model.specs.SleepActs as sleep
use Rattle.mono_model.specs.declared.Ended.{Ended}
use Rattle.mono_model.specs.declared.Ended.TheVariants as ended
use Rattle.mono_machine.specs.Machine.{Machine}
use Rattle.mono_machine.specs.History.{waiter_at}
use Rattle.mono_machine.specs.declared.events.Act.{Act}
use Rattle.mono_machine.specs.declared.events.Act.TheVariants as act
use Rattle.mono_machine.specs.declared.events.Query.{Query}
use Rattle.mono_machine.specs.declared.events.Query.TheVariants as query
use Rattle.mono_machine.specs.declared.events.TurnStep.{TurnStep}
use Rattle.mono_machine.specs.declared.events.TurnStep.TheVariants as step
use Rattle.mono_machine.specs.declared.events.Event.{Event}
use Rattle.mono_machine.specs.declared.events.Event.TheVariants as event
use Rattle.mono_machine.specs.declared.events.Reply.{Reply}
use Rattle.mono_machine.specs.declared.events.Reply.TheVariants as reply
use Rattle.mono_machine.specs.declared.events.Report.{Report}
use Rattle.mono_machine.specs.declared.events.Report.TheVariants as report

-- A sleep, the end of a task, or the end of a job.
pub data Source : Type 0 where
  of_sleep : (s : ℕ) → Source
  of_task : (u : ℕ) → Source
  of_job : (j : ℕ) → Source

abbrev pub is_sleep : ℕ → Source → Bool
is_sleep r (of_sleep s) = r == s
is_sleep r (of_task u) = false
is_sleep r (of_job j) = false

abbrev pub is_task : ℕ → Source → Bool
is_task v (of_sleep s) = false
is_task v (of_task u) = v == u
is_task v (of_job j) = false

abbrev pub is_job : ℕ → Source → Bool
is_job k (of_sleep s) = false
is_job k (of_task u) = false
is_job k (of_job j) = k == j

-- The task that waits for a job.
abbrev pub job_waiter : Option job.Job → Option ℕ
job_waiter None = None
job_waiter (Some (job.running output waiter)) = waiter
job_waiter (Some (job.ended_ok output)) = None
job_waiter (Some job.ended_canceled) = None
job_waiter (Some job.taken) = None

-- The one task that waits for a source: the waker of an armed sleep, the waiter of a task, the waiter of a running job.
abbrev pub watcher : Machine → Source → Option ℕ
watcher m (of_sleep s) = sleep.waker_at m.sleeps s
watcher m (of_task u) = waiter_at (value_at m.tasks.table u)
watcher m (of_job j) = job_waiter (value_at m.jobs.table j)

-- Whether t waits for x.
abbrev pub IsWatched : Machine → ℕ → Source → Type 0
IsWatched m t x = watcher m x ≡ Some t

-- Whether the act drops the source. The end of a job counts: it answers the waiter, and wakes no task.
abbrev pub drops : Source → Act → Bool
drops x (act.DropSleep s) = is_sleep s x
drops x (act.DropJoin u) = is_task u x
drops x (act.DropJob j) = is_job j x
drops x (act.JobEnd j h) = is_job j x
drops x act.Spawn = false
drops x (act.Wake u) = false
drops x (act.NewSleep n) = false
drops x (act.Reset s n) = false
drops x (act.SleepElapsed s) = false
drops x (act.Block output) = false
drops x (act.Finished u) = false
drops x (act.JobFinished j) = false

abbrev pub polls : Source → Query → Bool
polls x (query.Sleep s) = is_sleep s x
polls x (query.Join u) = is_task u x
polls x (query.Job j) = is_job j x

-- Whether the step ends the wait of t for x and wakes no task: a drop of x, or a poll of x in the turn of another task.
abbrev pub takes : ℕ → ℕ → Source → TurnStep → Bool
takes t me x (step.Act a) = drops x a
takes t me x (step.Query q) = not (me == t) && polls x q

abbrev pub says_elapsed : Reply → Bool
says_elapsed reply.Elapsed = true
says_elapsed (reply.Task t) = false
says_elapsed (reply.Woke w) = false
says_elapsed (reply.Sleep s) = false
says_elapsed reply.Armed = false
says_elapsed (reply.Dropped output) = false
says_elapsed (reply.Job j) = false
says_elapsed reply.Yes = false
says_elapsed reply.No = false
says_elapsed (reply.Ended waiter) = false
says_elapsed reply.Pending = false
says_elapsed reply.Ready = false
says_elapsed (reply.Output output) = false
says_elapsed reply.Canceled = false
says_elapsed (reply.Refused r) = false

-- Whether the act wakes the watcher of x: a reset of the sleep, which has elapsed at once.
abbrev pub fires_by : Source → Act → Reply → Bool
fires_by x (act.Reset s n) r = is_sleep s x && says_elapsed r
fires_by x act.Spawn r = false
fires_by x (act.Wake u) r = false
fires_by x (act.NewSleep n) r = false
fires_by x (act.DropSleep s) r = false
fires_by x (act.SleepElapsed s) r = false
fires_by x (act.DropJoin u) r = false
fires_by x (act.Block output) r = false
fires_by x (act.DropJob j) r = false
fires_by x (act.Finished u) r = false
fires_by x (act.JobFinished j) r = false
fires_by x (act.JobEnd j h) r = false

abbrev pub fires_step : Source → TurnStep → Reply → Bool
fires_step x (step.Act a) r = fires_by x a r
fires_step x (step.Query q) r = false

-- Whether x fires in a turn, before its wait is ended otherwise.
abbrev pub fires_in : ℕ → ℕ → Source → List TurnStep → List Reply → Bool
fires_in t me x [] replies = false
fires_in t me x (s ∷ steps) [] = false
fires_in t me x (s ∷ steps) (r ∷ replies) = fires_step x s r || (not (takes t me x s) && fires_in t me x steps replies)

-- Whether the wait for x is ended in a turn, before x fires.
abbrev pub takes_in : ℕ → ℕ → Source → List TurnStep → List Reply → Bool
takes_in t me x [] replies = false
takes_in t me x (s ∷ steps) [] = false
takes_in t me x (s ∷ steps) (r ∷ replies) = takes t me x s || (not (fires_step x s r) && takes_in t me x steps replies)

-- Whether a turn of the task u, whose handle is kept, ended with an output.
abbrev pub is_done : Ended → Bool
is_done ended.Done = true
is_done ended.Idle = false
is_done ended.Again = false
is_done ended.Gone = false

abbrev pub is_fired : Source → List ℕ → Bool
is_fired (of_sleep s) fired = is_waiting fired s
is_fired (of_task u) fired = false
is_fired (of_job j) fired = false

-- Whether x fires: a clock step lists its sleep, or its sleep is reset to an instant that has come, or its task has
-- finished.
abbrev pub fires : ℕ → Source → Event → Report → Bool
fires t x (event.Act a) (report.Reply r) = fires_by x a r
fires t x (event.Turn steps e) (report.Turn me replies end) =
    fires_in t me x steps replies || (not (takes_in t me x steps replies) && (is_task me x && is_done end))
fires t x (event.Clock n) (report.Fired fired) = is_fired x fired
fires t x e answer = false

-- Whether the event ends the wait of t for x and wakes no task: a drop of x, the end of its job, or a poll of x in the
-- turn of another task.
abbrev pub is_taken : ℕ → Source → Event → Report → Bool
is_taken t x (event.Act a) answer = drops x a
is_taken t x (event.Turn steps e) (report.Turn me replies end) = takes_in t me x steps replies
is_taken t x e answer = false

-- Whether the wait of t for x is ended in a run by a drop, the end of a job, or a poll by another task.
abbrev pub is_taken_in : ℕ → Source → List Event → List Report → Bool
is_taken_in t x [] answers = false
is_taken_in t x (e ∷ events) [] = false
is_taken_in t x (e ∷ events) (answer ∷ answers) = is_taken t x e answer || is_taken_in t x events answers

-- Whether x never fires in a run, and the wait of t for it is not ended otherwise.
abbrev pub is_untouched : ℕ → Source → List Event → List Report → Bool
is_untouched t x [] answers = true
is_untouched t x (e ∷ events) [] = true
is_untouched t x (e ∷ events) (answer ∷ answers) = not (fires t x e answer) && (not (is_taken t x e answer) && is_untouched t x events answers)

-- Whether a task is queued, noted, finished or removed. If it is running, whether it is noted.
abbrev pub is_stirred : {O : Type 0} → Phase O → Bool
is_stirred idle = false
is_stirred queued = true
is_stirred (running noted) = noted
is_stirred (done output) = true
is_stirred taken = true

abbrev pub is_stirred_in : {O : Type 0} → Option (Task O) → Bool
is_stirred_in None = true
is_stirred_in (Some task) = is_stirred task.phase

-- Whether t waits for x, or was woken in its running turn.
abbrev pub Hears : Machine → ℕ → Source → Type 0
Hears m t x = IsWatched m t x ⊎ (is_stirred_in (value_at m.tasks.table t) ≡ true)

abbrev pub drops_step : Source → TurnStep → Bool
drops_step x (step.Act a) = drops x a
drops_step x (step.Query q) = false

-- Whether a step drops x, or is the end of its job.
abbrev pub drops_in : Source → List TurnStep → Bool
drops_in x [] = false
drops_in x (s ∷ steps) = drops_step x s || drops_in x steps

-- Whether t waits for x, or is queued, noted or in the inbox, or has finished.
abbrev pub IsHeld : Machine → ℕ → Source → Type 0
IsHeld m t x = IsWatched m t x ⊎ ((is_stirred_in (value_at m.tasks.table t) || is_waiting m.inbox t) ≡ true)
