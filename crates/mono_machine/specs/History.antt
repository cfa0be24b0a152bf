-- The facts of a task that whole runs keep.
use Rattle.std.specs.Prelude.{ℕ, Bool, true, false, not, ◌==◌, ◌&&◌, ◌||◌, List, [], ◌∷◌, Option, Some, None, nat_lt}
use Rattle.mono_model.specs.Ticks.{max_nanos}
use Rattle.mono_model.specs.SleepAnswers.{waker_in}
use Rattle.mono_model.specs.SleepActs as sleep
use Rattle.mono_machine.specs.Acts.{step_outcome}
use Rattle.mono_model.specs.Table.{Table, value_at}
use Rattle.mono_model.specs.Tasks.{Task}
use Rattle.mono_model.specs.Sleeps.{Sleep}
use Rattle.mono_model.specs.Inbox.{is_waiting}
use Rattle.mono_model.specs.Valid.{of_task, is_queued}
use Rattle.mono_model.specs.declared.Woke.{Woke}
use Rattle.mono_model.specs.declared.Woke.TheVariants as woke
use Rattle.mono_machine.specs.Machine.{Machine}
use Rattle.mono_machine.specs.Turns.{after_begin, after_steps}
use Rattle.mono_machine.specs.declared.events.Act.{Act}
use Rattle.mono_machine.specs.declared.events.Act.TheVariants as act
use Rattle.mono_machine.specs.declared.events.TurnStep.{TurnStep}
use Rattle.mono_machine.specs.declared.events.TurnStep.TheVariants as step
use Rattle.mono_machine.specs.declared.events.End.{End}
use Rattle.mono_machine.specs.declared.events.End.TheVariants as end
use Rattle.mono_machine.specs.declared.events.Event.{Event}
use Rattle.mono_machine.specs.declared.events.Event.TheVariants as event
use Rattle.mono_machine.specs.declared.events.Reply.{Reply}
use Rattle.mono_machine.specs.declared.events.Reply.TheVariants as reply
use Rattle.mono_machine.specs.declared.events.Report.{Report}
use Rattle.mono_machine.specs.declared.events.Report.TheVariants as report

-- Whether the report is that of a turn of t.
abbrev pub is_turn_of : ℕ → Report → Bool
is_turn_of t (report.Reply r) = false
is_turn_of t (report.Turn me replies ended) = me == t
is_turn_of t (report.Fired fired) = false
is_turn_of t report.Listed = false
is_turn_of t report.Unlisted = false
is_turn_of t (report.Drained tasks) = false

abbrev pub has_turn_of : ℕ → List Report → Bool
has_turn_of t [] = false
has_turn_of t (answer ∷ answers) = is_turn_of t answer || has_turn_of t answers

-- Whether t is queued or in the inbox.
abbrev pub is_awaiting : ℕ → Machine → Bool
is_awaiting t m = of_task is_queued (value_at m.tasks.table t) || is_waiting m.inbox t

-- Whether the reply says that a wake queued the task or noted it.
abbrev pub has_effect : Woke → Bool
has_effect woke.Queued = true
has_effect woke.Noted = true
has_effect woke.Nothing = false

abbrev pub says_woken : Reply → Bool
says_woken (reply.Woke w) = has_effect w
says_woken (reply.Task t) = false
says_woken (reply.Sleep s) = false
says_woken reply.Armed = false
says_woken reply.Elapsed = false
says_woken (reply.Dropped output) = false
says_woken (reply.Job j) = false
says_woken reply.Yes = false
says_woken reply.No = false
says_woken (reply.Ended waiter) = false
says_woken reply.Pending = false
says_woken reply.Ready = false
says_woken (reply.Output output) = false
says_woken reply.Canceled = false
says_woken (reply.Refused r) = false

abbrev pub is_waker : Option ℕ → ℕ → Bool
is_waker None t = false
is_waker (Some u) t = u == t

-- Whether the act woke t: by a wake, or by a reset to an instant that has come, of a sleep whose waker t was.
abbrev pub wakes_by_act : ℕ → Machine → Act → Reply → Bool
wakes_by_act t m (act.Wake u) r = (u == t) && says_woken r
wakes_by_act t m (act.Reset s n) r = not (nat_lt max_nanos n) && is_waker (waker_in (sleep.reset_answer m.sleeps s n)) t
wakes_by_act t m act.Spawn r = false
wakes_by_act t m (act.NewSleep n) r = false
wakes_by_act t m (act.DropSleep s) r = false
wakes_by_act t m (act.DropJoin u) r = false
wakes_by_act t m (act.Block output) r = false
wakes_by_act t m (act.DropJob j) r = false
wakes_by_act t m (act.Finished u) r = false
wakes_by_act t m (act.JobFinished j) r = false
wakes_by_act t m (act.SleepElapsed s) r = false
wakes_by_act t m (act.JobEnd j h) r = false

abbrev pub wakes_by_step : ℕ → Machine → TurnStep → Reply → Bool
wakes_by_step t m (step.Act a) r = wakes_by_act t m a r
wakes_by_step t m (step.Query q) r = false

-- Whether some step woke t. Each step has its reply, and starts at the machine that the steps before it left.
abbrev pub wakes_by_steps : ℕ → ℕ → Machine → List TurnStep → List Reply → Bool
wakes_by_steps t me m [] replies = false
wakes_by_steps t me m (s ∷ steps) [] = false
wakes_by_steps t me m (s ∷ steps) (r ∷ replies) = wakes_by_step t m s r || wakes_by_steps t me (step_outcome me s m).machine steps replies

-- Whether a sleep that fires wakes t.
abbrev pub wakes_by_fires : ℕ → Table Sleep → List ℕ → Bool
wakes_by_fires t table [] = false
wakes_by_fires t table (s ∷ fired) = is_waker (sleep.waker_in (value_at table s)) t || wakes_by_fires t table fired

-- The task that waits for the output of the task that ends its turn ready.
abbrev pub waiter_at : Option (Task ℕ) → Option ℕ
waiter_at None = None
waiter_at (Some task) = task.waiter

abbrev pub woken_by_end : End → ℕ → Machine → Option ℕ
woken_by_end end.Pending me m = None
woken_by_end (end.Ready output) me m = waiter_at (value_at m.tasks.table me)

abbrev pub woken_by_turn : List ℕ → List TurnStep → End → Machine → Option ℕ
woken_by_turn [] steps e m = None
woken_by_turn (front ∷ rest) steps e m = woken_by_end e front (after_steps front steps (after_begin front rest m))

-- Whether the report says that t was woken: it was woken or noted, listed or drained, a sleep fired whose waker it was,
-- or a task finished for which it waited.
abbrev pub act_tells : ℕ → Machine → Act → Report → Bool
act_tells t m a (report.Reply r) = wakes_by_act t m a r
act_tells t m a (report.Turn me replies ended) = false
act_tells t m a (report.Fired fired) = false
act_tells t m a report.Listed = false
act_tells t m a report.Unlisted = false
act_tells t m a (report.Drained tasks) = false

-- The machine once the front of the queue runs.
abbrev pub begun_machine : List ℕ → Machine → Machine
begun_machine [] m = m
begun_machine (front ∷ rest) m = after_begin front rest m

abbrev pub turn_tells : ℕ → Machine → List TurnStep → Report → Bool
turn_tells t m steps (report.Reply r) = false
turn_tells t m steps (report.Turn me replies ended) = wakes_by_steps t me m steps replies
turn_tells t m steps (report.Fired fired) = false
turn_tells t m steps report.Listed = false
turn_tells t m steps report.Unlisted = false
turn_tells t m steps (report.Drained tasks) = false

abbrev pub clock_tells : ℕ → Table Sleep → Report → Bool
clock_tells t table (report.Reply r) = false
clock_tells t table (report.Turn me replies ended) = false
clock_tells t table (report.Fired fired) = wakes_by_fires t table fired
clock_tells t table report.Listed = false
clock_tells t table report.Unlisted = false
clock_tells t table (report.Drained tasks) = false

abbrev pub is_listed : Report → Bool
is_listed (report.Reply r) = false
is_listed (report.Turn me replies ended) = false
is_listed (report.Fired fired) = false
is_listed report.Listed = true
is_listed report.Unlisted = false
is_listed (report.Drained tasks) = false

abbrev pub drain_tells : ℕ → Report → Bool
drain_tells t (report.Reply r) = false
drain_tells t (report.Turn me replies ended) = false
drain_tells t (report.Fired fired) = false
drain_tells t report.Listed = false
drain_tells t report.Unlisted = false
drain_tells t (report.Drained tasks) = is_waiting tasks t

abbrev pub tells_wake : ℕ → Machine → Event → Report → Bool
tells_wake t old (event.Act a) answer = act_tells t old a answer
tells_wake t old (event.Turn steps e) answer = turn_tells t (begun_machine old.tasks.queue old) steps answer || is_waker (woken_by_turn old.tasks.queue steps e old) t
tells_wake t old (event.Clock n) answer = clock_tells t old.sleeps.table answer
tells_wake t old (event.Remote u) answer = (u == t) && is_listed answer
tells_wake t old event.Drain answer = drain_tells t answer

-- Whether the act is a wake of t, whatever it answers.
abbrev pub is_wake_act : ℕ → Act → Bool
is_wake_act t (act.Wake u) = u == t
is_wake_act t act.Spawn = false
is_wake_act t (act.NewSleep n) = false
is_wake_act t (act.Reset s n) = false
is_wake_act t (act.DropSleep s) = false
is_wake_act t (act.SleepElapsed s) = false
is_wake_act t (act.DropJoin u) = false
is_wake_act t (act.Block output) = false
is_wake_act t (act.DropJob j) = false
is_wake_act t (act.Finished u) = false
is_wake_act t (act.JobFinished j) = false
is_wake_act t (act.JobEnd j h) = false

abbrev pub is_wake_step : ℕ → TurnStep → Bool
is_wake_step t (step.Act a) = is_wake_act t a
is_wake_step t (step.Query q) = false

abbrev pub has_wake_of : ℕ → List TurnStep → Bool
has_wake_of t [] = false
has_wake_of t (s ∷ steps) = is_wake_step t s || has_wake_of t steps

-- Whether the event is a wake of t, whatever it answers: from outside, by an act, or by a step of a turn.
abbrev pub is_wake_of : ℕ → Event → Report → Bool
is_wake_of t (event.Act a) answer = is_wake_act t a
is_wake_of t (event.Turn steps e) (report.Turn me replies ended) = has_wake_of t steps
is_wake_of t (event.Remote u) answer = u == t
is_wake_of t e answer = false
