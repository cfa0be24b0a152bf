-- Examples of runs: a list of events, and a list of reports that the machine may answer.
use Rattle.std.specs.Prelude.{◌≡◌, ℕ, true, false, List, [], ◌∷◌, Some, None}
use Rattle.mono_model.specs.declared.Woke.TheVariants as woke
use Rattle.mono_model.specs.declared.Ended.TheVariants as ended
use Rattle.mono_machine.specs.Machine.{Machine, start_machine}
use Rattle.mono_machine.specs.Acts.{act_outcome}
use Rattle.mono_machine.specs.Turns.{after_turn}
use Rattle.mono_machine.specs.Steps.{Run, Step}
use Rattle.mono_machine.specs.History.{is_wake_of}
use Rattle.mono_machine.specs.declared.events.Act.TheVariants as act
use Rattle.mono_machine.specs.declared.events.How.TheVariants as how
use Rattle.mono_machine.specs.declared.events.Query.TheVariants as query
use Rattle.mono_machine.specs.declared.events.TurnStep.{TurnStep}
use Rattle.mono_machine.specs.declared.events.TurnStep.TheVariants as step
use Rattle.mono_machine.specs.declared.events.End.TheVariants as end
use Rattle.mono_machine.specs.declared.events.Event.{Event}
use Rattle.mono_machine.specs.declared.events.Event.TheVariants as event
use Rattle.mono_machine.specs.declared.events.Reply.TheVariants as reply
use Rattle.mono_machine.specs.declared.events.Refusal.TheVariants as refusal
use Rattle.mono_machine.specs.declared.events.Report.{Report}
use Rattle.mono_machine.specs.declared.events.Report.TheVariants as report
use Rattle.mono_machine.specs.declared.events.Blocking.{Blocking}
use Rattle.mono_machine.specs.declared.events.Blocking.TheVariants as blocking

-- The start machine with one limit for tasks, jobs and sleeps.
abbrev pub start_with : Blocking → ℕ → Machine
start_with strategy limit = start_machine (record { tasks = limit; jobs = limit; sleeps = limit }) strategy

abbrev pub start : ℕ → Machine
start limit = start_with blocking.Attached limit

-- Whether the machine may answer these reports.
abbrev pub Answers : Machine → List Event → List Report → Type 0
Answers m events reports = (new : Machine) × Run m events reports new

abbrev pub spawn : Event
spawn = event.Act act.Spawn

abbrev pub new_sleep : ℕ → TurnStep
new_sleep nanos = step.Act (act.NewSleep nanos)

abbrev pub poll : ℕ → TurnStep
poll s = step.Query (query.Sleep s)

abbrev pub join : ℕ → TurnStep
join t = step.Query (query.Join t)

-- The turn in which one job is made and polled.
abbrev pub block_and_poll : Event
block_and_poll = event.Turn (step.Act (act.Block 3) ∷ step.Query (query.Job 0) ∷ []) end.Pending

-- A deadline that is now: the sleep has elapsed at its first poll.
abbrev pub DeadlineIsNow : Type 0
DeadlineIsNow = Answers (start 16)
    (spawn ∷ event.Turn (new_sleep 0 ∷ poll 0 ∷ []) (end.Ready 7) ∷ [])
    (report.Reply (reply.Task 0) ∷ report.Turn 0 (reply.Sleep 0 ∷ reply.Ready ∷ []) ended.Done ∷ [])

-- Both roundings: a deadline is rounded up to its tick, and a clock value down.
abbrev pub rounded_events : List Event
rounded_events = spawn ∷ event.Turn (new_sleep 1000001 ∷ poll 0 ∷ []) end.Pending ∷ event.Clock 1999999 ∷ event.Clock 2000000 ∷ []

abbrev pub BothRoundings : Type 0
BothRoundings = Answers (start 16) rounded_events
    (report.Reply (reply.Task 0) ∷ report.Turn 0 (reply.Sleep 0 ∷ reply.Pending ∷ []) ended.Idle ∷ report.Fired [] ∷ report.Fired (0 ∷ []) ∷ [])

-- The same sleep does not fire a nanosecond early, and it is not left out when it is due.
abbrev pub NoneIsEarly : Type 0
NoneIsEarly = Answers (start 16) rounded_events
    (report.Reply (reply.Task 0) ∷ report.Turn 0 (reply.Sleep 0 ∷ reply.Pending ∷ []) ended.Idle ∷ report.Fired (0 ∷ []) ∷ report.Fired [] ∷ []) → ⊥

abbrev pub NoneIsLeftOut : Type 0
NoneIsLeftOut = Answers (start 16) rounded_events
    (report.Reply (reply.Task 0) ∷ report.Turn 0 (reply.Sleep 0 ∷ reply.Pending ∷ []) ended.Idle ∷ report.Fired [] ∷ report.Fired [] ∷ []) → ⊥

-- Two sleeps far apart, at the ticks 2 ^ 36 and 2 ^ 30: the nearer one fires at its tick.
abbrev pub FarSleeps : Type 0
FarSleeps = Answers (start 16)
    (spawn ∷ event.Turn (new_sleep 68719476736000000 ∷ new_sleep 1073741824000000 ∷ poll 0 ∷ poll 1 ∷ []) end.Pending ∷ event.Clock 1073741824000000 ∷ event.Act (act.SleepElapsed 0) ∷ [])
    (report.Reply (reply.Task 0) ∷ report.Turn 0 (reply.Sleep 0 ∷ reply.Sleep 1 ∷ reply.Pending ∷ reply.Pending ∷ []) ended.Idle ∷ report.Fired (1 ∷ []) ∷ report.Reply reply.No ∷ [])

-- Ties: sleeps of one tick fire in the order in which they were armed.
abbrev pub Ties : Type 0
Ties = Answers (start 16)
    (spawn ∷ event.Turn (new_sleep 100000000 ∷ new_sleep 100000000 ∷ new_sleep 100000000 ∷ poll 2 ∷ poll 0 ∷ poll 1 ∷ []) end.Pending ∷ event.Clock 100000000 ∷ [])
    (report.Reply (reply.Task 0) ∷ report.Turn 0 (reply.Sleep 0 ∷ reply.Sleep 1 ∷ reply.Sleep 2 ∷ reply.Pending ∷ reply.Pending ∷ reply.Pending ∷ []) ended.Idle ∷ report.Fired (2 ∷ 0 ∷ 1 ∷ []) ∷ [])

-- A task that is woken in its own turn runs again, after the others.
abbrev pub WokenInOwnTurn : Type 0
WokenInOwnTurn = Answers (start 16)
    (spawn ∷ spawn ∷ event.Turn (step.Act (act.Wake 0) ∷ []) end.Pending ∷ event.Turn [] end.Pending ∷ event.Turn [] end.Pending ∷ [])
    (report.Reply (reply.Task 0) ∷ report.Reply (reply.Task 1) ∷ report.Turn 0 (reply.Woke woke.Noted ∷ []) ended.Again ∷ report.Turn 1 [] ended.Idle ∷ report.Turn 0 [] ended.Idle ∷ [])

-- The latest waker alone: of two tasks that polled a sleep, the one that polled last is woken.
abbrev pub LatestWaker : Type 0
LatestWaker = Answers (start 16)
    (spawn ∷ spawn ∷ event.Turn (new_sleep 10000000 ∷ poll 0 ∷ []) end.Pending ∷ event.Turn (poll 0 ∷ []) end.Pending ∷ event.Clock 10000000 ∷ event.Turn [] (end.Ready 1) ∷ event.Turn [] (end.Ready 2) ∷ [])
    (report.Reply (reply.Task 0) ∷ report.Reply (reply.Task 1) ∷ report.Turn 0 (reply.Sleep 0 ∷ reply.Pending ∷ []) ended.Idle ∷ report.Turn 1 (reply.Pending ∷ []) ended.Idle ∷ report.Fired (0 ∷ []) ∷ report.Turn 1 [] ended.Done ∷ report.Reply (reply.Refused refusal.Idle) ∷ [])

-- The greatest deadline and the greatest clock value, and the next above each. A reset to the greatest deadline elapses
-- at once if the clock has come to it.
abbrev pub EndOfTheType : Type 0
EndOfTheType = Answers (start 16)
    (event.Act (act.NewSleep 9223372036854775807000000) ∷ event.Act (act.NewSleep 9223372036854775807000001) ∷ event.Clock 9223372036854775807000000 ∷ event.Clock 9223372036854775807000001
    ∷ event.Act (act.Reset 0 9223372036854775807000000) ∷ [])
    (report.Reply (reply.Sleep 0) ∷ report.Reply (reply.Refused refusal.Invalid) ∷ report.Fired [] ∷ report.Reply (reply.Refused refusal.Invalid) ∷ report.Reply reply.Elapsed ∷ [])

-- A clock that goes back: the greatest tick stays, so that a reset to a deadline below it elapses at once, and the waker
-- is woken.
abbrev pub ClockGoesBack : Type 0
ClockGoesBack = Answers (start 16)
    (spawn ∷ event.Turn (new_sleep 12000000 ∷ poll 0 ∷ []) end.Pending ∷ event.Clock 10000000 ∷ event.Clock 5000000 ∷ event.Act (act.Reset 0 9000000) ∷ event.Turn [] (end.Ready 1) ∷ [])
    (report.Reply (reply.Task 0) ∷ report.Turn 0 (reply.Sleep 0 ∷ reply.Pending ∷ []) ended.Idle ∷ report.Fired [] ∷ report.Fired [] ∷ report.Reply reply.Elapsed ∷ report.Turn 0 [] ended.Done ∷ [])

-- A late move: the sleep fires at the deadline to which it was moved, and wakes the task that polled it.
abbrev pub LateMove : Type 0
LateMove = Answers (start 16)
    (spawn ∷ event.Turn (new_sleep 50000000 ∷ poll 0 ∷ step.Act (act.Reset 0 80000000) ∷ []) end.Pending ∷ event.Clock 50000000 ∷ event.Clock 80000000 ∷ event.Turn [] end.Pending ∷ [])
    (report.Reply (reply.Task 0) ∷ report.Turn 0 (reply.Sleep 0 ∷ reply.Pending ∷ reply.Armed ∷ []) ended.Idle ∷ report.Fired [] ∷ report.Fired (0 ∷ []) ∷ report.Turn 0 [] ended.Idle ∷ [])

-- A refused turn does no step.
abbrev pub RefusalFirst : Type 0
RefusalFirst = Answers (start 16)
    (event.Turn (new_sleep 0 ∷ []) (end.Ready 1) ∷ event.Act (act.SleepElapsed 0) ∷ [])
    (report.Reply (reply.Refused refusal.Idle) ∷ report.Reply (reply.Refused refusal.NoTimer) ∷ [])

-- A refusal in the middle of a turn does not end it.
abbrev pub RefusalInTheMiddle : Type 0
RefusalInTheMiddle = Answers (start 16)
    (spawn ∷ event.Act (act.NewSleep 5000000) ∷ event.Act (act.DropSleep 0) ∷ event.Turn (step.Act (act.Finished 0) ∷ poll 0 ∷ step.Act (act.Wake 0) ∷ []) end.Pending ∷ [])
    (report.Reply (reply.Task 0) ∷ report.Reply (reply.Sleep 0) ∷ report.Reply (reply.Dropped None) ∷ report.Turn 0 (reply.No ∷ reply.Refused refusal.NoTimer ∷ reply.Woke woke.Noted ∷ []) ended.Again ∷ [])

-- The first of two causes is the answer: with no room, a deadline that is too late is also refused for want of room.
abbrev pub NoRoomFirst : Type 0
NoRoomFirst = Answers (start 0)
    (spawn ∷ event.Act (act.NewSleep 9223372036854775807000001) ∷ event.Act (act.Wake 0) ∷ [])
    (report.Reply (reply.Refused refusal.AtCapacity) ∷ report.Reply (reply.Refused refusal.AtCapacity) ∷ report.Reply (reply.Refused refusal.NoTask) ∷ [])

-- The refusals of a join, in their order: an output is handed out once, then it is taken, then the handle is dropped; and
-- a task that was never made has no handle either.
abbrev pub RefusalsOfJoin : Type 0
RefusalsOfJoin = Answers (start 16)
    (spawn ∷ spawn ∷ event.Turn (join 1 ∷ []) end.Pending ∷ event.Turn [] (end.Ready 9) ∷ event.Turn (join 1 ∷ join 1 ∷ step.Act (act.DropJoin 1) ∷ join 1 ∷ join 5 ∷ []) end.Pending ∷ [])
    (report.Reply (reply.Task 0) ∷ report.Reply (reply.Task 1) ∷ report.Turn 0 (reply.Pending ∷ []) ended.Idle ∷ report.Turn 1 [] ended.Done
    ∷ report.Turn 0 (reply.Output 9 ∷ reply.Refused refusal.Taken ∷ reply.Dropped None ∷ reply.Refused refusal.NoHandle ∷ reply.Refused refusal.NoTask ∷ []) ended.Idle ∷ [])

-- Doubles in the inbox: a task that waits there is not listed again, and the drain wakes it once.
abbrev pub DoublesInInbox : Type 0
DoublesInInbox = Answers (start 16)
    (spawn ∷ event.Turn [] end.Pending ∷ event.Remote 0 ∷ event.Remote 0 ∷ event.Drain ∷ event.Drain ∷ event.Turn [] end.Pending ∷ [])
    (report.Reply (reply.Task 0) ∷ report.Turn 0 [] ended.Idle ∷ report.Listed ∷ report.Unlisted ∷ report.Drained (0 ∷ []) ∷ report.Drained [] ∷ report.Turn 0 [] ended.Idle ∷ [])

-- Two causes: with no room, also a job that may not be made here is refused for want of room.
abbrev pub TwoCauses : Type 0
TwoCauses = Answers (start_with blocking.Panic 0)
    (spawn ∷ event.Act (act.Block 3) ∷ event.Act (act.NewSleep 9223372036854775807000001) ∷ [])
    (report.Reply (reply.Refused refusal.AtCapacity) ∷ report.Reply (reply.Refused refusal.AtCapacity) ∷ report.Reply (reply.Refused refusal.AtCapacity) ∷ [])

-- Three strategies: a job is refused, has run on the caller, or runs until its end is reported.
abbrev pub NoPool : Type 0
NoPool = Answers (start_with blocking.Panic 4) (event.Act (act.Block 3) ∷ []) (report.Reply (reply.Refused refusal.NoPool) ∷ [])

abbrev pub OnTheCaller : Type 0
OnTheCaller = Answers (start_with blocking.ExecuteLocal 4)
    (spawn ∷ block_and_poll ∷ event.Act (act.JobEnd 0 how.Ran) ∷ [])
    (report.Reply (reply.Task 0) ∷ report.Turn 0 (reply.Job 0 ∷ reply.Output 3 ∷ []) ended.Idle ∷ report.Reply (reply.Refused refusal.Ended) ∷ [])

abbrev pub OnAThread : Type 0
OnAThread = Answers (start_with blocking.Attached 4)
    (spawn ∷ block_and_poll ∷ event.Act (act.JobEnd 0 how.Canceled) ∷ event.Remote 0 ∷ event.Drain ∷ [])
    (report.Reply (reply.Task 0) ∷ report.Turn 0 (reply.Job 0 ∷ reply.Pending ∷ []) ended.Idle ∷ report.Reply (reply.Ended (Some 0)) ∷ report.Listed ∷ report.Drained (0 ∷ []) ∷ [])

-- The end of a job whose handle was dropped changes nothing, and no output comes out of one that was canceled.
abbrev pub JobsThatEnd : Type 0
JobsThatEnd = Answers (start_with blocking.Attached 4)
    (event.Act (act.Block 3) ∷ event.Act (act.Block 4) ∷ event.Act (act.DropJob 0) ∷ event.Act (act.JobEnd 0 how.Ran) ∷ event.Act (act.JobEnd 1 how.Canceled) ∷ event.Act (act.JobFinished 1)
    ∷ event.Act (act.DropJob 1) ∷ event.Act (act.DropJob 1) ∷ event.Act (act.JobEnd 2 how.Ran) ∷ [])
    (report.Reply (reply.Job 0) ∷ report.Reply (reply.Job 1) ∷ report.Reply (reply.Dropped None) ∷ report.Reply (reply.Ended None) ∷ report.Reply (reply.Ended None) ∷ report.Reply reply.Yes
    ∷ report.Reply (reply.Dropped None) ∷ report.Reply (reply.Refused refusal.NoHandle) ∷ report.Reply (reply.Refused refusal.NoTask) ∷ [])

-- The end of a job answers its waiter and wakes no task: the task has a turn once a wake from a thread is drained.
abbrev pub EndOfJobWakesNobody : Type 0
EndOfJobWakesNobody = Answers (start 4)
    (spawn ∷ event.Turn (step.Act (act.Block 3) ∷ step.Query (query.Job 0) ∷ []) end.Pending ∷ event.Act (act.JobEnd 0 how.Ran) ∷ event.Turn [] end.Pending ∷ event.Remote 0 ∷ event.Turn [] end.Pending ∷ event.Drain ∷ event.Turn (step.Query (query.Job 0) ∷ step.Query (query.Job 0) ∷ step.Act (act.JobFinished 0) ∷ []) end.Pending ∷ [])
    (report.Reply (reply.Task 0) ∷ report.Turn 0 (reply.Job 0 ∷ reply.Pending ∷ []) ended.Idle ∷ report.Reply (reply.Ended (Some 0)) ∷ report.Reply (reply.Refused refusal.Idle) ∷ report.Listed ∷ report.Reply (reply.Refused refusal.Idle) ∷ report.Drained (0 ∷ []) ∷ report.Turn 0 (reply.Output 3 ∷ reply.Refused refusal.Taken ∷ reply.Yes ∷ []) ended.Idle ∷ [])

-- A canceled job is reported once; then it is taken, has finished, and its handle can be dropped.
abbrev pub CanceledIsToldOnce : Type 0
CanceledIsToldOnce = Answers (start 4)
    (spawn ∷ event.Act (act.Block 3) ∷ event.Act (act.JobEnd 0 how.Canceled) ∷ event.Turn (step.Query (query.Job 0) ∷ step.Query (query.Job 0) ∷ step.Act (act.JobFinished 0) ∷ step.Act (act.DropJob 0) ∷ []) end.Pending ∷ [])
    (report.Reply (reply.Task 0) ∷ report.Reply (reply.Job 0) ∷ report.Reply (reply.Ended None) ∷ report.Turn 0 (reply.Canceled ∷ reply.Refused refusal.Taken ∷ reply.Yes ∷ reply.Dropped None ∷ []) ended.Idle ∷ [])

-- A clock step wakes in the order in which it fires.
abbrev pub WakesInOrder : Type 0
WakesInOrder = Answers (start 16)
    (spawn ∷ spawn ∷ event.Turn (new_sleep 10000000 ∷ poll 0 ∷ []) end.Pending ∷ event.Turn (new_sleep 20000000 ∷ poll 1 ∷ []) end.Pending ∷ event.Clock 20000000 ∷ event.Turn [] end.Pending ∷ event.Turn [] end.Pending ∷ [])
    (report.Reply (reply.Task 0) ∷ report.Reply (reply.Task 1) ∷ report.Turn 0 (reply.Sleep 0 ∷ reply.Pending ∷ []) ended.Idle ∷ report.Turn 1 (reply.Sleep 1 ∷ reply.Pending ∷ []) ended.Idle ∷ report.Fired (0 ∷ 1 ∷ []) ∷ report.Turn 0 [] ended.Idle ∷ report.Turn 1 [] ended.Idle ∷ [])

-- The task that polled a join handle last is woken, of two that polled it.
abbrev pub LatestWaiter : Type 0
LatestWaiter = Answers (start 16)
    (spawn ∷ spawn ∷ spawn ∷ event.Turn (join 2 ∷ []) end.Pending ∷ event.Turn (join 2 ∷ []) end.Pending ∷ event.Turn [] (end.Ready 5) ∷ event.Turn (join 2 ∷ []) end.Pending ∷ event.Turn [] end.Pending ∷ [])
    (report.Reply (reply.Task 0) ∷ report.Reply (reply.Task 1) ∷ report.Reply (reply.Task 2) ∷ report.Turn 0 (reply.Pending ∷ []) ended.Idle ∷ report.Turn 1 (reply.Pending ∷ []) ended.Idle ∷ report.Turn 2 [] ended.Done ∷ report.Turn 1 (reply.Output 5 ∷ []) ended.Idle ∷ report.Reply (reply.Refused refusal.Idle) ∷ [])

-- The task that polled a job last is answered at its end, of two that polled it.
abbrev pub LatestWaiterOfJob : Type 0
LatestWaiterOfJob = Answers (start 16)
    (spawn ∷ spawn ∷ event.Turn (step.Act (act.Block 3) ∷ step.Query (query.Job 0) ∷ []) end.Pending ∷ event.Turn (step.Query (query.Job 0) ∷ []) end.Pending ∷ event.Act (act.JobEnd 0 how.Ran) ∷ [])
    (report.Reply (reply.Task 0) ∷ report.Reply (reply.Task 1) ∷ report.Turn 0 (reply.Job 0 ∷ reply.Pending ∷ []) ended.Idle ∷ report.Turn 1 (reply.Pending ∷ []) ended.Idle ∷ report.Reply (reply.Ended (Some 1)) ∷ [])

-- A task that wakes itself twice in its turn runs once more, and one that wakes itself in its last turn does not.
abbrev pub NotedTwice : Type 0
NotedTwice = Answers (start 16)
    (spawn ∷ event.Turn (step.Act (act.Wake 0) ∷ step.Act (act.Wake 0) ∷ []) end.Pending ∷ event.Turn (step.Act (act.Wake 0) ∷ []) (end.Ready 1) ∷ event.Turn [] end.Pending ∷ [])
    (report.Reply (reply.Task 0) ∷ report.Turn 0 (reply.Woke woke.Noted ∷ reply.Woke woke.Noted ∷ []) ended.Again ∷ report.Turn 0 (reply.Woke woke.Noted ∷ []) ended.Done ∷ report.Reply (reply.Refused refusal.Idle) ∷ [])

-- A wake from a thread lists a queued task and one without a handle, but no finished task. A task that finishes once it
-- is listed comes out of the drain and has no turn.
abbrev pub WhoIsListed : Type 0
WhoIsListed = Answers (start 16)
    (spawn ∷ spawn ∷ spawn ∷ event.Remote 0 ∷ event.Turn [] (end.Ready 1) ∷ event.Remote 0 ∷ event.Act (act.DropJoin 1) ∷ event.Turn [] end.Pending ∷ event.Remote 1 ∷ event.Drain ∷ event.Turn [] end.Pending ∷ event.Turn [] end.Pending ∷ event.Turn [] end.Pending ∷ [])
    (report.Reply (reply.Task 0) ∷ report.Reply (reply.Task 1) ∷ report.Reply (reply.Task 2) ∷ report.Listed ∷ report.Turn 0 [] ended.Done ∷ report.Unlisted ∷ report.Reply (reply.Dropped None) ∷ report.Turn 1 [] ended.Idle ∷ report.Listed ∷ report.Drained (0 ∷ 1 ∷ []) ∷ report.Turn 2 [] ended.Idle ∷ report.Turn 1 [] ended.Idle ∷ report.Reply (reply.Refused refusal.Idle) ∷ [])

-- A task that finishes while it waits in the inbox is not listed again, and comes out of the drain.
abbrev pub FinishesInTheInbox : Type 0
FinishesInTheInbox = Answers (start 16)
    (spawn ∷ event.Remote 0 ∷ event.Turn [] (end.Ready 1) ∷ event.Remote 0 ∷ event.Drain ∷ [])
    (report.Reply (reply.Task 0) ∷ report.Listed ∷ report.Turn 0 [] ended.Done ∷ report.Unlisted ∷ report.Drained (0 ∷ []) ∷ [])

-- A wake of a queued task leaves its place in the queue.
abbrev pub QueuedStaysInPlace : Type 0
QueuedStaysInPlace = Answers (start 16)
    (spawn ∷ spawn ∷ event.Act (act.Wake 0) ∷ event.Turn [] end.Pending ∷ [])
    (report.Reply (reply.Task 0) ∷ report.Reply (reply.Task 1) ∷ report.Reply (reply.Woke woke.Nothing) ∷ report.Turn 0 [] ended.Idle ∷ [])

-- A reset arms a sleep that was never polled, and one that has fired, which then is no longer elapsed.
abbrev pub ResetOfAFreshSleep : Type 0
ResetOfAFreshSleep = Answers (start 16)
    (event.Act (act.NewSleep 5000000) ∷ event.Act (act.Reset 0 6000000) ∷ event.Clock 5000000 ∷ event.Clock 6000000 ∷ event.Act (act.Reset 0 7000000) ∷ event.Act (act.SleepElapsed 0) ∷ event.Clock 7000000 ∷ [])
    (report.Reply (reply.Sleep 0) ∷ report.Reply reply.Armed ∷ report.Fired [] ∷ report.Fired (0 ∷ []) ∷ report.Reply reply.Armed ∷ report.Reply reply.No ∷ report.Fired (0 ∷ []) ∷ [])

-- The drop of a polled sleep wakes no task, and the sleep does not fire.
abbrev pub DroppedSleepWakesNobody : Type 0
DroppedSleepWakesNobody = Answers (start 16)
    (spawn ∷ event.Turn (new_sleep 5000000 ∷ poll 0 ∷ []) end.Pending ∷ event.Act (act.DropSleep 0) ∷ event.Turn [] end.Pending ∷ event.Clock 5000000 ∷ [])
    (report.Reply (reply.Task 0) ∷ report.Turn 0 (reply.Sleep 0 ∷ reply.Pending ∷ []) ended.Idle ∷ report.Reply (reply.Dropped None) ∷ report.Reply (reply.Refused refusal.Idle) ∷ report.Fired [] ∷ [])

-- A sleep that is moved to an earlier tick fires after those that were armed for it before.
abbrev pub MovedEarlierIsLast : Type 0
MovedEarlierIsLast = Answers (start 16)
    (spawn ∷ event.Turn (new_sleep 90000000 ∷ new_sleep 60000000 ∷ poll 0 ∷ poll 1 ∷ []) end.Pending ∷ event.Act (act.Reset 0 60000000) ∷ event.Clock 60000000 ∷ [])
    (report.Reply (reply.Task 0) ∷ report.Turn 0 (reply.Sleep 0 ∷ reply.Sleep 1 ∷ reply.Pending ∷ reply.Pending ∷ []) ended.Idle ∷ report.Reply reply.Armed ∷ report.Fired (1 ∷ 0 ∷ []) ∷ [])

-- A sleep that is moved to an earlier tick wakes the task that polled it, and is ready at every further poll.
abbrev pub MovedEarlierKeepsWaker : Type 0
MovedEarlierKeepsWaker = Answers (start 16)
    (spawn ∷ event.Turn (new_sleep 90000000 ∷ poll 0 ∷ []) end.Pending ∷ event.Act (act.Reset 0 60000000) ∷ event.Clock 60000000 ∷ event.Turn (poll 0 ∷ poll 0 ∷ []) end.Pending ∷ [])
    (report.Reply (reply.Task 0) ∷ report.Turn 0 (reply.Sleep 0 ∷ reply.Pending ∷ []) ended.Idle ∷ report.Reply reply.Armed ∷ report.Fired (0 ∷ []) ∷ report.Turn 0 (reply.Ready ∷ reply.Ready ∷ []) ended.Idle ∷ [])

-- A task or job that has ended takes room until its handle is dropped.
abbrev pub FinishedTakesRoom : Type 0
FinishedTakesRoom = Answers (start 1)
    (spawn ∷ event.Turn [] (end.Ready 1) ∷ spawn ∷ event.Act (act.DropJoin 0) ∷ spawn ∷ event.Act (act.Block 1) ∷ event.Act (act.JobEnd 0 how.Ran) ∷ event.Act (act.Block 2) ∷ event.Act (act.DropJob 0) ∷ event.Act (act.Block 2) ∷ [])
    (report.Reply (reply.Task 0) ∷ report.Turn 0 [] ended.Done ∷ report.Reply (reply.Refused refusal.AtCapacity) ∷ report.Reply (reply.Dropped (Some 1)) ∷ report.Reply (reply.Task 1) ∷ report.Reply (reply.Job 0) ∷ report.Reply (reply.Ended None) ∷ report.Reply (reply.Refused refusal.AtCapacity) ∷ report.Reply (reply.Dropped (Some 1)) ∷ report.Reply (reply.Job 1) ∷ [])

-- A task without a handle takes room until it has finished, and then is removed.
abbrev pub NoHandleTakesRoom : Type 0
NoHandleTakesRoom = Answers (start 1)
    (spawn ∷ event.Act (act.DropJoin 0) ∷ spawn ∷ event.Turn [] (end.Ready 1) ∷ spawn ∷ [])
    (report.Reply (reply.Task 0) ∷ report.Reply (reply.Dropped None) ∷ report.Reply (reply.Refused refusal.AtCapacity) ∷ report.Turn 0 [] ended.Gone ∷ report.Reply (reply.Task 1) ∷ [])

-- A task that polled its own handle is not queued by its end.
abbrev pub WaitsForItself : Type 0
WaitsForItself = Answers (start 16)
    (spawn ∷ event.Turn (join 0 ∷ []) end.Pending ∷ event.Act (act.Wake 0) ∷ event.Turn [] (end.Ready 1) ∷ event.Turn [] end.Pending ∷ [])
    (report.Reply (reply.Task 0) ∷ report.Turn 0 (reply.Pending ∷ []) ended.Idle ∷ report.Reply (reply.Woke woke.Queued) ∷ report.Turn 0 [] ended.Done ∷ report.Reply (reply.Refused refusal.Idle) ∷ [])

-- A task whose output was taken has finished.
abbrev pub TakenHasFinished : Type 0
TakenHasFinished = Answers (start 16)
    (spawn ∷ spawn ∷ event.Turn [] (end.Ready 1) ∷ event.Turn (join 0 ∷ step.Act (act.Finished 0) ∷ []) end.Pending ∷ [])
    (report.Reply (reply.Task 0) ∷ report.Reply (reply.Task 1) ∷ report.Turn 0 [] ended.Done ∷ report.Turn 1 (reply.Output 1 ∷ reply.Yes ∷ []) ended.Idle ∷ [])

-- A sleep whose deadline is now is not elapsed before it is polled.
abbrev pub DueIsNotElapsed : Type 0
DueIsNotElapsed = Answers (start 16)
    (event.Act (act.NewSleep 0) ∷ event.Act (act.SleepElapsed 0) ∷ [])
    (report.Reply (reply.Sleep 0) ∷ report.Reply reply.No ∷ [])

-- A clock step fires in the order of the ticks, whatever was armed first.
abbrev pub AscendingTicks : Type 0
AscendingTicks = Answers (start 16)
    (spawn ∷ event.Turn (new_sleep 20000000 ∷ new_sleep 10000000 ∷ poll 0 ∷ poll 1 ∷ poll 0 ∷ []) end.Pending ∷ event.Clock 20000000 ∷ [])
    (report.Reply (reply.Task 0) ∷ report.Turn 0 (reply.Sleep 0 ∷ reply.Sleep 1 ∷ reply.Pending ∷ reply.Pending ∷ reply.Pending ∷ []) ended.Idle ∷ report.Fired (1 ∷ 0 ∷ []) ∷ [])

-- A task that has finished is not listed, even if its handle is kept.
abbrev pub DoneIsNotListed : Type 0
DoneIsNotListed = Answers (start 16)
    (spawn ∷ event.Turn [] (end.Ready 1) ∷ event.Remote 0 ∷ [])
    (report.Reply (reply.Task 0) ∷ report.Turn 0 [] ended.Done ∷ report.Unlisted ∷ [])

-- A further poll of an armed sleep leaves its place within its tick.
abbrev pub PollKeepsItsPlace : Type 0
PollKeepsItsPlace = Answers (start 16)
    (spawn ∷ event.Turn (new_sleep 10000000 ∷ new_sleep 10000000 ∷ poll 0 ∷ poll 1 ∷ poll 0 ∷ []) end.Pending ∷ event.Clock 10000000 ∷ [])
    (report.Reply (reply.Task 0) ∷ report.Turn 0 (reply.Sleep 0 ∷ reply.Sleep 1 ∷ reply.Pending ∷ reply.Pending ∷ reply.Pending ∷ []) ended.Idle ∷ report.Fired (0 ∷ 1 ∷ []) ∷ [])

-- the machine once two sleeps are armed
abbrev pub two_armed : ℕ → ℕ → Machine
two_armed n k = after_turn (new_sleep n ∷ new_sleep k ∷ poll 0 ∷ poll 1 ∷ []) end.Pending (act_outcome act.Spawn (start 16)).machine

-- Two sleeps with different ticks do not fire with the later tick first, and two with one tick do not fire with the
-- later armed first. None fires twice.
abbrev pub NoneFiresBeforeAnEarlier : Type 0
NoneFiresBeforeAnEarlier = (new : Machine) → Step (two_armed 20000000 10000000) (event.Clock 20000000) (report.Fired (0 ∷ 1 ∷ [])) new → ⊥

abbrev pub NoneFiresBeforeItsTurn : Type 0
NoneFiresBeforeItsTurn = (new : Machine) → Step (two_armed 10000000 10000000) (event.Clock 10000000) (report.Fired (1 ∷ 0 ∷ [])) new → ⊥

abbrev pub NoneFiresTwice : Type 0
NoneFiresTwice = (new : Machine) → Step (two_armed 10000000 20000000) (event.Clock 10000000) (report.Fired (0 ∷ 0 ∷ [])) new → ⊥

-- A wake is one of the task that it names, whatever it answers: from outside, by an act, or by a step of a turn. A turn
-- that was refused wakes nobody.
abbrev pub WhomAWakeNames : Type 0
WhomAWakeNames =
    (is_wake_of 0 (event.Remote 0) report.Listed ≡ true) × (is_wake_of 0 (event.Remote 0) report.Unlisted ≡ true) × (is_wake_of 0 (event.Remote 1) report.Listed ≡ false)
    × (is_wake_of 0 (event.Act (act.Wake 0)) (report.Reply (reply.Woke woke.Nothing)) ≡ true) × (is_wake_of 0 (event.Act (act.Wake 1)) (report.Reply (reply.Woke woke.Queued)) ≡ false)
    × (is_wake_of 0 (event.Turn (step.Act (act.Wake 1) ∷ step.Act (act.Wake 0) ∷ []) end.Pending) (report.Turn 1 (reply.Woke woke.Noted ∷ reply.Woke woke.Queued ∷ []) ended.Again) ≡ true)
    × (is_wake_of 0 (event.Turn (step.Act (act.Wake 0) ∷ []) end.Pending) (report.Reply (reply.Refused refusal.Idle)) ≡ false)
