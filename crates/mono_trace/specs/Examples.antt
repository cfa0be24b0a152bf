-- Examples of checks: two sleeps of one tick that were moved there fire in any order, and a sleep that is not armed
-- does not fire. Journals whose lines are in order, and journals whose lines are not.
use Rattle.std.specs.Prelude.{◌≡◌, ℕ, ◌+◌, List, [], ◌∷◌, Option, Some, None}
use Rattle.mono_model.specs.Ticks.{max_nanos}
use Rattle.mono_model.specs.declared.Ended.TheVariants as ended
use Rattle.mono_machine.specs.Examples.{start, spawn, new_sleep, poll}
use Rattle.mono_machine.specs.declared.events.Act.TheVariants as act
use Rattle.mono_machine.specs.declared.events.TurnStep.TheVariants as step
use Rattle.mono_machine.specs.declared.events.End.TheVariants as end
use Rattle.mono_machine.specs.declared.events.Event.{Event}
use Rattle.mono_machine.specs.declared.events.Event.TheVariants as event
use Rattle.mono_machine.specs.declared.events.Reply.TheVariants as reply
use Rattle.mono_machine.specs.declared.events.Report.{Report}
use Rattle.mono_machine.specs.declared.events.Report.TheVariants as report
use Rattle.mono_trace.specs.Order.{IsOrdered, misplaced}
use Rattle.mono_trace.specs.Verdicts.{IsVerdict}
use Rattle.mono_trace.specs.declared.marks.Mark.{Mark}
use Rattle.mono_trace.specs.declared.marks.Mark.TheVariants as mark
use Rattle.mono_trace.specs.declared.marks.Stage.TheVariants as stage
use Rattle.mono_trace.specs.declared.Verdict.{Verdict}
use Rattle.mono_trace.specs.declared.Verdict.TheVariants.{Yes, No}

-- Two sleeps that are polled and then moved to one tick, and the clock at that tick.
abbrev pub moved_events : List Event
moved_events =
    spawn ∷ event.Turn (new_sleep 5000000 ∷ new_sleep 5000000 ∷ poll 0 ∷ poll 1 ∷ step.Act (act.Reset 0 9000000) ∷ step.Act (act.Reset 1 9000000) ∷ []) end.Pending ∷ event.Clock 9000000 ∷ []

abbrev pub moved_answers : List ℕ → List Report
moved_answers fired =
    report.Reply (reply.Task 0) ∷ report.Turn 0 (reply.Sleep 0 ∷ reply.Sleep 1 ∷ reply.Pending ∷ reply.Pending ∷ reply.Armed ∷ reply.Armed ∷ []) ended.Idle ∷ report.Fired fired ∷ []

abbrev pub MovedVerdict : List ℕ → Verdict → Type 0
MovedVerdict fired verdict = IsVerdict (start 16) moved_events (moved_answers fired) verdict

-- They may fire in the order of their numbers or in reverse, and no sleep fires twice.
abbrev pub OtherWayRound : Type 0
OtherWayRound = MovedVerdict (1 ∷ 0 ∷ []) Yes

abbrev pub InOrder : Type 0
InOrder = MovedVerdict (0 ∷ 1 ∷ []) Yes

abbrev pub NotTwice : Type 0
NotTwice = MovedVerdict (0 ∷ 0 ∷ []) (No 2)

-- A sleep that was made and not polled is not armed.
abbrev pub NotArmed : Type 0
NotArmed = IsVerdict (start 16)
    (spawn ∷ event.Turn (new_sleep 5 ∷ []) end.Pending ∷ event.Clock 5000000 ∷ [])
    (report.Reply (reply.Task 0) ∷ report.Turn 0 (reply.Sleep 0 ∷ []) ended.Idle ∷ report.Fired (0 ∷ []) ∷ [])
    (No 2)

-- ---- the order of a journal's lines

-- the journal of a call whose main task waits once, with this reading before the turn behind the wait, and what stands behind it
abbrev pub waiting : ℕ → List Mark → List Mark
waiting reading rest =
    mark.Spawn 0 ∷ mark.Now 0 ∷ mark.Turn ∷ mark.Now 0 ∷ mark.Park (Some 5) ∷ mark.Drain ∷ mark.Clock 5000000 ∷ mark.Now reading ∷ mark.Turn ∷ rest

-- a whole one
abbrev pub WholeRun : Type 0
WholeRun = IsOrdered (waiting 5000000 (mark.Drop 0 (Some 5) ∷ mark.Main 5 ∷ []))

-- the journal that a user keeps has no line of the output
abbrev pub NoOutputLine : Type 0
NoOutputLine = IsOrdered (waiting 5000000 (mark.Drop 0 (Some 5) ∷ []))

-- a clock may fall
abbrev pub FallingClock : Type 0
FallingClock = IsOrdered (mark.Spawn 0 ∷ mark.Now 7 ∷ mark.Turn ∷ mark.Now 3 ∷ mark.Turn ∷ mark.Drop 0 (Some 5) ∷ [])

-- two calls, one after the other, and one that is refused
abbrev pub TwoCalls : Type 0
TwoCalls = IsOrdered (waiting 5000000 (mark.Drop 0 (Some 5) ∷ mark.Main 5 ∷ mark.Spawn 1 ∷ mark.Now 9 ∷ mark.Turn ∷ mark.Drop 1 None ∷ mark.NoPlace ∷ []))

-- without timers no clock step follows a park, which has no limit
abbrev pub without_timers : Option ℕ → List Mark
without_timers limit =
    mark.Spawn 0 ∷ mark.Now 0 ∷ mark.Turn ∷ mark.Now 0 ∷ mark.Park limit ∷ mark.Wake ∷ mark.Drain ∷ mark.Now 5000000 ∷ mark.Turn ∷ mark.Drop 0 None ∷ []

abbrev pub NoTimers : Type 0
NoTimers = IsOrdered (without_timers None)

-- after a park with a limit it is missing in line 8
abbrev pub NoClockStep : Type 0
NoClockStep = misplaced (without_timers (Some 5)) ≡ Some (8, stage.Waited 0 0)

-- line 10 is missing
abbrev pub HalfRun : Type 0
HalfRun = misplaced (waiting 5000000 []) ≡ Some (10, stage.Round 0 5)

-- the drop gave another output than line 11 says
abbrev pub OtherOutput : Type 0
OtherOutput = misplaced (waiting 5000000 (mark.Drop 0 (Some 5) ∷ mark.Main 6 ∷ [])) ≡ Some (11, stage.Dropped (Some 5) 5)

-- no clock shows as much as line 8 says
abbrev pub LateReading : Type 0
LateReading = misplaced (waiting (max_nanos + 1) (mark.Drop 0 (Some 5) ∷ [])) ≡ Some (8, stage.Round 0 5)

-- a park at tick 0 that ends at tick 5, which a clock step has reached, in line 9
abbrev pub EarlyReading : Type 0
EarlyReading = misplaced (mark.Spawn 0 ∷ mark.Now 0 ∷ mark.Turn ∷ mark.Now 0 ∷ mark.Park (Some 5) ∷ mark.Drain ∷ mark.Clock 5000000 ∷ mark.Now 0 ∷ mark.Park (Some 5) ∷ []) ≡ Some (9, stage.Reading 0 5 0)
