-- The order of the lines in the journal of one or more whole calls of block_on, one after the other.
--
-- In each call the main task is made, unless it is refused, which is the call's one line. Then turns follow, each behind a
-- reading of the clock. Between two rounds of turns the inbox is drained, behind the wakes from other threads that it took;
-- if no task is queued, the clock is read and the driver parked before that, and with timers a clock step follows. If memory
-- runs out, the drain and the clock step behind a park may be missing. At the end the handle of the main task is dropped. The
-- output that the drop gave may stand behind it, on a line of its own. A clock may show less than before, but no reading is
-- above the greatest instant. A park has a limit only with timers, and a limit that ends after the clock steps so far.
use Rattle.std.specs.Prelude.{◌≡◌, ℕ, ◌+◌, ◌==◌, ◌&&◌, nat_le, nat_lt, max, Bool, true, false, if◌then◌else◌, List, [], ◌∷◌, Option, Some, None}
use Rattle.mono_model.specs.Ticks.{down, max_nanos}
use Rattle.mono_machine.specs.declared.events.Act.TheVariants as act
use Rattle.mono_machine.specs.declared.events.Event.{Event}
use Rattle.mono_machine.specs.declared.events.Event.TheVariants as event
use Rattle.mono_machine.specs.declared.events.Refusal.TheVariants as refusal
use Rattle.mono_machine.specs.declared.events.Reply.TheVariants as reply
use Rattle.mono_machine.specs.declared.events.Report.{Report}
use Rattle.mono_machine.specs.declared.events.Report.TheVariants as report
use Rattle.mono_trace.specs.declared.marks.Mark.{Mark}
use Rattle.mono_trace.specs.declared.marks.Mark.TheVariants as mark
use Rattle.mono_trace.specs.declared.marks.Stage.{Stage}
use Rattle.mono_trace.specs.declared.marks.Stage.TheVariants as stage

-- ---- what an event with its report is for the order

abbrev pub spawn_mark : Report → Mark
spawn_mark (report.Reply (reply.Task t)) = mark.Spawn t
spawn_mark (report.Reply (reply.Refused refusal.AtCapacity)) = mark.NoPlace
spawn_mark r = mark.Other

abbrev pub drop_mark : ℕ → Report → Mark
drop_mark t (report.Reply (reply.Dropped output)) = mark.Drop t output
drop_mark t r = mark.Drop t None

abbrev pub turn_mark : Report → Mark
turn_mark (report.Turn t replies ended) = mark.Turn
turn_mark r = mark.Other

abbrev pub clock_mark : ℕ → Report → Mark
clock_mark n (report.Fired fired) = mark.Clock n
clock_mark n r = mark.Other

abbrev pub pair_mark : Event → Report → Mark
pair_mark (event.Act act.Spawn) r = spawn_mark r
pair_mark (event.Act (act.DropJoin t)) r = drop_mark t r
pair_mark (event.Act a) r = mark.Other
pair_mark (event.Turn steps e) r = turn_mark r
pair_mark (event.Clock n) r = clock_mark n r
pair_mark (event.Remote t) r = mark.Wake
pair_mark event.Drain r = mark.Drain

-- ---- what may follow, stage by stage; g is the greatest tick of a clock step so far

abbrev pub after_start : ℕ → Mark → Option Stage
after_start g (mark.Spawn main) = Some (stage.Round main g)
after_start g mark.NoPlace = Some (stage.Start g)
after_start g m = None

abbrev pub reading_if : ℕ → ℕ → ℕ → Option Stage
reading_if main g n = if nat_le n max_nanos then Some (stage.Reading main g (down n)) else None

abbrev pub output_if : ℕ → ℕ → ℕ → Option ℕ → Option Stage
output_if main g t output = if t == main then Some (stage.Dropped output g) else None

-- a park for so many milliseconds from a tick ends after the greatest tick
abbrev pub ends_after : ℕ → ℕ → ℕ → Bool
ends_after g tick millis = nat_lt g (tick + millis)

-- without timers no park has a limit
abbrev pub parked_if : Bool → ℕ → ℕ → ℕ → Option ℕ → Option Stage
parked_if timers main g tick None = Some (stage.Parked main g)
parked_if timers main g tick (Some millis) = if timers && ends_after g tick millis then Some (stage.Parked main g) else None

-- with timers a clock step follows the drain behind a park
abbrev pub drained_to : Bool → ℕ → ℕ → Stage
drained_to timers main g = if timers then stage.Waited main g else stage.Round main g

abbrev pub after_round : ℕ → ℕ → Mark → Option Stage
after_round main g (mark.Now n) = reading_if main g n
after_round main g mark.Wake = Some (stage.Woken main g)
after_round main g mark.Drain = Some (stage.Round main g)
after_round main g (mark.Drop t output) = output_if main g t output
after_round main g m = None

abbrev pub after_now : Bool → ℕ → ℕ → ℕ → Mark → Option Stage
after_now timers main g tick mark.Turn = Some (stage.Round main g)
after_now timers main g tick (mark.Park limit) = parked_if timers main g tick limit
after_now timers main g tick m = None

abbrev pub after_park : Bool → ℕ → ℕ → Mark → Option Stage
after_park timers main g mark.Wake = Some (stage.Hearing main g)
after_park timers main g mark.Drain = Some (drained_to timers main g)
after_park timers main g (mark.Drop t output) = output_if main g t output
after_park timers main g m = None

abbrev pub after_hearing : Bool → ℕ → ℕ → Mark → Option Stage
after_hearing timers main g mark.Wake = Some (stage.Hearing main g)
after_hearing timers main g mark.Drain = Some (drained_to timers main g)
after_hearing timers main g m = None

abbrev pub after_wait : ℕ → ℕ → Mark → Option Stage
after_wait main g (mark.Clock n) = Some (stage.Round main (max g (down n)))
after_wait main g (mark.Drop t output) = output_if main g t output
after_wait main g m = None

abbrev pub after_wake : ℕ → ℕ → Mark → Option Stage
after_wake main g mark.Wake = Some (stage.Woken main g)
after_wake main g mark.Drain = Some (stage.Round main g)
after_wake main g m = None

-- the output behind the drop is the one that the drop gave
abbrev pub is_output : Option ℕ → ℕ → Bool
is_output None o = false
is_output (Some output) o = output == o

abbrev pub after_drop : Option ℕ → ℕ → Mark → Option Stage
after_drop output g (mark.Main o) = if is_output output o then Some (stage.Start g) else None
after_drop output g m = after_start g m

abbrev pub next_stage : Bool → Stage → Mark → Option Stage
next_stage timers (stage.Start g) m = after_start g m
next_stage timers (stage.Round main g) m = after_round main g m
next_stage timers (stage.Reading main g tick) m = after_now timers main g tick m
next_stage timers (stage.Parked main g) m = after_park timers main g m
next_stage timers (stage.Hearing main g) m = after_hearing timers main g m
next_stage timers (stage.Waited main g) m = after_wait main g m
next_stage timers (stage.Woken main g) m = after_wake main g m
next_stage timers (stage.Dropped output g) m = after_drop output g m

abbrev pub is_last : Stage → Bool
is_last (stage.Start g) = true
is_last (stage.Dropped output g) = true
is_last s = false

-- ---- whole lists

-- The first line that may not follow, and the stage before it; the lines that are left begin with line n. Behind the last line
-- a line is missing, unless the journal may end there.
abbrev pub stop_or : ℕ × Stage → Option Stage → (Stage → Option (ℕ × Stage)) → Option (ℕ × Stage)
stop_or here None later = Some here
stop_or here (Some next) later = later next

abbrev pub stop_at : Bool → ℕ → Stage → List Mark → Option (ℕ × Stage)
stop_at timers n s [] = if is_last s then None else Some (n, s)
stop_at timers n s (m ∷ marks) = stop_or (n, s) (next_stage timers s m) (λ next. stop_at timers (n + 1) next marks)

-- The first line that is out of order on a runtime with timers, or on one without, and the stage before it.
abbrev pub misplaced_on : Bool → List Mark → Option (ℕ × Stage)
misplaced_on timers marks = stop_at timers 1 (stage.Start 0) marks

-- The later one of two such lines; none, if there is none on one of the two runtimes.
abbrev pub later_of : Option (ℕ × Stage) → Option (ℕ × Stage) → Option (ℕ × Stage)
later_of None other = None
later_of (Some x) None = None
later_of (Some x) (Some y) = if nat_lt x.0 y.0 then Some y else Some x

-- The first line that is out of order on each runtime, counted from 1, and the stage before it.
abbrev pub misplaced : List Mark → Option (ℕ × Stage)
misplaced marks = later_of (misplaced_on true marks) (misplaced_on false marks)

abbrev pub IsOrdered : List Mark → Type 0
IsOrdered marks = misplaced marks ≡ None
