-- The journal of one call that runs a main task: rounds of turns, and between two rounds a hand-in or a park.
use Rattle.std.specs.Prelude.{⊤, ◌≡◌, ◌≢◌, ◌<◌, ◌≤◌, ◌⊎◌, ℕ, ◌+◌, ◌-◌, ◌*◌, zero, suc, min, Bool, true, false, List, [], ◌∷◌, length, Option, Some, None, Result, Ok, Err, AllPairs}
use Rattle.mono_model.specs.Ticks.{down, max_nanos}
use Rattle.mono_model.specs.Table.{value_at}
use Rattle.mono_task.specs.Work.{has_output}
use Rattle.mono_model.specs.Sleeps.{Arming, armed}
use Rattle.mono_machine.specs.Machine.{Machine}
use Rattle.mono_machine.specs.Steps.{Step}
use Rattle.mono_machine.specs.declared.events.Act.TheVariants as act
use Rattle.mono_machine.specs.declared.events.Event.TheVariants as event
use Rattle.mono_machine.specs.declared.events.TurnStep.{TurnStep}
use Rattle.mono_machine.specs.declared.events.End.{End}
use Rattle.mono_machine.specs.declared.events.Refusal.TheVariants as refusal
use Rattle.mono_machine.specs.declared.events.Reply.{Reply}
use Rattle.mono_machine.specs.declared.events.Reply.TheVariants as reply
use Rattle.mono_machine.specs.declared.events.Report.{Report}
use Rattle.mono_machine.specs.declared.events.Report.TheVariants as report
use Rattle.mono_model.specs.declared.Ended.{Ended}
use Rattle.mono_rt.specs.Journals.{IsStep, Stays}
use Rattle.mono_rt.specs.declared.parts.errors.RunError.{RunError}
use Rattle.mono_rt.specs.declared.parts.errors.RunError.TheVariants as error
use Rattle.mono_rt.specs.declared.parts.journals.Entry.{Entry}
use Rattle.mono_rt.specs.declared.parts.journals.Entry.TheVariants.{Ran, Now, Park}

-- Each relation below is between a machine with the entries that are still to come, and the machine with those that are
-- left after it.

-- the clock is read, which shows an instant, and the front has its turn
pub record OneTurn (old : Machine) (part : List Entry) (new : Machine) (rest : List Entry) : Type 0 where
  pub now : ℕ
  pub steps : List TurnStep
  pub ending : End
  pub task : ℕ
  pub replies : List Reply
  pub ended : Ended
  pub entries : part ≡ Now now ∷ Ran (event.Turn steps ending) (report.Turn task replies ended) ∷ rest
  pub step : Step old (event.Turn steps ending) (report.Turn task replies ended) new
  pub in_range : now ≤ max_nanos

-- The last turn is a step of its own, so that one more turn is one more step.
abbrev pub Turns : ℕ → Machine → List Entry → Machine → List Entry → Type 0
Turns zero old part new rest = (part ≡ rest) × (new ≡ old)
Turns (suc n) old part new rest = (mid : Machine) × ((left : List Entry) × (Turns n old part mid left × OneTurn mid left new rest))

-- the greatest number of turns in a round
abbrev pub most_turns_of : ℕ → List ℕ → ℕ
most_turns_of units queue = min units (2 * length queue + 1)

abbrev pub most_turns : ℕ → Machine → ℕ
most_turns units m = most_turns_of units m.tasks.queue

-- A round ends at the first of these: the queue is empty, the budget is spent, or its turns are done.
pub record Round (units left : ℕ) (old : Machine) (part : List Entry) (new : Machine) (rest : List Entry) : Type 0 where
  pub turns : ℕ
  pub are : Turns turns old part new rest
  pub within : turns ≤ most_turns units old
  pub ends : (new.tasks.queue ≡ []) ⊎ (turns ≡ most_turns units old)
  pub units_left : left ≡ units - turns

-- a turn in which memory ran out: it did not begin, or it has its entry
abbrev pub UpToOneTurn : Machine → List Entry → Machine → List Entry → Type 0
UpToOneTurn old part new rest = Stays old part new rest ⊎ OneTurn old part new rest

-- a turn, by its answer
abbrev pub TurnEnds : {A : Type 0} → Result A RunError → Machine → List Entry → Machine → List Entry → Type 0
TurnEnds (Ok x) old part new rest = OneTurn old part new rest
TurnEnds (Err e) old part new rest = UpToOneTurn old part new rest

-- a round in which memory ran out: some of its turns, within the budget
abbrev pub RoundBreaks : ℕ → Machine → List Entry → Machine → List Entry → Type 0
RoundBreaks units old part new rest = (turns : ℕ) × (Turns turns old part new rest × (turns ≤ most_turns units old))

-- one wake from outside for each task that was taken under the lock
abbrev pub Remotes : List ℕ → Machine → List Entry → Machine → List Entry → Type 0
Remotes [] old part new rest = (part ≡ rest) × (new ≡ old)
Remotes (t ∷ ts) old part new rest =
    (told : Report) × ((mid : Machine) × ((left : List Entry) × ((part ≡ Ran (event.Remote t) told ∷ left) × Step old (event.Remote t) told mid × Remotes ts mid left new rest)))

-- the inbox is drained
pub record Drained (old : Machine) (part : List Entry) (new : Machine) (rest : List Entry) : Type 0 where
  pub taken : List ℕ
  pub distinct : AllPairs (λ s t. s ≢ t) taken
  pub mid : Machine
  pub left : List Entry
  pub remotes : Remotes taken old part mid left
  pub listed : List ℕ
  pub entry : left ≡ Ran event.Drain (report.Drained listed) ∷ rest
  pub step : Step mid event.Drain (report.Drained listed) new

-- a clock step
abbrev pub IsClock : Machine → List Entry → Machine → List Entry → Type 0
IsClock old part new rest = (n : ℕ) × ((fired : List ℕ) × ((part ≡ Ran (event.Clock n) (report.Fired fired) ∷ rest) × Step old (event.Clock n) (report.Fired fired) new))

-- with timers a clock step is done
abbrev pub ClockIf : Bool → Machine → List Entry → Machine → List Entry → Type 0
ClockIf false old part new rest = (part ≡ rest) × (new ≡ old)
ClockIf true old part new rest = IsClock old part new rest

-- some sleep is armed
abbrev pub IsOneArmed : Machine → Type 0
IsOneArmed m = (s : ℕ) × ((a : Arming) × (value_at m.sleeps.table s ≡ Some (armed a)))

-- The driver is parked until a tick that is above the greatest tick and not above the tick of any armed sleep.
pub record WaitsUntil (m : Machine) (now v : ℕ) : Type 0 where
  pub until : ℕ
  pub is_wait : v ≡ until - down now
  pub above : m.sleeps.greatest < until
  pub before : (s : ℕ) (a : Arming) → value_at m.sleeps.table s ≡ Some (armed a) → until ≤ a.tick
  pub is_one : IsOneArmed m

-- How long the driver is parked, in milliseconds: without an end if there are no timers or no sleep is armed.
abbrev pub IsWait : Bool → Machine → ℕ → Option ℕ → Type 0
IsWait false m now None = ⊤
IsWait false m now (Some v) = ⊥
IsWait true m now None = IsOneArmed m → ⊥
IsWait true m now (Some v) = WaitsUntil m now v

-- the clock is read, which shows an instant, and the driver is parked
abbrev pub IsPark : Bool → Machine → List Entry → Machine → List Entry → Type 0
IsPark has_timers old part new rest = (now : ℕ) × ((wait : Option ℕ) × (IsWait has_timers old now wait × ((part ≡ Now now ∷ Park wait ∷ rest) × ((new ≡ old) × (now ≤ max_nanos)))))

pub record Parks (has_timers : Bool) (old : Machine) (part : List Entry) (new : Machine) (rest : List Entry) : Type 0 where
  pub parked : Machine
  pub left : List Entry
  pub parks : IsPark has_timers old part parked left
  pub drained : Machine
  pub after : List Entry
  pub drains : Drained parked left drained after
  pub clock : ClockIf has_timers drained after new rest

-- the entries between two rounds, by the queue
abbrev pub Pauses : Bool → List ℕ → Machine → List Entry → Machine → List Entry → Type 0
Pauses has_timers [] old part new rest = Parks has_timers old part new rest
Pauses has_timers (front ∷ queue) old part new rest = Drained old part new rest

abbrev pub Pause : Bool → Machine → List Entry → Machine → List Entry → Type 0
Pause has_timers old part new rest = Pauses has_timers old.tasks.queue old part new rest

-- the driver was parked and the inbox drained, and memory ran out in the clock step
pub record ParkedDrained (has_timers : Bool) (old : Machine) (part : List Entry) (new : Machine) (rest : List Entry) : Type 0 where
  pub parked : Machine
  pub left : List Entry
  pub parks : IsPark has_timers old part parked left
  pub drains : Drained parked left new rest
  pub timers : has_timers ≡ true

-- memory ran out before the park, or in the drain after it, or in the clock step after that
abbrev pub ParkBreaks : Bool → Machine → List Entry → Machine → List Entry → Type 0
ParkBreaks has_timers old part new rest = Stays old part new rest ⊎ (IsPark has_timers old part new rest ⊎ ParkedDrained has_timers old part new rest)

-- the park failed, and memory lasted or ran out after it
abbrev pub ParkFails : Bool → Machine → List Entry → Machine → List Entry → Type 0
ParkFails has_timers old part new rest = Parks has_timers old part new rest ⊎ (IsPark has_timers old part new rest ⊎ ParkedDrained has_timers old part new rest)

-- a wait, by its answer: whether the park failed
abbrev pub WaitEnds : Bool → Result Bool RunError → Machine → List Entry → Machine → List Entry → Type 0
WaitEnds has_timers (Ok false) old part new rest = Parks has_timers old part new rest
WaitEnds has_timers (Ok true) old part new rest = ParkFails has_timers old part new rest
WaitEnds has_timers (Err e) old part new rest = ParkBreaks has_timers old part new rest

-- the answer of a wait that ran out of memory after its park, by whether the park failed
abbrev pub broken_after : Bool → Result Bool RunError
broken_after true = Ok true
broken_after false = Err error.Memory

-- Memory ran out between two rounds, by the queue: in a wait, or in the drain, which did nothing.
abbrev pub PausesBreak : Bool → List ℕ → Machine → List Entry → Machine → List Entry → Type 0
PausesBreak has_timers [] old part new rest = ParkBreaks has_timers old part new rest
PausesBreak has_timers (front ∷ queue) old part new rest = Stays old part new rest

abbrev pub PauseBreaks : Bool → Machine → List Entry → Machine → List Entry → Type 0
PauseBreaks has_timers old part new rest = PausesBreak has_timers old.tasks.queue old part new rest

-- The driver failed between two rounds, by the queue: in the park, or in the submit. A drain and, after a park, a clock step
-- follow, unless memory ran out.
abbrev pub PausesFail : Bool → List ℕ → Machine → List Entry → Machine → List Entry → Type 0
PausesFail has_timers [] old part new rest = ParkFails has_timers old part new rest
PausesFail has_timers (front ∷ queue) old part new rest = Drained old part new rest ⊎ Stays old part new rest

abbrev pub PauseFails : Bool → Machine → List Entry → Machine → List Entry → Type 0
PauseFails has_timers old part new rest = PausesFail has_timers old.tasks.queue old part new rest

-- the whole pause is recorded, unless memory ran out
abbrev pub PauseEnds : Bool → Result Bool RunError → Machine → List Entry → Machine → List Entry → Type 0
PauseEnds has_timers (Ok spent) old part new rest = Pause has_timers old part new rest
PauseEnds has_timers (Err error.Driver) old part new rest = PauseFails has_timers old part new rest
PauseEnds has_timers (Err error.Memory) old part new rest = PauseBreaks has_timers old part new rest
PauseEnds has_timers (Err error.Turns) old part new rest = ⊥
PauseEnds has_timers (Err error.AtCapacity) old part new rest = ⊥

-- a park after which the queue is still empty costs one
abbrev pub cost : List ℕ → List ℕ → ℕ
cost [] [] = 1
cost [] (t ∷ ts) = 0
cost (front ∷ queue) after = 0

-- a pause and a round
pub record Pass (has_timers : Bool) (units left : ℕ) (old : Machine) (part : List Entry) (new : Machine) (rest : List Entry) : Type 0 where
  pub paused : Machine
  pub behind : List Entry
  pub pause : Pause has_timers old part paused behind
  pub round : Round (units - cost old.tasks.queue paused.tasks.queue) left paused behind new rest

-- a pause, and a round in which memory ran out
pub record PassBreaks (has_timers : Bool) (units : ℕ) (old : Machine) (part : List Entry) (new : Machine) (rest : List Entry) : Type 0 where
  pub paused : Machine
  pub behind : List Entry
  pub pause : Pause has_timers old part paused behind
  pub round : RoundBreaks (units - cost old.tasks.queue paused.tasks.queue) paused behind new rest

-- if the driver failed, there is no round
abbrev pub PassEnds : Bool → ℕ → Result ℕ RunError → Machine → List Entry → Machine → List Entry → Type 0
PassEnds has_timers units (Ok left) old part new rest = Pass has_timers units left old part new rest
PassEnds has_timers units (Err error.Driver) old part new rest = PauseFails has_timers old part new rest
PassEnds has_timers units (Err error.Memory) old part new rest = PauseBreaks has_timers old part new rest ⊎ PassBreaks has_timers units old part new rest
PassEnds has_timers units (Err error.Turns) old part new rest = ⊥
PassEnds has_timers units (Err error.AtCapacity) old part new rest = ⊥

-- the main task has its output
abbrev pub is_main_done : ℕ → Machine → Bool
is_main_done main m = has_output (value_at m.tasks.table main)

-- Passes in sequence. Before each one the main task has no output, and some of the budget is left.
abbrev pub Passes : Bool → ℕ → ℕ → ℕ → ℕ → Machine → List Entry → Machine → List Entry → Type 0
Passes has_timers main zero units left old part new rest = (part ≡ rest) × (new ≡ old) × (left ≡ units)
Passes has_timers main (suc n) units left old part new rest =
    (mid : Machine) × ((more : List Entry) × ((kept : ℕ) × (Passes has_timers main n units kept old part mid more
    × ((is_main_done main mid ≡ false) × ((0 < kept) × Pass has_timers kept left mid more new rest)))))

-- a round, and passes
pub record Rounds (has_timers : Bool) (main units left : ℕ) (old : Machine) (part : List Entry) (new : Machine) (rest : List Entry) : Type 0 where
  pub mid : Machine
  pub more : List Entry
  pub kept : ℕ
  pub first : Round units kept old part mid more
  pub count : ℕ
  pub passes : Passes has_timers main count kept left mid more new rest

-- if the driver failed, the pause in which it did follows the rounds
pub record Breaks (has_timers : Bool) (main units : ℕ) (old : Machine) (part : List Entry) (new : Machine) (rest : List Entry) : Type 0 where
  pub mid : Machine
  pub more : List Entry
  pub left : ℕ
  pub rounds : Rounds has_timers main units left old part mid more
  pub unfinished : is_main_done main mid ≡ false
  pub some_left : 0 < left
  pub pause : PauseFails has_timers mid more new rest

-- rounds, and a pass in which memory ran out
pub record LaterBreaks (has_timers : Bool) (main units : ℕ) (old : Machine) (part : List Entry) (new : Machine) (rest : List Entry) : Type 0 where
  pub mid : Machine
  pub more : List Entry
  pub left : ℕ
  pub rounds : Rounds has_timers main units left old part mid more
  pub unfinished : is_main_done main mid ≡ false
  pub some_left : 0 < left
  pub pass : PauseBreaks has_timers mid more new rest ⊎ PassBreaks has_timers left mid more new rest

-- By the answer: the main task has its output, or the budget is spent and it has none, or the driver failed. Or memory ran
-- out, in the first round or after it.
abbrev pub Ends : {A : Type 0} → Bool → ℕ → ℕ → Result A RunError → Machine → List Entry → Machine → List Entry → Type 0
Ends has_timers main units (Ok x) old part new rest = (left : ℕ) × (Rounds has_timers main units left old part new rest × (is_main_done main new ≡ true))
Ends has_timers main units (Err error.Turns) old part new rest = Rounds has_timers main units 0 old part new rest × (is_main_done main new ≡ false)
Ends has_timers main units (Err error.Driver) old part new rest = Breaks has_timers main units old part new rest
Ends has_timers main units (Err error.Memory) old part new rest = RoundBreaks units old part new rest ⊎ LaterBreaks has_timers main units old part new rest
Ends has_timers main units (Err error.AtCapacity) old part new rest = ⊥

-- a task is made, with this number, or is refused
abbrev pub IsSpawn : ℕ → Machine → List Entry → Machine → List Entry → Type 0
IsSpawn t old part new rest = IsStep (event.Act act.Spawn) (report.Reply (reply.Task t)) old part new rest

abbrev pub IsRefused : Machine → List Entry → Machine → List Entry → Type 0
IsRefused old part new rest = IsStep (event.Act act.Spawn) (report.Reply (reply.Refused refusal.AtCapacity)) old part new rest

-- the handle of the main task is dropped
abbrev pub IsDrop : ℕ → Machine → List Entry → Machine → List Entry → Type 0
IsDrop main old part new rest = (answer : Reply) × IsStep (event.Act (act.DropJoin main)) (report.Reply answer) old part new rest

-- the handle of the main task is dropped, and gives this output if there is one
abbrev pub DropsFor : ℕ → Option ℕ → Machine → List Entry → Machine → List Entry → Type 0
DropsFor main (Some output) old part new rest = IsStep (event.Act (act.DropJoin main)) (report.Reply (reply.Dropped (Some output))) old part new rest
DropsFor main None old part new rest = IsDrop main old part new rest

-- the output that the drop of the main task's handle gives, by the answer
abbrev pub output_in : Result ℕ RunError → Option ℕ
output_in (Ok output) = Some output
output_in (Err e) = None

-- The main task is made, there are rounds, and its handle is dropped.
pub record RunsMain (has_timers : Bool) (main units : ℕ) (answer : Result ℕ RunError) (old : Machine) (part : List Entry) (new : Machine) (rest : List Entry) : Type 0 where
  pub spawned : Machine
  pub behind : List Entry
  pub spawn : IsSpawn main old part spawned behind
  pub ended : Machine
  pub last : List Entry
  pub ends : Ends has_timers main units answer spawned behind ended last
  pub drop : DropsFor main (output_in answer) ended last new rest

-- The entries of one call, by its answer, whose output has this number. If no task could be made, the refusal is the
-- one entry. If memory ran out, nothing was done, or the main task was made and its handle was dropped at the end.
abbrev pub Blocked : Bool → ℕ → Result ℕ RunError → Machine → List Entry → Machine → List Entry → Type 0
Blocked has_timers units (Ok output) old part new rest = (main : ℕ) × RunsMain has_timers main units (Ok output) old part new rest
Blocked has_timers units (Err error.Turns) old part new rest = (main : ℕ) × RunsMain has_timers main units (Err error.Turns) old part new rest
Blocked has_timers units (Err error.Driver) old part new rest = (main : ℕ) × RunsMain has_timers main units (Err error.Driver) old part new rest
Blocked has_timers units (Err error.AtCapacity) old part new rest = IsRefused old part new rest
Blocked has_timers units (Err error.Memory) old part new rest = Stays old part new rest ⊎ ((main : ℕ) × RunsMain has_timers main units (Err error.Memory) old part new rest)
