-- A journal that a call of block_on leaves, and journals that no calls leave.
use Rattle.std.specs.Prelude.{ℕ, ◌+◌, List, [], ◌∷◌, Some, Ok}
use Rattle.mono_model.specs.Ticks.{max_nanos}
use Rattle.mono_model.specs.declared.Ended.TheVariants as ended
use Rattle.mono_machine.specs.Machine.{Machine, start_machine}
use Rattle.mono_machine.specs.declared.events.Act.TheVariants as act
use Rattle.mono_machine.specs.declared.events.Blocking.TheVariants as blocking
use Rattle.mono_machine.specs.declared.events.End.TheVariants as end
use Rattle.mono_machine.specs.declared.events.Event.TheVariants as event
use Rattle.mono_machine.specs.declared.events.Reply.TheVariants as reply
use Rattle.mono_machine.specs.declared.events.Report.TheVariants as report
use Rattle.mono_rt.specs.declared.parts.journals.Entry.{Entry}
use Rattle.mono_rt.specs.declared.parts.journals.Entry.TheVariants.{Ran, Now}
use Rattle.example_checks.specs.WholeCalls.{Call, IsWholeJournal}

abbrev pub spawn : Entry
spawn = Ran (event.Act act.Spawn) (report.Reply (reply.Task 0))

abbrev pub turn : Entry
turn = Ran (event.Turn [] (end.Ready 5)) (report.Turn 0 [] ended.Done)

abbrev pub drop : Entry
drop = Ran (event.Act (act.DropJoin 0)) (report.Reply (reply.Dropped (Some 5)))

abbrev pub IsNoWholeJournal : List Entry → Type 0
IsNoWholeJournal part = (start : Machine) (calls : List Call) → IsWholeJournal start calls part → ⊥

-- a call whose main task is ready in its first turn, when the clock shows this
abbrev pub one_turn_at : ℕ → List Entry
one_turn_at n = spawn ∷ Now n ∷ turn ∷ drop ∷ []

-- one call whose main task has one turn
abbrev pub TurnIsWhole : Type 0
TurnIsWhole = IsWholeJournal (start_machine (record { tasks = 1; jobs = 0; sleeps = 0 }) blocking.Panic) (record { turns = 1; answer = Ok 5 } ∷ []) (one_turn_at 0)

-- the drop of the main task's handle is missing
abbrev pub HalfIsNone : Type 0
HalfIsNone = IsNoWholeJournal (spawn ∷ Now 0 ∷ turn ∷ [])

-- no clock shows so much
abbrev pub LateIsNone : Type 0
LateIsNone = IsNoWholeJournal (one_turn_at (max_nanos + 1))

-- no reading is before the turn
abbrev pub UnreadIsNone : Type 0
UnreadIsNone = IsNoWholeJournal (spawn ∷ turn ∷ drop ∷ [])
