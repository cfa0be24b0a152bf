-- Example scripts, with the turns that they give.
use Rattle.std.specs.Prelude.{ℕ, List, [], ◌∷◌, ◌++◌, Some, None, codes}
use Rattle.mono_model.specs.declared.Ended.TheVariants as ended
use Rattle.mono_machine.specs.declared.events.Act.TheVariants as act
use Rattle.mono_machine.specs.declared.events.How.TheVariants as how
use Rattle.mono_machine.specs.declared.events.Query.TheVariants as query
use Rattle.mono_machine.specs.declared.events.TurnStep.{TurnStep}
use Rattle.mono_machine.specs.declared.events.TurnStep.TheVariants as step
use Rattle.mono_machine.specs.declared.events.End.TheVariants as end
use Rattle.mono_machine.specs.declared.events.Event.TheVariants as event
use Rattle.mono_machine.specs.declared.events.Reply.{Reply}
use Rattle.mono_machine.specs.declared.events.Reply.TheVariants as reply
use Rattle.mono_machine.specs.declared.events.Report.TheVariants as report
use Rattle.mono_text.specs.Lines.{lines}
use Rattle.mono_run.specs.Script.{Kind, Script}
use Rattle.mono_run.specs.ScriptText.{Spells, IsFirstBad}
use Rattle.mono_run.specs.ScriptTurns.{Entry, ran, now, park, Driven}
use Rattle.mono_run.specs.declared.scripts.body.BodyLine.{BodyLine}
use Rattle.mono_run.specs.declared.scripts.body.BodyLine.TheVariants as body

abbrev pub kind : List BodyLine → ℕ → Kind
kind lines output = record { body = lines; output = output }

abbrev pub script : ℕ → List Kind → Script
script limit kinds = record { limits = record { tasks = limit; jobs = limit; sleeps = limit }; kinds = kinds }

abbrev pub turn : List TurnStep → ℕ → List Reply → Entry
turn steps t replies = ran (event.Turn steps end.Pending) (report.Turn t replies ended.Idle)

abbrev pub last_turn : List TurnStep → ℕ → ℕ → List Reply → Entry
last_turn steps output t replies = ran (event.Turn steps (end.Ready output)) (report.Turn t replies ended.Done)

abbrev pub spawned : Entry
spawned = ran (event.Act act.Spawn) (report.Reply (reply.Task 0))

abbrev pub poll_sleep : ℕ → TurnStep
poll_sleep s = step.Query (query.Sleep s)

abbrev pub drop_sleep : ℕ → TurnStep
drop_sleep s = step.Act (act.DropSleep s)

abbrev pub new_sleep : ℕ → TurnStep
new_sleep n = step.Act (act.NewSleep n)

abbrev pub join : ℕ → TurnStep
join t = step.Query (query.Join t)

abbrev pub drop_join : ℕ → TurnStep
drop_join t = step.Act (act.DropJoin t)

abbrev pub drained : Entry
drained = ran event.Drain (report.Drained [])

abbrev pub clock : ℕ → List ℕ → Entry
clock n fired = ran (event.Clock n) (report.Fired fired)

-- one sleep of 100 ms
abbrev pub sleeping : Script
sleeping = script 16 (kind (body.AwaitSleep 100000000 ∷ []) 5 ∷ [])

abbrev pub ASleep : Type 0
ASleep = Driven sleeping
    (spawned ∷ now 0 ∷ turn (new_sleep 100000000 ∷ poll_sleep 0 ∷ []) 0 (reply.Sleep 0 ∷ reply.Pending ∷ [])
    ∷ now 0 ∷ park (Some 64) ∷ drained ∷ clock 64000000 [] ∷ now 64000000 ∷ park (Some 36) ∷ drained ∷ clock 100000000 (0 ∷ []) ∷ now 100000000
    ∷ last_turn (poll_sleep 0 ∷ drop_sleep 0 ∷ []) 5 0 (reply.Ready ∷ reply.Dropped None ∷ [])
    ∷ ran (event.Act (act.DropJoin 0)) (report.Reply (reply.Dropped (Some 5))) ∷ [])

-- two tasks that sleep, and a main task that joins them in order
abbrev pub ChildTasks : Type 0
ChildTasks = Driven
    (script 16 (kind (body.Spawn 1 ∷ body.Spawn 1 ∷ body.Join 0 ∷ body.Join 1 ∷ []) 3 ∷ kind (body.AwaitSleep 1000000 ∷ []) 7 ∷ []))
    (spawned ∷ now 0
    ∷ turn (step.Act act.Spawn ∷ step.Act act.Spawn ∷ join 1 ∷ []) 0 (reply.Task 1 ∷ reply.Task 2 ∷ reply.Pending ∷ [])
    ∷ now 0 ∷ turn (new_sleep 1000000 ∷ poll_sleep 0 ∷ []) 1 (reply.Sleep 0 ∷ reply.Pending ∷ [])
    ∷ now 0 ∷ turn (new_sleep 1000000 ∷ poll_sleep 1 ∷ []) 2 (reply.Sleep 1 ∷ reply.Pending ∷ [])
    ∷ now 0 ∷ park (Some 1) ∷ drained ∷ clock 1000000 (0 ∷ 1 ∷ [])
    ∷ now 1000000 ∷ last_turn (poll_sleep 0 ∷ drop_sleep 0 ∷ []) 7 1 (reply.Ready ∷ reply.Dropped None ∷ [])
    ∷ now 1000000 ∷ last_turn (poll_sleep 1 ∷ drop_sleep 1 ∷ []) 7 2 (reply.Ready ∷ reply.Dropped None ∷ [])
    ∷ now 1000000 ∷ last_turn (join 1 ∷ drop_join 1 ∷ join 2 ∷ drop_join 2 ∷ []) 3 0 (reply.Output 7 ∷ reply.Dropped None ∷ reply.Output 7 ∷ reply.Dropped None ∷ [])
    ∷ ran (event.Act (act.DropJoin 0)) (report.Reply (reply.Dropped (Some 3))) ∷ [])

-- a job on the caller, whose end comes before the poll
abbrev pub AJob : Type 0
AJob = Driven (script 4 (kind (body.Block 4 ∷ body.AwaitJob 0 ∷ []) 1 ∷ []))
    (spawned ∷ now 0
    ∷ last_turn (step.Act (act.Block 4) ∷ step.Act (act.JobEnd 0 how.Ran) ∷ step.Query (query.Job 0) ∷ step.Act (act.DropJob 0) ∷ []) 1 0
    (reply.Job 0 ∷ reply.Ended None ∷ reply.Output 4 ∷ reply.Dropped None ∷ [])
    ∷ ran (event.Act (act.DropJoin 0)) (report.Reply (reply.Dropped (Some 1))) ∷ [])

-- a turn that passes over its sleep: each call of the lines is an act
abbrev pub NoSleep : Type 0
NoSleep = Driven sleeping (spawned ∷ now 0 ∷ last_turn [] 5 0 [] ∷ []) → ⊥

-- a turn that the script does not make: it yields, and does not poll a sleep
abbrev pub NotItsTurn : Type 0
NotItsTurn = Driven (script 16 (kind (body.Yield ∷ []) 5 ∷ [])) (spawned ∷ now 0 ∷ turn (poll_sleep 0 ∷ []) 0 (reply.Pending ∷ []) ∷ []) → ⊥

-- a turn with the end of a job of which the call after it does not ask
abbrev pub StrayEnd : Type 0
StrayEnd = Driven (script 4 (kind (body.Block 4 ∷ body.Block 5 ∷ body.AwaitJob 1 ∷ []) 1 ∷ []))
    (spawned ∷ now 0
    ∷ last_turn (step.Act (act.Block 4) ∷ step.Act (act.Block 5) ∷ step.Act (act.JobEnd 0 how.Ran) ∷ step.Query (query.Job 1) ∷ step.Act (act.DropJob 1) ∷ []) 1 0
    (reply.Job 0 ∷ reply.Job 1 ∷ reply.Ended None ∷ reply.Output 5 ∷ reply.Dropped None ∷ []) ∷ []) → ⊥

abbrev pub line : List ℕ → List ℕ
line text = text ++ 10 ∷ []

abbrev pub ASleepIsWritten : Type 0
ASleepIsWritten = Spells (line (codes "limits 16 16 16") ++ line (codes "task") ++ line (codes "await-sleep 100000000") ++ line (codes "done 5")) sleeping

-- no kind, so that the line after the limits is missing
abbrev pub NoKind : Type 0
NoKind = IsFirstBad (line (codes "limits 1 1 1")) 2

-- an input that ends inside a kind
abbrev pub EndsInAKind : Type 0
EndsInAKind = IsFirstBad (line (codes "limits 1 1 1") ++ line (codes "task")) 3

abbrev pub no_such_kind_text : List ℕ
no_such_kind_text = line (codes "limits 1 1 1") ++ line (codes "task") ++ line (codes "spawn 1") ++ line (codes "done 0")

-- a task of a kind that does not exist: the third line is bad, for each rest of the input
abbrev pub NoSuchKind : Type 0
NoSuchKind = IsFirstBad no_such_kind_text 3
