-- The turns that a script's lines give.
use Rattle.std.specs.Prelude.{◌≡◌, ℕ, Bool, true, false, if◌then◌else◌, ◌==◌, List, [], ◌∷◌, ◌++◌, map, slice_index_or, slice_set, Option, Some, None}
use Rattle.mono_time.specs.Futures.{deadline_after}
use Rattle.mono_machine.specs.declared.events.Act.TheVariants as act
use Rattle.mono_machine.specs.declared.events.Query.TheVariants as query
use Rattle.mono_machine.specs.declared.events.TurnStep.{TurnStep}
use Rattle.mono_machine.specs.declared.events.TurnStep.TheVariants as step
use Rattle.mono_machine.specs.declared.events.End.{End}
use Rattle.mono_machine.specs.declared.events.End.TheVariants as end
use Rattle.mono_machine.specs.declared.events.Event.{Event}
use Rattle.mono_machine.specs.declared.events.Event.TheVariants as event
use Rattle.mono_machine.specs.declared.events.Reply.{Reply}
use Rattle.mono_machine.specs.declared.events.Reply.TheVariants as reply
use Rattle.mono_machine.specs.declared.events.Report.{Report}
use Rattle.mono_machine.specs.declared.events.Report.TheVariants as report
use Rattle.mono_run.specs.Script.{Kind, Script}
use Rattle.mono_run.specs.declared.scripts.body.BodyLine.{BodyLine}
use Rattle.mono_run.specs.declared.scripts.body.BodyLine.TheVariants as body

-- an entry of a journal, as scripts see it
pub data Entry : Type 0 where
  ran : Event → Report → Entry
  now : (nanos : ℕ) → Entry
  park : (millis : Option ℕ) → Entry

-- the place of a task between two turns: the lines to come, the handles of its own tasks and jobs (None if refused),
-- and the sleep for which it waits
pub record Place : Type 0 where
  pub left : List BodyLine
  pub output : ℕ
  pub tasks : List (Option ℕ)
  pub jobs : List (Option ℕ)
  pub sleeping : Option ℕ

abbrev pub place : List BodyLine → ℕ → List (Option ℕ) → List (Option ℕ) → Option ℕ → Place
place left output tasks jobs sleeping = record { left = left; output = output; tasks = tasks; jobs = jobs; sleeping = sleeping }

abbrev pub start_of : Kind → Place
start_of k = place k.body k.output [] [] None

-- a turn: its steps, its end, the place of the task afterwards (None: it has finished), and the kinds of the tasks that
-- it made, in their order
pub record Turned : Type 0 where
  pub steps : List TurnStep
  pub e : End
  pub after : Option Place
  pub made : List ℕ

abbrev pub finished : ℕ → Turned
finished output = record { steps = []; e = end.Ready output; after = None; made = [] }

abbrev pub stopped : Place → Turned
stopped p = record { steps = []; e = end.Pending; after = Some p; made = [] }

-- one step before the others
abbrev pub with_step : TurnStep → List ℕ → Option Turned → Option Turned
with_step s made None = None
with_step s made (Some t) = Some (record { steps = s ∷ t.steps; e = t.e; after = t.after; made = made ++ t.made })

abbrev pub task_in : Reply → Option ℕ
task_in (reply.Task t) = Some t
task_in other = None

abbrev pub sleep_in : Reply → Option ℕ
sleep_in (reply.Sleep s) = Some s
sleep_in other = None

abbrev pub job_in : Reply → Option ℕ
job_in (reply.Job j) = Some j
job_in other = None

abbrev pub if_made : Option ℕ → ℕ → List ℕ
if_made None k = []
if_made (Some t) k = k ∷ []

abbrev pub is_pending : Reply → Bool
is_pending reply.Pending = true
is_pending other = false

-- the turn stops, and no reply is left
abbrev pub stops_at : Place → List Reply → Option Turned
stops_at here [] = Some (stopped here)
stops_at here (r ∷ rs) = None

-- An act whose reply is ignored, and then the rest.
abbrev pub acted : TurnStep → (List Reply → Option Turned) → List Reply → Option Turned
acted s rest [] = None
acted s rest (r ∷ rs) = with_step s [] (rest rs)

-- A poll. If it is pending, the turn stops; else an act whose reply is ignored, and then the rest.
abbrev pub awaited : TurnStep → TurnStep → Place → (List Reply → Option Turned) → List Reply → Option Turned
awaited poll last here rest [] = None
awaited poll last here rest (r ∷ rs) = with_step poll [] (if is_pending r then stops_at here rs else acted last rest rs)

-- with a handle, this act on it; else nothing
abbrev pub with_handle : {A : Type 0} → Option ℕ → (ℕ → A) → A → A
with_handle None f other = other
with_handle (Some x) f other = f x

-- An act that answers a number or refuses, and the rest by that answer.
abbrev pub asked : TurnStep → (Reply → Option ℕ) → (Option ℕ → List ℕ) → (Option ℕ → List Reply → Option Turned) → List Reply → Option Turned
asked s number made rest [] = None
asked s number made rest (r ∷ rs) = with_step s (made (number r)) (rest (number r) rs)

abbrev pub none_made : Option ℕ → List ℕ
none_made o = []

abbrev pub join_steps : ℕ → Place → (List Reply → Option Turned) → List Reply → Option Turned
join_steps t here rest rs = awaited (step.Query (query.Join t)) (step.Act (act.DropJoin t)) here rest rs

abbrev pub job_steps : ℕ → Place → (List Reply → Option Turned) → List Reply → Option Turned
job_steps j here rest rs = awaited (step.Query (query.Job j)) (step.Act (act.DropJob j)) here rest rs

abbrev pub sleep_steps : ℕ → Place → (List Reply → Option Turned) → List Reply → Option Turned
sleep_steps s here rest rs = awaited (step.Query (query.Sleep s)) (step.Act (act.DropSleep s)) here rest rs

abbrev pub yielded : ℕ → Place → List Reply → Option Turned
yielded me here rs = acted (step.Act (act.Wake me)) (stops_at here) rs

-- The turn that the lines give for task me, whose output is o, at the instant t, if these are the replies to its calls.
-- Each call has a reply: a call that ran out of memory has none, and then no journal is returned.
abbrev pub turn_from : List BodyLine → ℕ → ℕ → ℕ → List (Option ℕ) → List (Option ℕ) → List Reply → Option Turned
turn_from [] me t o tasks jobs [] = Some (finished o)
turn_from [] me t o tasks jobs (r ∷ rs) = None
turn_from (body.Spawn k ∷ left) me t o tasks jobs rs =
    asked (step.Act act.Spawn) task_in (λ h. if_made h k) (λ h q. turn_from left me t o (tasks ++ h ∷ []) jobs q) rs
turn_from (body.Join i ∷ left) me t o tasks jobs rs =
    with_handle (slice_index_or tasks i None) (λ h q. join_steps h (place (body.Join i ∷ left) o tasks jobs None) (turn_from left me t o tasks jobs) q) (turn_from left me t o tasks jobs) rs
turn_from (body.Detach i ∷ left) me t o tasks jobs rs =
    with_handle (slice_index_or tasks i None) (λ h q. acted (step.Act (act.DropJoin h)) (turn_from left me t o tasks jobs) q) (turn_from left me t o tasks jobs) rs
turn_from (body.AwaitSleep n ∷ left) me t o tasks jobs rs =
    with_handle (deadline_after t n)
    (λ d q. asked (step.Act (act.NewSleep d)) sleep_in none_made
    (λ h p. with_handle h (λ s u. sleep_steps s (place left o tasks jobs (Some s)) (turn_from left me t o tasks jobs) u) (turn_from left me t o tasks jobs) p) q)
    (turn_from left me t o tasks jobs) rs
turn_from (body.Block w ∷ left) me t o tasks jobs rs =
    asked (step.Act (act.Block w)) job_in none_made (λ h q. turn_from left me t o tasks (jobs ++ h ∷ []) q) rs
turn_from (body.AwaitJob i ∷ left) me t o tasks jobs rs =
    with_handle (slice_index_or jobs i None) (λ h q. job_steps h (place (body.AwaitJob i ∷ left) o tasks jobs None) (turn_from left me t o tasks jobs) q) (turn_from left me t o tasks jobs) rs
turn_from (body.DropJob i ∷ left) me t o tasks jobs rs =
    with_handle (slice_index_or jobs i None) (λ h q. acted (step.Act (act.DropJob h)) (turn_from left me t o tasks jobs) q) (turn_from left me t o tasks jobs) rs
turn_from (body.Yield ∷ left) me t o tasks jobs rs = yielded me (place left o tasks jobs None) rs

-- A task that waits for a sleep first polls it again.
abbrev pub turn_of : Place → ℕ → ℕ → List Reply → Option Turned
turn_of p me t rs =
    with_handle p.sleeping (λ s q. sleep_steps s p (turn_from p.left me t p.output p.tasks p.jobs) q) (turn_from p.left me t p.output p.tasks p.jobs) rs

-- the job whose end the step records
abbrev pub ended_job : TurnStep → Option ℕ
ended_job (step.Act (act.JobEnd j h)) = Some j
ended_job other = None

-- The step is a poll of job j, or its drop.
abbrev pub sees : ℕ → TurnStep → Bool
sees j (step.Query (query.Job k)) = j == k
sees j (step.Act (act.DropJob k)) = j == k
sees j other = false

-- The first of these steps saw the end of this job.
abbrev pub is_seen : Option ℕ → List TurnStep → Bool
is_seen None steps = false
is_seen (Some j) [] = false
is_seen (Some j) (s ∷ steps) = sees j s

-- The steps of a turn without each end of a job that the step right after it saw. The script's lines give no end, so
-- that each other one is refused.
abbrev pub own_steps : List TurnStep → List TurnStep
own_steps [] = []
own_steps (s ∷ steps) = if is_seen (ended_job s) steps then own_steps steps else s ∷ own_steps steps

-- the replies to these steps
abbrev pub own_replies : List TurnStep → List Reply → List Reply
own_replies [] rs = []
own_replies (s ∷ steps) [] = []
own_replies (s ∷ steps) (r ∷ rs) = if is_seen (ended_job s) steps then own_replies steps rs else r ∷ own_replies steps rs

-- the places of new tasks of these kinds
abbrev pub starts_of : List Kind → List ℕ → List (Option Place)
starts_of kinds [] = []
starts_of kinds (k ∷ ks) = slice_index_or (map (λ kind. Some (start_of kind)) kinds) k None ∷ starts_of kinds ks

-- the places of all tasks by their numbers, once task t has had this turn
abbrev pub after_turn : List Kind → List (Option Place) → ℕ → Turned → List (Option Place)
after_turn kinds places t turned = slice_set places t turned.after ++ starts_of kinds turned.made

-- The turn is the task's by its lines, and the rest holds from there.
abbrev pub Gives : Option Turned → List TurnStep → End → (Turned → Type 0) → Type 0
Gives None steps e rest = ⊥
Gives (Some turned) steps e rest = (steps ≡ turned.steps) × (e ≡ turned.e) × rest turned

abbrev pub turn_at : Option Place → ℕ → ℕ → List Reply → Option Turned
turn_at None me t rs = None
turn_at (Some p) me t rs = turn_of p me t rs

-- The turns among these entries are those that the script's lines give, from these places and this instant on.
abbrev pub DrivenFrom : List Kind → List (Option Place) → ℕ → List Entry → Type 0
DrivenFrom kinds places t [] = Unit {0}
DrivenFrom kinds places t (now n ∷ entries) = DrivenFrom kinds places n entries
DrivenFrom kinds places t (park m ∷ entries) = DrivenFrom kinds places t entries
DrivenFrom kinds places t (ran (event.Turn steps e) (report.Turn me replies last) ∷ entries) =
    Gives (turn_at (slice_index_or places me None) me t (own_replies steps replies)) (own_steps steps) e
    (λ turned. DrivenFrom kinds (after_turn kinds places me turned) t entries)
DrivenFrom kinds places t (ran (event.Turn steps e) (report.Reply r) ∷ entries) = ⊥
DrivenFrom kinds places t (ran (event.Turn steps e) (report.Fired fired) ∷ entries) = ⊥
DrivenFrom kinds places t (ran (event.Turn steps e) report.Listed ∷ entries) = ⊥
DrivenFrom kinds places t (ran (event.Turn steps e) report.Unlisted ∷ entries) = ⊥
DrivenFrom kinds places t (ran (event.Turn steps e) (report.Drained drained) ∷ entries) = ⊥
DrivenFrom kinds places t (ran (event.Act a) r ∷ entries) = DrivenFrom kinds places t entries
DrivenFrom kinds places t (ran (event.Clock n) r ∷ entries) = DrivenFrom kinds places t entries
DrivenFrom kinds places t (ran (event.Remote n) r ∷ entries) = DrivenFrom kinds places t entries
DrivenFrom kinds places t (ran event.Drain r ∷ entries) = DrivenFrom kinds places t entries

-- The main task, which has number 0, is of kind 0.
abbrev pub Driven : Script → List Entry → Type 0
Driven s entries = DrivenFrom s.kinds (starts_of s.kinds (0 ∷ [])) 0 entries
