-- How events and reports are written. Each has one spelling.
use Rattle.std.specs.Prelude.{◌^◌, ◌<◌, ℕ, List, [], ◌∷◌, ◌++◌, Option, Some, None, codes, decimal, flat_map}
use Rattle.mono_machine.specs.declared.events.Limits.{Limits}
use Rattle.mono_model.specs.declared.Woke.{Woke}
use Rattle.mono_model.specs.declared.Woke.TheVariants as woke
use Rattle.mono_model.specs.declared.Ended.{Ended}
use Rattle.mono_model.specs.declared.Ended.TheVariants as ended
use Rattle.mono_machine.specs.declared.events.Act.{Act}
use Rattle.mono_machine.specs.declared.events.Act.TheVariants as act
use Rattle.mono_machine.specs.declared.events.How.{How}
use Rattle.mono_machine.specs.declared.events.How.TheVariants as how
use Rattle.mono_machine.specs.declared.events.Query.{Query}
use Rattle.mono_machine.specs.declared.events.Query.TheVariants as query
use Rattle.mono_machine.specs.declared.events.TurnStep.{TurnStep}
use Rattle.mono_machine.specs.declared.events.TurnStep.TheVariants as step
use Rattle.mono_machine.specs.declared.events.End.{End}
use Rattle.mono_machine.specs.declared.events.End.TheVariants as end
use Rattle.mono_machine.specs.declared.events.Event.{Event}
use Rattle.mono_machine.specs.declared.events.Event.TheVariants as event
use Rattle.mono_machine.specs.declared.events.Refusal.{Refusal}
use Rattle.mono_machine.specs.declared.events.Refusal.TheVariants as refusal
use Rattle.mono_machine.specs.declared.events.Reply.{Reply}
use Rattle.mono_machine.specs.declared.events.Reply.TheVariants as reply
use Rattle.mono_machine.specs.declared.events.Report.{Report}
use Rattle.mono_machine.specs.declared.events.Report.TheVariants as report

-- ---- events

abbrev pub how_text : How → List ℕ
how_text how.Ran = codes "ran"
how_text how.Canceled = codes "canceled"

abbrev pub act_text : Act → List ℕ
act_text act.Spawn = codes "spawn"
act_text (act.Wake t) = codes "wake " ++ decimal t
act_text (act.NewSleep n) = codes "sleep " ++ decimal n
act_text (act.Reset s n) = codes "reset " ++ decimal s ++ codes " " ++ decimal n
act_text (act.DropSleep s) = codes "drop-sleep " ++ decimal s
act_text (act.DropJoin t) = codes "drop-join " ++ decimal t
act_text (act.Block o) = codes "block " ++ decimal o
act_text (act.DropJob j) = codes "drop-job " ++ decimal j
act_text (act.Finished t) = codes "finished " ++ decimal t
act_text (act.JobFinished j) = codes "job-finished " ++ decimal j
act_text (act.SleepElapsed s) = codes "elapsed " ++ decimal s
act_text (act.JobEnd j h) = codes "job-end " ++ decimal j ++ codes " " ++ how_text h

abbrev pub query_text : Query → List ℕ
query_text (query.Sleep s) = codes "poll " ++ decimal s
query_text (query.Join t) = codes "join " ++ decimal t
query_text (query.Job j) = codes "job " ++ decimal j

abbrev pub step_text : TurnStep → List ℕ
step_text (step.Act a) = act_text a
step_text (step.Query q) = query_text q

abbrev pub end_text : End → List ℕ
end_text end.Pending = codes "pending"
end_text (end.Ready o) = codes "ready " ++ decimal o

-- each step and then the end, each after a semicolon and a space
abbrev pub parts_text : List TurnStep → End → List ℕ
parts_text [] e = codes "; " ++ end_text e
parts_text (s ∷ steps) e = codes "; " ++ step_text s ++ parts_text steps e

abbrev pub event_text : Event → List ℕ
event_text (event.Act a) = act_text a
event_text (event.Turn steps e) = codes "turn" ++ parts_text steps e
event_text (event.Clock n) = codes "clock " ++ decimal n
event_text (event.Remote t) = codes "remote " ++ decimal t
event_text event.Drain = codes "drain"

-- ---- the values that have a line: numbers below 2 ^ 64, and nanoseconds below 2 ^ 128

abbrev pub FitsAct : Act → Type 0
FitsAct act.Spawn = Unit {0}
FitsAct (act.Wake t) = t < 2 ^ 64
FitsAct (act.NewSleep n) = n < 2 ^ 128
FitsAct (act.Reset s n) = (s < 2 ^ 64) × (n < 2 ^ 128)
FitsAct (act.DropSleep s) = s < 2 ^ 64
FitsAct (act.DropJoin t) = t < 2 ^ 64
FitsAct (act.Block o) = o < 2 ^ 64
FitsAct (act.DropJob j) = j < 2 ^ 64
FitsAct (act.Finished t) = t < 2 ^ 64
FitsAct (act.JobFinished j) = j < 2 ^ 64
FitsAct (act.SleepElapsed s) = s < 2 ^ 64
FitsAct (act.JobEnd j h) = j < 2 ^ 64

abbrev pub FitsQuery : Query → Type 0
FitsQuery (query.Sleep s) = s < 2 ^ 64
FitsQuery (query.Join t) = t < 2 ^ 64
FitsQuery (query.Job j) = j < 2 ^ 64

abbrev pub FitsStep : TurnStep → Type 0
FitsStep (step.Act a) = FitsAct a
FitsStep (step.Query q) = FitsQuery q

abbrev pub FitsEnd : End → Type 0
FitsEnd end.Pending = Unit {0}
FitsEnd (end.Ready o) = o < 2 ^ 64

abbrev pub FitSteps : List TurnStep → Type 0
FitSteps [] = Unit {0}
FitSteps (s ∷ steps) = FitsStep s × FitSteps steps

abbrev pub FitsEvent : Event → Type 0
FitsEvent (event.Act a) = FitsAct a
FitsEvent (event.Turn steps e) = FitSteps steps × FitsEnd e
FitsEvent (event.Clock n) = n < 2 ^ 128
FitsEvent (event.Remote t) = t < 2 ^ 64
FitsEvent event.Drain = Unit {0}

-- ---- reports

abbrev pub refusal_text : Refusal → List ℕ
refusal_text refusal.Idle = codes "idle"
refusal_text refusal.NoTask = codes "no-task"
refusal_text refusal.NoTimer = codes "no-timer"
refusal_text refusal.NoHandle = codes "no-handle"
refusal_text refusal.Taken = codes "taken"
refusal_text refusal.AtCapacity = codes "at-capacity"
refusal_text refusal.Invalid = codes "invalid"
refusal_text refusal.NoPool = codes "no-pool"
refusal_text refusal.Ended = codes "ended"

abbrev pub woke_text : Woke → List ℕ
woke_text woke.Queued = codes "queued"
woke_text woke.Noted = codes "noted"
woke_text woke.Nothing = codes "nothing"

-- a number after a space, if there is one
abbrev pub number_text : Option ℕ → List ℕ
number_text None = []
number_text (Some n) = codes " " ++ decimal n

-- a number, if there is one
abbrev pub any_number : Option ℕ → List ℕ
any_number None = []
any_number (Some n) = decimal n

abbrev pub reply_text : Reply → List ℕ
reply_text (reply.Task t) = codes "task " ++ decimal t
reply_text (reply.Woke w) = woke_text w
reply_text (reply.Sleep s) = codes "sleep " ++ decimal s
reply_text reply.Armed = codes "armed"
reply_text reply.Elapsed = codes "elapsed"
reply_text (reply.Dropped o) = codes "dropped" ++ number_text o
reply_text (reply.Job j) = codes "job " ++ decimal j
reply_text reply.Yes = codes "yes"
reply_text reply.No = codes "no"
reply_text (reply.Ended t) = codes "ended" ++ number_text t
reply_text reply.Pending = codes "pending"
reply_text reply.Ready = codes "ready"
reply_text (reply.Output o) = codes "ready " ++ decimal o
reply_text reply.Canceled = codes "canceled"
reply_text (reply.Refused r) = codes "refused " ++ refusal_text r

abbrev pub ended_text : Ended → List ℕ
ended_text ended.Idle = codes "idle"
ended_text ended.Again = codes "again"
ended_text ended.Done = codes "done"
ended_text ended.Gone = codes "gone"

abbrev pub reply_part : Reply → List ℕ
reply_part r = codes "; " ++ reply_text r

abbrev pub number_part : ℕ → List ℕ
number_part n = codes " " ++ decimal n

abbrev pub report_text : Report → List ℕ
report_text (report.Reply r) = reply_text r
report_text (report.Turn t replies e) = codes "turn " ++ decimal t ++ flat_map reply_part replies ++ codes "; " ++ ended_text e
report_text (report.Fired sleeps) = codes "fired" ++ flat_map number_part sleeps
report_text report.Listed = codes "listed"
report_text report.Unlisted = codes "unlisted"
report_text (report.Drained tasks) = codes "drained" ++ flat_map number_part tasks

abbrev pub report_line : Report → List ℕ
report_line r = report_text r ++ 10 ∷ []

-- limits that have a written form
pub record FitLimits (limits : Limits) : Type 0 where
  pub tasks : limits.tasks < 2 ^ 64
  pub jobs : limits.jobs < 2 ^ 64
  pub sleeps : limits.sleeps < 2 ^ 64
