-- How often the output of a task or of a job is handed out.
use Rattle.std.specs.Prelude.{ℕ, ◌+◌, Bool, true, false, ◌==◌, ◌&&◌, List, [], ◌∷◌, Some, None}
use Rattle.mono_model.specs.Valid.{once_if}
use Rattle.mono_machine.specs.declared.events.Act.{Act}
use Rattle.mono_machine.specs.declared.events.Act.TheVariants as act
use Rattle.mono_machine.specs.declared.events.Query.{Query}
use Rattle.mono_machine.specs.declared.events.Query.TheVariants as query
use Rattle.mono_machine.specs.declared.events.TurnStep.{TurnStep}
use Rattle.mono_machine.specs.declared.events.TurnStep.TheVariants as step
use Rattle.mono_machine.specs.declared.events.Event.{Event}
use Rattle.mono_machine.specs.declared.events.Event.TheVariants as event
use Rattle.mono_machine.specs.declared.events.Reply.{Reply}
use Rattle.mono_machine.specs.declared.events.Reply.TheVariants as reply
use Rattle.mono_machine.specs.declared.events.Report.{Report}
use Rattle.mono_machine.specs.declared.events.Report.TheVariants as report

-- Whether the reply has an output, of a poll or of the drop of a handle.
abbrev pub has_output : Reply → Bool
has_output (reply.Output output) = true
has_output (reply.Dropped (Some output)) = true
has_output (reply.Dropped None) = false
has_output (reply.Task t) = false
has_output (reply.Woke w) = false
has_output (reply.Sleep s) = false
has_output reply.Armed = false
has_output reply.Elapsed = false
has_output (reply.Job j) = false
has_output reply.Yes = false
has_output reply.No = false
has_output (reply.Ended waiter) = false
has_output reply.Pending = false
has_output reply.Ready = false
has_output reply.Canceled = false
has_output (reply.Refused r) = false

-- Whether the call polls or drops the handle of the task t, or of the job j.
abbrev pub is_on_task_act : ℕ → Act → Bool
is_on_task_act t (act.DropJoin u) = u == t
is_on_task_act t act.Spawn = false
is_on_task_act t (act.Wake u) = false
is_on_task_act t (act.NewSleep n) = false
is_on_task_act t (act.Reset s n) = false
is_on_task_act t (act.DropSleep s) = false
is_on_task_act t (act.SleepElapsed s) = false
is_on_task_act t (act.Block output) = false
is_on_task_act t (act.DropJob j) = false
is_on_task_act t (act.Finished u) = false
is_on_task_act t (act.JobFinished j) = false
is_on_task_act t (act.JobEnd j h) = false

abbrev pub is_on_task_query : ℕ → Query → Bool
is_on_task_query t (query.Join u) = u == t
is_on_task_query t (query.Sleep s) = false
is_on_task_query t (query.Job j) = false

abbrev pub is_on_task : ℕ → TurnStep → Bool
is_on_task t (step.Act a) = is_on_task_act t a
is_on_task t (step.Query q) = is_on_task_query t q

abbrev pub is_on_job_act : ℕ → Act → Bool
is_on_job_act j (act.DropJob k) = k == j
is_on_job_act j act.Spawn = false
is_on_job_act j (act.Wake u) = false
is_on_job_act j (act.NewSleep n) = false
is_on_job_act j (act.Reset s n) = false
is_on_job_act j (act.DropSleep s) = false
is_on_job_act j (act.SleepElapsed s) = false
is_on_job_act j (act.DropJoin u) = false
is_on_job_act j (act.Block output) = false
is_on_job_act j (act.Finished u) = false
is_on_job_act j (act.JobFinished k) = false
is_on_job_act j (act.JobEnd k h) = false

abbrev pub is_on_job_query : ℕ → Query → Bool
is_on_job_query j (query.Job k) = k == j
is_on_job_query j (query.Sleep s) = false
is_on_job_query j (query.Join u) = false

abbrev pub is_on_job : ℕ → TurnStep → Bool
is_on_job j (step.Act a) = is_on_job_act j a
is_on_job j (step.Query q) = is_on_job_query j q

-- How many of the chosen calls were answered by an output.
abbrev pub hands : (TurnStep → Bool) → TurnStep → Reply → ℕ
hands is_meant s r = once_if (is_meant s && has_output r)

abbrev pub handed_by_steps : (TurnStep → Bool) → List TurnStep → List Reply → ℕ
handed_by_steps is_meant [] replies = 0
handed_by_steps is_meant (s ∷ steps) [] = 0
handed_by_steps is_meant (s ∷ steps) (r ∷ replies) = hands is_meant s r + handed_by_steps is_meant steps replies

abbrev pub handed_by_act : (TurnStep → Bool) → Act → Report → ℕ
handed_by_act is_meant a (report.Reply r) = hands is_meant (step.Act a) r
handed_by_act is_meant a (report.Turn me replies ended) = 0
handed_by_act is_meant a (report.Fired fired) = 0
handed_by_act is_meant a report.Listed = 0
handed_by_act is_meant a report.Unlisted = 0
handed_by_act is_meant a (report.Drained tasks) = 0

abbrev pub handed_by_turn : (TurnStep → Bool) → List TurnStep → Report → ℕ
handed_by_turn is_meant steps (report.Reply r) = 0
handed_by_turn is_meant steps (report.Turn me replies ended) = handed_by_steps is_meant steps replies
handed_by_turn is_meant steps (report.Fired fired) = 0
handed_by_turn is_meant steps report.Listed = 0
handed_by_turn is_meant steps report.Unlisted = 0
handed_by_turn is_meant steps (report.Drained tasks) = 0

abbrev pub handed_by : (TurnStep → Bool) → Event → Report → ℕ
handed_by is_meant (event.Act a) answer = handed_by_act is_meant a answer
handed_by is_meant (event.Turn steps e) answer = handed_by_turn is_meant steps answer
handed_by is_meant (event.Clock n) answer = 0
handed_by is_meant (event.Remote t) answer = 0
handed_by is_meant event.Drain answer = 0

abbrev pub handed_in : (TurnStep → Bool) → List Event → List Report → ℕ
handed_in is_meant [] answers = 0
handed_in is_meant (e ∷ events) [] = 0
handed_in is_meant (e ∷ events) (answer ∷ answers) = handed_by is_meant e answer + handed_in is_meant events answers
