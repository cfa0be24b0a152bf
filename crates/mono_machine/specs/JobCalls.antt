-- The answer of each call on a job, and the jobs afterwards. A refusal changes nothing.
use Rattle.std.specs.Prelude.{ℕ, Bool, true, false, if◌then◌else◌, Option, Some, None, Result, Ok, Err}
use Rattle.mono_model.specs.Table.{value_at, is_issued, with_next, with_value, without}
use Rattle.mono_model.specs.Jobs.{Jobs, Job}
use Rattle.mono_model.specs.Jobs as job
use Rattle.mono_machine.specs.declared.events.How.{How}
use Rattle.mono_machine.specs.declared.events.How.TheVariants as how
use Rattle.mono_machine.specs.declared.events.Reply.{Reply}
use Rattle.mono_machine.specs.declared.events.Reply.TheVariants as reply
use Rattle.mono_machine.specs.declared.events.Refusal.{Refusal}
use Rattle.mono_machine.specs.declared.events.Refusal.TheVariants as refusal

abbrev pub with_job : Jobs → ℕ → Job → Jobs
with_job jobs j value = record { table = with_value jobs.table j value; limit = jobs.limit }

abbrev pub with_next_job : Jobs → Job → Jobs
with_next_job jobs value = record { table = with_next jobs.table value; limit = jobs.limit }

abbrev pub without_job : Jobs → ℕ → Jobs
without_job jobs j = record { table = without jobs.table j; limit = jobs.limit }

-- The job j if its handle is kept, else the refusal: it was never given out, or its handle is dropped.
abbrev pub kept_value : Option Job → Result Job Refusal
kept_value None = Err refusal.NoHandle
kept_value (Some value) = Ok value

abbrev pub kept_job : Jobs → ℕ → Result Job Refusal
kept_job jobs j = if is_issued jobs.table j then kept_value (value_at jobs.table j) else Err refusal.NoTask

abbrev pub yes_or_no : Bool → Reply
yes_or_no true = reply.Yes
yes_or_no false = reply.No

-- The output that a drop of the handle returns. The job is removed, and an output that was not taken comes back.
abbrev pub output_of : Job → Option ℕ
output_of (job.running output waiter) = None
output_of (job.ended_ok output) = Some output
output_of job.ended_canceled = None
output_of job.taken = None

abbrev pub drop_value : Result Job Refusal → Result Reply Refusal
drop_value (Ok value) = Ok (reply.Dropped (output_of value))
drop_value (Err error) = Err error

abbrev pub drop_answer : Jobs → ℕ → Result Reply Refusal
drop_answer jobs j = drop_value (kept_job jobs j)

abbrev pub dropped_value : Result Job Refusal → Jobs → ℕ → Jobs
dropped_value (Ok value) jobs j = without_job jobs j
dropped_value (Err error) jobs j = jobs

abbrev pub job_dropped : Jobs → ℕ → Jobs
job_dropped jobs j = dropped_value (kept_job jobs j) jobs j

-- Whether the job has ended.
abbrev pub is_over : Job → Bool
is_over (job.running output waiter) = false
is_over (job.ended_ok output) = true
is_over job.ended_canceled = true
is_over job.taken = true

abbrev pub finished_value : Result Job Refusal → Result Reply Refusal
finished_value (Ok value) = Ok (yes_or_no (is_over value))
finished_value (Err error) = Err error

abbrev pub finished_answer : Jobs → ℕ → Result Reply Refusal
finished_answer jobs j = finished_value (kept_job jobs j)

-- The job after its end. Its waiter is answered, waits no longer, and is not woken. A job whose handle was dropped may
-- end too, and nothing changes.
abbrev pub ended_as : How → ℕ → Job
ended_as how.Ran output = job.ended_ok output
ended_as how.Canceled output = job.ended_canceled

abbrev pub end_value : Option Job → Result Reply Refusal
end_value None = Ok (reply.Ended None)
end_value (Some (job.running output waiter)) = Ok (reply.Ended waiter)
end_value (Some (job.ended_ok output)) = Err refusal.Ended
end_value (Some job.ended_canceled) = Err refusal.Ended
end_value (Some job.taken) = Err refusal.Ended

abbrev pub end_answer : Jobs → ℕ → Result Reply Refusal
end_answer jobs j = if is_issued jobs.table j then end_value (value_at jobs.table j) else Err refusal.NoTask

abbrev pub ended_value : Option Job → Jobs → ℕ → How → Jobs
ended_value None jobs j h = jobs
ended_value (Some (job.running output waiter)) jobs j h = with_job jobs j (ended_as h output)
ended_value (Some (job.ended_ok output)) jobs j h = jobs
ended_value (Some job.ended_canceled) jobs j h = jobs
ended_value (Some job.taken) jobs j h = jobs

abbrev pub job_ended : Jobs → ℕ → How → Jobs
job_ended jobs j h = ended_value (value_at jobs.table j) jobs j h

-- The answer of a poll of the handle by a task. The result of an ended job is answered once; until then the task waits
-- for it, instead of any earlier one.
abbrev pub poll_in : Job → Result Reply Refusal
poll_in (job.running output waiter) = Ok reply.Pending
poll_in (job.ended_ok output) = Ok (reply.Output output)
poll_in job.ended_canceled = Ok reply.Canceled
poll_in job.taken = Err refusal.Taken

abbrev pub poll_value : Result Job Refusal → Result Reply Refusal
poll_value (Ok value) = poll_in value
poll_value (Err error) = Err error

abbrev pub poll_answer : Jobs → ℕ → Result Reply Refusal
poll_answer jobs j = poll_value (kept_job jobs j)

abbrev pub polled_in : Job → ℕ → Job
polled_in (job.running output waiter) by = job.running output (Some by)
polled_in (job.ended_ok output) by = job.taken
polled_in job.ended_canceled by = job.taken
polled_in job.taken by = job.taken

abbrev pub polled_value : Result Job Refusal → Jobs → ℕ → ℕ → Jobs
polled_value (Ok value) jobs j by = with_job jobs j (polled_in value by)
polled_value (Err error) jobs j by = jobs

abbrev pub job_polled : Jobs → ℕ → ℕ → Jobs
job_polled jobs j by = polled_value (kept_job jobs j) jobs j by
