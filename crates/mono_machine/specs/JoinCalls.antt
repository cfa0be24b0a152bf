-- The answers of calls on a task as replies.
use Rattle.std.specs.Prelude.{ℕ, Bool, Option, Result, Ok, Err}
use Rattle.mono_model.specs.declared.task_error.TaskError.{TaskError}
use Rattle.mono_model.specs.declared.task_error.TaskError.TheVariants as error
use Rattle.mono_model.specs.declared.Woke.{Woke}
use Rattle.mono_model.specs.declared.poll.Poll.{Poll}
use Rattle.mono_model.specs.declared.poll.Poll.TheVariants.{Ready, Pending}
use Rattle.mono_machine.specs.declared.events.Reply.{Reply}
use Rattle.mono_machine.specs.declared.events.Reply.TheVariants as reply
use Rattle.mono_machine.specs.declared.events.Refusal.{Refusal}
use Rattle.mono_machine.specs.declared.events.Refusal.TheVariants as refusal
use Rattle.mono_machine.specs.JobCalls.{yes_or_no}

abbrev pub refusal_of : TaskError → Refusal
refusal_of error.Idle = refusal.Idle
refusal_of error.NoTask = refusal.NoTask
refusal_of error.NoHandle = refusal.NoHandle
refusal_of error.Taken = refusal.Taken

abbrev pub wake_reply : Result Woke TaskError → Reply
wake_reply (Ok woke) = reply.Woke woke
wake_reply (Err e) = reply.Refused (refusal_of e)

abbrev pub drop_reply : Result (Option ℕ) TaskError → Reply
drop_reply (Ok output) = reply.Dropped output
drop_reply (Err e) = reply.Refused (refusal_of e)

abbrev pub finished_reply : Result Bool TaskError → Reply
finished_reply (Ok is) = yes_or_no is
finished_reply (Err e) = reply.Refused (refusal_of e)

abbrev pub join_reply : Result (Poll ℕ) TaskError → Reply
join_reply (Ok (Ready output)) = reply.Output output
join_reply (Ok Pending) = reply.Pending
join_reply (Err e) = reply.Refused (refusal_of e)
