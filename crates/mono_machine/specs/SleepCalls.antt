-- The answers of calls on a sleep as replies.
use Rattle.std.specs.Prelude.{ℕ, ⊤, Bool, Result, Ok, Err, if◌then◌else◌, nat_le}
use Rattle.mono_model.specs.declared.poll.Poll.{Poll}
use Rattle.mono_model.specs.declared.poll.Poll.TheVariants.{Ready, Pending}
use Rattle.mono_model.specs.declared.error.Error.{Error}
use Rattle.mono_machine.specs.declared.events.Reply.{Reply}
use Rattle.mono_machine.specs.declared.events.Reply.TheVariants as reply
use Rattle.mono_machine.specs.declared.events.Refusal.TheVariants as refusal
use Rattle.mono_machine.specs.JobCalls.{yes_or_no}
use Rattle.std.specs.Prelude.{None}

-- The reply for a sleep that was never given out or was dropped.
abbrev pub no_timer : Reply
no_timer = reply.Refused refusal.NoTimer

abbrev pub poll_reply : Result (Poll ⊤) Error → Reply
poll_reply (Ok (Ready x)) = reply.Ready
poll_reply (Ok Pending) = reply.Pending
poll_reply (Err e) = no_timer

abbrev pub gone_reply : Result ⊤ Error → Reply
gone_reply (Ok x) = reply.Dropped None
gone_reply (Err e) = no_timer

abbrev pub elapsed_reply : Result Bool Error → Reply
elapsed_reply (Ok is) = yes_or_no is
elapsed_reply (Err e) = no_timer

-- The reply of a reset. A sleep that is reset to an instant whose tick has come has elapsed.
abbrev pub reset_reply : ℕ → ℕ → Reply
reset_reply greatest tick = if nat_le tick greatest then reply.Elapsed else reply.Armed
