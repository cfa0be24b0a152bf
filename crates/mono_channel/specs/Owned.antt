-- What a future that owns its end may answer in the end: the end, and what became of the message.
use Rattle.std.specs.Prelude.{⊤, Option, Some, None, Result}
use Rattle.std.specs.declared.alloc.AllocError.{AllocError}
use Rattle.mono_model.specs.declared.poll.Poll.TheVariants.{Ready}
use Rattle.mono_channel.specs.declared.errors.SendError.{SendError}
use Rattle.mono_channel.specs.Ends.{Ends}
use Rattle.mono_channel.specs.Polls.{PollsToReceive, PollsToSend, PolledEnd}

module _ {T : Type 0} where
  -- the message was sent or comes back
  abbrev pub IntoSendGives : Option (Ends T × T) → Ends T → Result ⊤ (SendError T) → Type 0
  IntoSendGives (Some p) b x = PollsToSend p.0 (Some p.1) (Ready x) b None
  IntoSendGives None b x = ⊥

  -- a poll of the receiver answered this
  abbrev pub IntoRecvGives : Option (Ends T) → Ends T → Result (Option T) AllocError → Type 0
  IntoRecvGives (Some a) b x = PollsToReceive a (Ready x) b × PolledEnd (Ready x) b
  IntoRecvGives None b x = ⊥
