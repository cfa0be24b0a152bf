-- What a future that sends or receives may answer in the end.
use Rattle.std.specs.Prelude.{⊤, Option, None, Result}
use Rattle.std.specs.declared.alloc.AllocError.{AllocError}
use Rattle.mono_model.specs.declared.poll.Poll.TheVariants.{Ready}
use Rattle.mono_channel.specs.declared.errors.SendError.{SendError}
use Rattle.mono_channel.specs.Ends.{Ends}
use Rattle.mono_channel.specs.Polls.{PollsToReceive, PollsToSend, PolledEnd}

module _ {T : Type 0} where
  -- what a poll of the receiver may answer
  abbrev pub ReceiveGives : Ends T → Result (Option T) AllocError → Type 0
  ReceiveGives a x = (b : Ends T) × PollsToReceive a (Ready x) b × PolledEnd (Ready x) b

  -- the message was sent or comes back
  abbrev pub SendGives : Ends T → Option T → Result ⊤ (SendError T) → Type 0
  SendGives a message x = (b : Ends T) × PollsToSend a message (Ready x) b None
