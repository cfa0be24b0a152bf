-- Which futures of a channel with a value next to it have answered. Such a future may not be polled.
use Rattle.std.specs.Prelude.{Bool}
use Rattle.mono_sync.specs.declared.tallied_messages.Send.{Send}
use Rattle.mono_sync.specs.declared.tallied_messages.Recv.{Recv}
use Rattle.mono_sync.specs.Messages.{has_none}

module _ {W T S : Type 0} where
  abbrev pub send_spent : Send W T S → Bool
  send_spent f = has_none f.message

  abbrev pub recv_spent : Recv W T S → Bool
  recv_spent f = f.has_answered
