-- Which futures have answered, and what one that owns its end still holds. A future that has answered may not be polled;
-- one that receives over a borrowed end may be polled again and again.
use Rattle.std.specs.Prelude.{Bool, Option, is_none}
use Rattle.mono_channel.specs.declared.messages.Send.{Send}
use Rattle.mono_channel.specs.declared.owned.IntoSend.{IntoSend}
use Rattle.mono_channel.specs.declared.owned.IntoRecv.{IntoRecv}
use Rattle.mono_channel.specs.Ends.{Ends}

abbrev pub send_spent : {T U R : Type 0} → Send T U R → Bool
send_spent f = is_none f.message

-- the sender that a future owns, with its message, until it has answered
abbrev pub sends_by : {T U R : Type 0} → IntoSend T U R → Option (Ends T × T)
sends_by f = f.inner

abbrev pub into_send_spent : {T U R : Type 0} → IntoSend T U R → Bool
into_send_spent f = is_none f.inner

-- the receiver that a future owns, until it has answered
abbrev pub receives_by : {T U : Type 0} → IntoRecv T U → Option (Ends T)
receives_by f = f.receiver

abbrev pub into_recv_spent : {T U : Type 0} → IntoRecv T U → Bool
into_recv_spent f = is_none f.receiver
