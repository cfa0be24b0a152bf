-- The message that comes back.
use Rattle.std.specs.Prelude.{⊤, Bool, true, false, not, Result, Ok, Err}
use Rattle.mono_channel.specs.declared.errors.TryRecvError.{TryRecvError}
use Rattle.mono_channel.specs.declared.errors.TryRecvError.TheVariants.{Empty, Disconnected}
use Rattle.mono_channel.specs.declared.errors.TrySendError.{TrySendError}
use Rattle.mono_channel.specs.declared.errors.TrySendError.TheVariants.{Full, Closed}
use Rattle.mono_channel.specs.declared.errors.SendError.{SendError}
use Rattle.mono_channel.specs.declared.errors.SendError.TheVariants as send

-- whether a receive was refused since the channel was closed
abbrev pub is_disconnected : TryRecvError → Bool
is_disconnected Empty = false
is_disconnected Disconnected = true

module _ {T : Type 0} where
  -- the message that was not sent at once
  abbrev pub message_of : TrySendError T → T
  message_of (Full x) = x
  message_of (Closed x) = x

  -- whether it was refused since the channel or the sender was closed
  abbrev pub is_shut : TrySendError T → Bool
  is_shut (Full x) = false
  is_shut (Closed x) = true

  -- whether a put was refused since the channel or the sender was closed
  abbrev pub finds_closed : {A : Type 0} → Result A (TrySendError T) → Bool
  finds_closed (Ok a) = false
  finds_closed (Err e) = is_shut e

  -- whether a put was refused since each place was taken
  abbrev pub finds_full : {A : Type 0} → Result A (TrySendError T) → Bool
  finds_full (Ok a) = false
  finds_full (Err e) = not (is_shut e)

  -- the message that was not sent
  abbrev pub unsent : SendError T → T
  unsent (send.Closed x) = x
  unsent (send.Memory x) = x

  -- what holds if each place was taken
  abbrev pub IfFull : TrySendError T → Type 0 → Type 0
  IfFull (Full x) P = P
  IfFull (Closed x) P = ⊤

  abbrev pub OnFull : {A : Type 0} → Result A (TrySendError T) → Type 0 → Type 0
  OnFull (Ok a) P = ⊤
  OnFull (Err e) P = IfFull e P
