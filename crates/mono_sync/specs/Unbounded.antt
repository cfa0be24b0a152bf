-- A channel whose bound no memory reaches.
use Rattle.std.specs.Prelude.{◌≡◌, ◌<◌, ◌+◌, ℕ, List, [], length, Option, Err}
use Rattle.mono_sync.specs.declared.mpsc.Channel.{Channel}
use Rattle.mono_sync.specs.declared.mpsc.TrySendError.TheVariants as unsent
use Rattle.mono_sync.specs.declared.mpsc.Sending.TheVariants as sending
use Rattle.mono_sync.specs.Mpsc.{TriesToSend, Sends}
use Rattle.mono_sync.specs.MpscRuns.{Event, Run, sent}

-- No task waits to send, and no place is reserved.
abbrev pub HasNoSender : {T : Type 0} → Channel T → Type 0
HasNoSender a = (a.senders.waiters.items ≡ []) × (a.senders.granted ≡ 0)

-- No message is refused as `Full`, and no future waits to send, as long as the queued and the sent messages are fewer than
-- the bound.
abbrev pub UnboundedIsNeverFull : Type 0 → Type 0
UnboundedIsNeverFull T = (es : List (Event T)) (a b c : Channel T) (x y : T) → HasNoSender a → length a.queue.items + length (sent es) < a.bound → Run a es b
    → HasNoSender b × (TriesToSend b x (Err (unsent.Full y)) c → ⊥)
    × ((ticket : Option ℕ) (me t : ℕ) → (Sends b ticket x me (sending.Joined t y) c → ⊥) × (Sends b ticket x me (sending.Waits y) c → ⊥))
