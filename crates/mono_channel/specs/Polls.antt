-- What one poll of an end answers, and what it leaves.
use Rattle.std.specs.Prelude.{⊤, ◌≡◌, [], ◌∷◌, ◌++◌, true, false, Option, Some, None, Result, Ok, Err}
use Rattle.std.specs.declared.alloc.AllocError.{AllocError}
use Rattle.mono_model.specs.declared.poll.Poll.{Poll}
use Rattle.mono_model.specs.declared.poll.Poll.TheVariants.{Ready, Pending}
use Rattle.mono_channel.specs.declared.errors.SendError.{SendError}
use Rattle.mono_channel.specs.declared.errors.TryRecvError.{TryRecvError}
use Rattle.mono_channel.specs.Delivery.{Arrived}
use Rattle.mono_channel.specs.Ends.{Ends, sent_by, received_by, settled_by, shares_of, is_open, has_ended, KeepsEnd, IsPair}
use Rattle.mono_channel.specs.Errors.{unsent}

-- the message alone
abbrev pub first_of : {T V E : Type 0} → Result (T × V) E → Result T E
first_of (Ok r) = Ok r.0
first_of (Err e) = Err e

module _ {T : Type 0} where
  -- the receiver knows what it knew, and has received this too
  abbrev pub HasReceived : Ends T → T → Ends T → Type 0
  HasReceived a x b = IsPair b a × (received_by b ≡ received_by a ++ x ∷ []) × (settled_by b ≡ settled_by a) × (shares_of b ≡ shares_of a) × KeepsEnd a b

  -- nothing was received, and all that the settled senders sent was received before
  abbrev pub FindsNone : Ends T → Ends T → Type 0
  FindsNone a b = IsPair b a × (received_by b ≡ received_by a) × (settled_by b ≡ settled_by a) × Arrived (shares_of a) (received_by a) (settled_by a) × (shares_of b ≡ shares_of a) × KeepsEnd a b

  -- the first message, or none
  abbrev pub TriesToReceive : Ends T → Result T TryRecvError → Ends T → Type 0
  TriesToReceive a (Ok x) b = HasReceived a x b
  TriesToReceive a (Err e) b = FindsNone a b

  -- the first message, or none; pending means that none was queued
  abbrev pub PollsToReceive : Ends T → Poll (Result (Option T) AllocError) → Ends T → Type 0
  PollsToReceive a (Ready (Ok (Some x))) b = HasReceived a x b
  PollsToReceive a (Ready (Ok None)) b = FindsNone a b
  PollsToReceive a (Ready (Err e)) b = FindsNone a b
  PollsToReceive a Pending b = FindsNone a b

  -- None means that the receiver was closed, or that each sender is. Pending means that neither was so.
  abbrev pub PolledEnd : Poll (Result (Option T) AllocError) → Ends T → Type 0
  PolledEnd (Ready (Ok (Some x))) b = ⊤
  PolledEnd (Ready (Ok None)) b = has_ended b ≡ true
  PolledEnd (Ready (Err e)) b = ⊤
  PolledEnd Pending b = has_ended b ≡ false

  -- the sender was not closed
  abbrev pub StaysOpen : Ends T → Ends T → Type 0
  StaysOpen a b = (is_open a ≡ true) × (is_open b ≡ true)

  -- the message is sent, or comes back, or is kept while each place is taken
  abbrev pub PollsToSend : Ends T → Option T → Poll (Result ⊤ (SendError T)) → Ends T → Option T → Type 0
  PollsToSend a (Some x) (Ready (Ok done)) b kept = IsPair b a × (sent_by b ≡ sent_by a ++ x ∷ []) × (kept ≡ None) × (shares_of b ≡ shares_of a) × StaysOpen a b
  PollsToSend a (Some x) (Ready (Err e)) b kept = IsPair b a × (sent_by b ≡ sent_by a) × (unsent e ≡ x) × (kept ≡ None) × (shares_of b ≡ shares_of a) × (is_open b ≡ is_open a)
  PollsToSend a (Some x) Pending b kept = IsPair b a × (sent_by b ≡ sent_by a) × (kept ≡ Some x) × (shares_of b ≡ shares_of a) × StaysOpen a b
  PollsToSend a None (Ready (Ok done)) b kept = (b ≡ a) × (kept ≡ None)
  PollsToSend a None (Ready (Err e)) b kept = ⊥
  PollsToSend a None Pending b kept = ⊥
