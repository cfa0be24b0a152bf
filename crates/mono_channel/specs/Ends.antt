-- What a caller sees of the two ends of a channel.
use Rattle.std.specs.Prelude.{◌≡◌, ℕ, ◌||◌, Bool, true, false, not, List}
use Rattle.atomic_table.specs.Seated.{TableId}
use Rattle.atomic_table.specs.declared.shared.Seat.{Seat}
use Rattle.crossbeam_queue.specs.Passes.{Pass, view}
use Rattle.mono_channel.specs.declared.rule.Hand.{Hand}
use Rattle.mono_channel.specs.declared.stakes.Standing.{Standing}

-- Which channel it is: its queue, and its count of open senders.
pub record Channel : Type 0 where
  pub queue : TableId
  pub senders : TableId

-- An end of a channel: what it has done, whether it was not closed, and whether it saw that each sender is closed.
pub record Ends (T : Type 0) : Type 0 where
  pub channel : Channel
  pub hand : Hand T
  pub live : Bool
  pub over : Bool

-- how many open senders a sender counts for
abbrev pub weight : Bool → ℕ
weight true = 0
weight false = 1

module _ {T : Type 0} where
  -- the end with this pass of the queue and this stake in the count
  abbrev pub end_of : Pass T (Hand T) → Seat (Unit {0}) Standing → Bool → Bool → Ends T
  end_of pass stake is_closed over = record { channel = record { queue = pass.table_id; senders = stake.table_id }; hand = view pass; live = not is_closed; over = over }

  -- the end, closed
  abbrev pub closed : Ends T → Ends T
  closed e = record { channel = e.channel; hand = e.hand; live = false; over = e.over }

  -- what the sender has sent, in order
  abbrev pub sent_by : Ends T → List T
  sent_by s = s.hand.sent

  -- what the receiver has received, in order
  abbrev pub received_by : Ends T → List T
  received_by r = r.hand.received

  -- what each sender sent that was settled, in the order in which they were
  abbrev pub settled_by : Ends T → List (List T)
  settled_by r = r.hand.settled

  -- its shares of the channel
  abbrev pub shares_of : Ends T → ℕ
  shares_of e = e.hand.shares

  -- both are ends of one channel
  abbrev pub IsPair : Ends T → Ends T → Type 0
  IsPair a b = a.channel ≡ b.channel

  -- the end was not closed
  abbrev pub is_open : Ends T → Bool
  is_open e = e.live

  -- The receiver saw that each sender is closed. It settles no open sender then (`settle`).
  abbrev pub is_over : Ends T → Bool
  is_over r = r.over

  -- the receiver was closed, or saw that each sender is
  abbrev pub has_ended : Ends T → Bool
  has_ended r = not r.live || r.over

  -- A later state of the receiver: it was closed since if it was before, and what it saw it still knows.
  abbrev pub KeepsEnd : Ends T → Ends T → Type 0
  KeepsEnd a b = (is_open b ≡ is_open a) × (is_over a ≡ true → is_over b ≡ true)

  -- it may send
  abbrev pub Sends : Pass T (Hand T) → Type 0
  Sends s = (view s).sends ≡ true

  -- it may receive
  abbrev pub Receives : Pass T (Hand T) → Type 0
  Receives r = (view r).receives ≡ true

  -- for how many messages the channel has places
  abbrev pub bound_of : Ends T → ℕ
  bound_of e = e.channel.queue.slots
