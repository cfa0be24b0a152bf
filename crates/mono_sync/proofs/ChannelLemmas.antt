-- Whom a channel keeps, and whom it hands out.
use Rattle.std.proofs.Common.{◌≡◌, ◌-◌, ℕ, Bool, true, false, MatchBool, [], ◌∷◌, length, Option, Some, None, sym, ap, subst, ◌∙◌, inl, inr}
use Rattle.mono_task.specs.Owed.{Keeps, Hands}
use Rattle.mono_sync.specs.declared.lines.Waiter.{Waiter}
use Rattle.mono_sync.specs.declared.lines.Line.{Line}
use Rattle.mono_sync.specs.declared.lines.Coming.TheVariants.{Waits, Free, Full}
use Rattle.mono_sync.specs.declared.mpsc.Channel.{Channel}
use Rattle.mono_sync.specs.declared.mpsc.Sending.{Sending}
use Rattle.mono_sync.specs.declared.mpsc.Sending.TheVariants as sending
use Rattle.mono_sync.specs.declared.mpsc.Receiving.{Receiving}
use Rattle.mono_sync.specs.declared.mpsc.Receiving.TheVariants as receiving
use Rattle.mono_sync.specs.Lines.{Comes, Leaves, owed_of}
use Rattle.mono_sync.specs.Parts.{two_keep, one_hands, two_hands, none_hand}
use Rattle.mono_sync.specs.Mpsc.{places, owed_by, owed_senders, owed_receivers, listed_by, sender_at, receiver_at, Sends, Receives, GivesUpSend, GivesUpReceive, PaysSender, PaysReceiver}
use Rattle.mono_sync.proofs.TakeLemmas.{none_taken, none_stays, first_taken, first_out}
use Rattle.mono_sync.proofs.WaitLemmas.{LineKept, to_places, line_same, comes_keeps, leaves_keeps, joins_keeps, rests_keeps}

abbrev pub task_of : Option Waiter → Option ℕ
task_of None = None
task_of (Some w) = Some w.task

received_line : (c : Bool) (a b : Line) (ticket : Option ℕ) (me room : ℕ) → MatchBool c (Leaves a ticket me b) (Comes a ticket me room Free b) → LineKept me a b
received_line true a b ticket me room s = leaves_keeps a b ticket me s
received_line false a b ticket me room s = comes_keeps a b ticket me room Free s

module _ {T : Type 0} where
  of_lines : (me : ℕ) (a b : Channel T) → LineKept me a.senders b.senders → LineKept me a.receivers b.receivers → Keeps listed_by me a b
  of_lines me a b s r = two_keep sender_at receiver_at me a b (to_places me a.senders.waiters.items b.senders.waiters.items s) (to_places me a.receivers.waiters.items b.receivers.waiters.items r)

  pub lines_stay : (me : ℕ) (a b : Channel T) → b.senders ≡ a.senders → b.receivers ≡ a.receivers → Keeps listed_by me a b
  lines_stay me a b s r = of_lines me a b (line_same me a.senders b.senders s) (line_same me a.receivers b.receivers r)

  of_senders : (me : ℕ) (a b : Channel T) → LineKept me a.senders b.senders → b.receivers ≡ a.receivers → Keeps listed_by me a b
  of_senders me a b s r = of_lines me a b s (line_same me a.receivers b.receivers r)

  of_receivers : (me : ℕ) (a b : Channel T) → b.senders ≡ a.senders → LineKept me a.receivers b.receivers → Keeps listed_by me a b
  of_receivers me a b s r = of_lines me a b (line_same me a.senders b.senders s) r

  pub sends_keeps : (a b : Channel T) (ticket : Option ℕ) (x : T) (me : ℕ) (r : Sending T) → Sends a ticket x me r b → Keeps listed_by me a b
  sends_keeps a b ticket x me sending.Sent s = of_senders me a b (comes_keeps a.senders b.senders ticket me (places a) Free s.1) s.2.1
  sends_keeps a b ticket x me (sending.Closed y) s = of_senders me a b (leaves_keeps a.senders b.senders ticket me s.2) s.3.1
  sends_keeps a b ticket x me (sending.Memory y) s = elim s.2 [
    | inl free ↦ of_senders me a b (comes_keeps a.senders b.senders ticket me (places a) Free free) s.3.1
    | inr full ↦ of_senders me a b (rests_keeps a.senders full.0 b.senders ticket me (places a) Full full.1.0 full.1.1) s.3.1
  ]
  sends_keeps a b ticket x me (sending.Joined t y) s = of_senders me a b (joins_keeps a.senders s.2.0 b.senders ticket me (places a) t Full s.2.1.0 s.2.1.1) s.3.1
  sends_keeps a b ticket x me (sending.Waits y) s = of_senders me a b (comes_keeps a.senders b.senders ticket me (places a) Waits s.2) s.3.1

  pub receives_keeps : (a b : Channel T) (ticket : Option ℕ) (me : ℕ) (r : Receiving T) → Receives a ticket me r b → Keeps listed_by me a b
  receives_keeps a b ticket me (receiving.Received x) s = of_receivers me a b s.0.1 (received_line a.is_closed a.receivers b.receivers ticket me (length a.queue.items) s.1)
  receives_keeps a b ticket me receiving.Closed s = of_receivers me a b s.3.1 (leaves_keeps a.receivers b.receivers ticket me s.2)
  receives_keeps a b ticket me receiving.Memory s = of_receivers me a b s.2.1 (rests_keeps a.receivers s.1.0 b.receivers ticket me (length a.queue.items) Full s.1.1.0 s.1.1.1)
  receives_keeps a b ticket me (receiving.Joined t) s = of_receivers me a b s.2.1 (joins_keeps a.receivers s.1.0 b.receivers ticket me (length a.queue.items) t Full s.1.1.0 s.1.1.1)
  receives_keeps a b ticket me receiving.Waits s = of_receivers me a b s.2.1 (comes_keeps a.receivers b.receivers ticket me (length a.queue.items) Waits s.1)

  pub gives_up_send_keeps : (a b : Channel T) (ticket : Option ℕ) (me : ℕ) → GivesUpSend a ticket me b → Keeps listed_by me a b
  gives_up_send_keeps a b ticket me s = of_senders me a b (leaves_keeps a.senders b.senders ticket me s.0) s.1.1

  pub gives_up_receive_keeps : (a b : Channel T) (ticket : Option ℕ) (me : ℕ) → GivesUpReceive a ticket me b → Keeps listed_by me a b
  gives_up_receive_keeps a b ticket me s = of_receivers me a b s.1.1 (leaves_keeps a.receivers b.receivers ticket me s.0)

  -- the channel is the same if no sender was taken out
  pub no_sender : (a b : Channel T) → PaysSender a None b → b ≡ a
  no_sender a b s = λ i. record { queue = s.1 i; bound = s.3.0 i; is_closed = s.3.1 i; senders = none_stays a.is_closed (places a) a.senders b.senders s.0 i; receivers = s.2 i }

  no_receiver : (a b : Channel T) → PaysReceiver a None b → b ≡ a
  no_receiver a b s = λ i. record { queue = s.1 i; bound = s.3.0 i; is_closed = s.3.1 i; senders = s.2 i; receivers = none_stays a.is_closed (length a.queue.items) a.receivers b.receivers s.0 i }

  pub sender_hands : (a b : Channel T) (w : Waiter) → PaysSender a (Some w) b → Hands listed_by owed_by a (Some w.task) b
  sender_hands a b w s =
      let closed : (l : Line) (n : ℕ) → owed_of a.is_closed n l ≡ owed_of b.is_closed n l = λ l n. ap (λ c. owed_of c n l) (sym s.3.1) in
      let room : places a ≡ places b = λ i. sym s.3.0 i - length (sym s.1 i).items in
      one_hands sender_at receiver_at owed_senders owed_receivers a b w.task
      (first_taken a.is_closed (places a) w a.senders b.senders s.0 ∙ ap (λ ts. w.task ∷ ts) (closed b.senders (places a) ∙ ap (λ n. owed_of b.is_closed n b.senders) room), to_places w.task a.senders.waiters.items b.senders.waiters.items (first_out a.is_closed (places a) w a.senders b.senders s.0))
      (to_places w.task a.receivers.waiters.items b.receivers.waiters.items (line_same w.task a.receivers b.receivers s.2))
      (closed a.receivers (length a.queue.items) ∙ ap (λ q. owed_of b.is_closed (length q.items) a.receivers) (sym s.1) ∙ ap (λ l. owed_of b.is_closed (length b.queue.items) l) (sym s.2))

  module _ (a b : Channel T) (none : owed_senders a ≡ []) where
    receivers_hand : (first : Option Waiter) → PaysReceiver a first b → Hands listed_by owed_by a (task_of first) b
    receivers_hand None s = none_hand sender_at receiver_at owed_senders owed_receivers a b none (none_taken a.is_closed (length a.queue.items) a.receivers b.receivers s.0) (no_receiver a b s)
    receivers_hand (Some w) s =
        let room : places b ≡ places a = λ i. s.3.0 i - length (s.1 i).items in
        let still : owed_senders b ≡ [] = ap (λ c. owed_of c (places b) b.senders) s.3.1 ∙ ap (λ n. owed_of a.is_closed n b.senders) room ∙ ap (λ l. owed_of a.is_closed (places a) l) s.2 ∙ none in
        two_hands sender_at receiver_at owed_senders owed_receivers a b w.task none still
        (to_places w.task a.senders.waiters.items b.senders.waiters.items (line_same w.task a.senders b.senders s.2))
        (first_taken a.is_closed (length a.queue.items) w a.receivers b.receivers s.0 ∙ ap (λ c. w.task ∷ owed_of c (length a.queue.items) b.receivers) (sym s.3.1) ∙ ap (λ q. w.task ∷ owed_of b.is_closed (length q.items) b.receivers) (sym s.1), to_places w.task a.receivers.waiters.items b.receivers.waiters.items (first_out a.is_closed (length a.queue.items) w a.receivers b.receivers s.0))

  pub receiver_hands : (a m b : Channel T) (first : Option Waiter) → PaysSender a None m → PaysReceiver m first b → Hands listed_by owed_by a (task_of first) b
  receiver_hands a m b first s r = subst (λ x. Hands listed_by owed_by x (task_of first) b) (no_sender a m s)
      (receivers_hand m b (ap (λ x. owed_senders x) (no_sender a m s) ∙ none_taken a.is_closed (places a) a.senders m.senders s.0) first r)
