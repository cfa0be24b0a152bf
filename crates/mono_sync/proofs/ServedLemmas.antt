-- Tickets rise along both lines of a channel.
use Rattle.std.proofs.Common.{◌≡◌, ℕ, Bool, true, false, MatchBool, List, [], ◌∷◌, length, Option, Ok, Err, ap, inl, inr}
use Rattle.mono_sync.specs.declared.lines.Line.{Line}
use Rattle.mono_sync.specs.declared.lines.Coming.TheVariants.{Waits, Free, Full}
use Rattle.mono_sync.specs.declared.mpsc.Channel.{Channel}
use Rattle.mono_sync.specs.declared.mpsc.TrySendError.TheVariants as unsent
use Rattle.mono_sync.specs.declared.mpsc.TryRecvError.TheVariants as unreceived
use Rattle.mono_sync.specs.declared.mpsc.Sending.TheVariants as sending
use Rattle.mono_sync.specs.declared.mpsc.Receiving.TheVariants as receiving
use Rattle.mono_sync.specs.MpscRuns.{Event, tried_to_send, tried_to_receive, asked_to_send, asked_to_receive, gave_up_send, gave_up_receive, closed, served_sender, served_receiver, Step, Run}
use Rattle.mono_sync.specs.Lines.{Leaves, Comes}
use Rattle.mono_sync.specs.Mpsc.{places}
use Rattle.mono_sync.specs.Laws.{ServedInOrder}
use Rattle.mono_sync.proofs.LineLemmas.{Rising, kept_line, comes_rises, leaves_rises, joins_rises, stays_rises, first_rises, takes_rises}

received_rises : (c : Bool) (a b : Line) (ticket : Option ℕ) (me room : ℕ) → MatchBool c (Leaves a ticket me b) (Comes a ticket me room Free b) → Rising a → Rising b
received_rises true a b ticket me room s r = leaves_rises a b ticket me s r
received_rises false a b ticket me room s r = comes_rises a b ticket me room Free s r

module _ {T : Type 0} where
  senders_of : (a b : Channel T) → b ≡ a → Rising a.senders → Rising b.senders
  senders_of a b same r = kept_line _ _ (ap (λ c. c.senders) same) r

  receivers_of : (a b : Channel T) → b ≡ a → Rising a.receivers → Rising b.receivers
  receivers_of a b same r = kept_line _ _ (ap (λ c. c.receivers) same) r

  senders_rise : (e : Event T) (a b : Channel T) → Rising a.senders → Step a e b → Rising b.senders
  senders_rise (tried_to_send x (Ok done)) a b r s = kept_line _ _ s.3 r
  senders_rise (tried_to_send x (Err (unsent.Closed y))) a b r s = senders_of a b s.2 r
  senders_rise (tried_to_send x (Err (unsent.Full y))) a b r s = senders_of a b s.3 r
  senders_rise (tried_to_send x (Err (unsent.Memory y))) a b r s = kept_line _ _ s.3.1 r
  senders_rise (tried_to_receive (Ok x)) a b r s = kept_line _ _ s.0.1 r
  senders_rise (tried_to_receive (Err unreceived.Empty)) a b r s = senders_of a b s.2 r
  senders_rise (tried_to_receive (Err unreceived.Disconnected)) a b r s = senders_of a b s.2 r
  senders_rise (asked_to_send ticket x task sending.Sent) a b r s = comes_rises a.senders b.senders ticket task (places a) Free s.1 r
  senders_rise (asked_to_send ticket x task (sending.Closed y)) a b r s = leaves_rises a.senders b.senders ticket task s.2 r
  senders_rise (asked_to_send ticket x task (sending.Memory y)) a b r s = elim s.2 [
    | inl free ↦ comes_rises a.senders b.senders ticket task (places a) Free free r
    | inr full ↦ stays_rises a.senders full.0 b.senders ticket task (places a) Full full.1.0 full.1.1 r
  ]
  senders_rise (asked_to_send ticket x task (sending.Joined t y)) a b r s = joins_rises a.senders s.2.0 b.senders ticket task (places a) t Full s.2.1.0 s.2.1.1 r
  senders_rise (asked_to_send ticket x task (sending.Waits y)) a b r s = comes_rises a.senders b.senders ticket task (places a) Waits s.2 r
  senders_rise (asked_to_receive ticket task (receiving.Received x)) a b r s = kept_line _ _ s.0.1 r
  senders_rise (asked_to_receive ticket task receiving.Closed) a b r s = kept_line _ _ s.3.1 r
  senders_rise (asked_to_receive ticket task receiving.Memory) a b r s = kept_line _ _ s.2.1 r
  senders_rise (asked_to_receive ticket task (receiving.Joined t)) a b r s = kept_line _ _ s.2.1 r
  senders_rise (asked_to_receive ticket task receiving.Waits) a b r s = kept_line _ _ s.2.1 r
  senders_rise (gave_up_send ticket task) a b r s = leaves_rises a.senders b.senders ticket task s.0 r
  senders_rise (gave_up_receive ticket task) a b r s = kept_line _ _ s.1.1 r
  senders_rise closed a b r s = kept_line _ _ s.1 r
  senders_rise (served_sender first) a b r s = takes_rises a.is_closed (places a) a.senders b.senders first s.0 r
  senders_rise (served_receiver first) a b r s = kept_line _ _ s.2 r

  receivers_rise : (e : Event T) (a b : Channel T) → Rising a.receivers → Step a e b → Rising b.receivers
  receivers_rise (tried_to_send x (Ok done)) a b r s = kept_line _ _ s.2.1 r
  receivers_rise (tried_to_send x (Err (unsent.Closed y))) a b r s = receivers_of a b s.2 r
  receivers_rise (tried_to_send x (Err (unsent.Full y))) a b r s = receivers_of a b s.3 r
  receivers_rise (tried_to_send x (Err (unsent.Memory y))) a b r s = kept_line _ _ s.3.2 r
  receivers_rise (tried_to_receive (Ok x)) a b r s = kept_line _ _ s.1 r
  receivers_rise (tried_to_receive (Err unreceived.Empty)) a b r s = receivers_of a b s.2 r
  receivers_rise (tried_to_receive (Err unreceived.Disconnected)) a b r s = receivers_of a b s.2 r
  receivers_rise (asked_to_send ticket x task sending.Sent) a b r s = kept_line _ _ s.2.1 r
  receivers_rise (asked_to_send ticket x task (sending.Closed y)) a b r s = kept_line _ _ s.3.1 r
  receivers_rise (asked_to_send ticket x task (sending.Memory y)) a b r s = kept_line _ _ s.3.1 r
  receivers_rise (asked_to_send ticket x task (sending.Joined t y)) a b r s = kept_line _ _ s.3.1 r
  receivers_rise (asked_to_send ticket x task (sending.Waits y)) a b r s = kept_line _ _ s.3.1 r
  receivers_rise (asked_to_receive ticket task (receiving.Received x)) a b r s = received_rises a.is_closed a.receivers b.receivers ticket task (length a.queue.items) s.1 r
  receivers_rise (asked_to_receive ticket task receiving.Closed) a b r s = leaves_rises a.receivers b.receivers ticket task s.2 r
  receivers_rise (asked_to_receive ticket task receiving.Memory) a b r s = stays_rises a.receivers s.1.0 b.receivers ticket task (length a.queue.items) Full s.1.1.0 s.1.1.1 r
  receivers_rise (asked_to_receive ticket task (receiving.Joined t)) a b r s = joins_rises a.receivers s.1.0 b.receivers ticket task (length a.queue.items) t Full s.1.1.0 s.1.1.1 r
  receivers_rise (asked_to_receive ticket task receiving.Waits) a b r s = comes_rises a.receivers b.receivers ticket task (length a.queue.items) Waits s.1 r
  receivers_rise (gave_up_send ticket task) a b r s = kept_line _ _ s.1.1 r
  receivers_rise (gave_up_receive ticket task) a b r s = leaves_rises a.receivers b.receivers ticket task s.0 r
  receivers_rise closed a b r s = kept_line _ _ s.2 r
  receivers_rise (served_sender first) a b r s = kept_line _ _ s.2 r
  receivers_rise (served_receiver first) a b r s = takes_rises a.is_closed (length a.queue.items) a.receivers b.receivers first s.0 r

  run_senders : (es : List (Event T)) (a b : Channel T) → Rising a.senders → Run a es b → Rising b.senders
  run_senders [] a b r run = senders_of a b run r
  run_senders (e ∷ es) a b r (m, step, rest) = run_senders es m b (senders_rise e a m r step) rest

  run_receivers : (es : List (Event T)) (a b : Channel T) → Rising a.receivers → Run a es b → Rising b.receivers
  run_receivers [] a b r run = receivers_of a b run r
  run_receivers (e ∷ es) a b r (m, step, rest) = run_receivers es m b (receivers_rise e a m r step) rest

  pub served : ServedInOrder T
  served es a b c w run = (
    (λ r s. first_rises b.is_closed (places b) b.senders c.senders w s.0 (run_senders es a b r run)),
    (λ r s. first_rises b.is_closed (length b.queue.items) b.receivers c.receivers w s.0 (run_receivers es a b r run)),
  )
