-- A channel has no more messages than it may.
use Rattle.std.proofs.Common.{◌≡◌, ◌<◌, ◌≤◌, ℕ, List, [], ◌∷◌, ◌++◌, length, Ok, Err, ap, ◌∙◌, arith, length-append}
use Rattle.mono_sync.specs.declared.mpsc.Channel.{Channel}
use Rattle.mono_sync.specs.declared.mpsc.TrySendError.TheVariants as unsent
use Rattle.mono_sync.specs.declared.mpsc.TryRecvError.TheVariants as unreceived
use Rattle.mono_sync.specs.declared.mpsc.Sending.TheVariants as sending
use Rattle.mono_sync.specs.declared.mpsc.Receiving.TheVariants as receiving
use Rattle.mono_sync.specs.Mpsc.{places}
use Rattle.mono_sync.specs.MpscRuns.{Event, tried_to_send, tried_to_receive, asked_to_send, asked_to_receive, gave_up_send, gave_up_receive, closed, served_sender, served_receiver, Step, Run}
use Rattle.mono_sync.specs.Laws.{StaysBounded}
use Rattle.mono_sync.proofs.FreeLemmas.{free_room}

more_room : (n m : ℕ) → n < m → 0 < m
more_room n m less = omega (arith, less)

module _ {T : Type 0} where
  record Within (a b : Channel T) : Type 0 where
    bound : b.bound ≡ a.bound
    within : length a.queue.items ≤ a.bound → length b.queue.items ≤ b.bound

  same : (a b : Channel T) → b.queue.items ≡ a.queue.items → b.bound ≡ a.bound → Within a b
  same a b p q = let h : length b.queue.items ≡ length a.queue.items = ap length p in record { bound = q; within = λ is. omega (arith, h, q, is) }

  equal : (a b : Channel T) → b ≡ a → Within a b
  equal a b e = same a b (ap (λ c. c.queue.items) e) (ap (λ c. c.bound) e)

  shorter : (x : T) (a b : Channel T) → a.queue.items ≡ x ∷ b.queue.items → b.bound ≡ a.bound → Within a b
  shorter x a b p q = let h : length a.queue.items ≡ length (x ∷ b.queue.items) = ap length p in record { bound = q; within = λ is. omega (arith, h, q, is) }

  longer : (x : T) (a b : Channel T) → 0 < places a → b.queue.items ≡ a.queue.items ++ x ∷ [] → b.bound ≡ a.bound → Within a b
  longer x a b room p q =
      let h : length b.queue.items ≡ length (a.queue.items ++ x ∷ []) = ap length p in
      record { bound = q; within = λ is. omega (arith, h, length-append a.queue.items (x ∷ []), q, room, is) }

  step_within : (e : Event T) (a b : Channel T) → Step a e b → Within a b
  step_within (tried_to_send x (Ok done)) a b s = longer x a b (more_room _ _ s.1) s.2.0 s.2.2.0
  step_within (tried_to_send x (Err (unsent.Closed y))) a b s = equal a b s.2
  step_within (tried_to_send x (Err (unsent.Full y))) a b s = equal a b s.3
  step_within (tried_to_send x (Err (unsent.Memory y))) a b s = same a b s.3.0 s.3.3.0
  step_within (tried_to_receive (Ok x)) a b s = shorter x a b s.0.0 s.0.2.0
  step_within (tried_to_receive (Err unreceived.Empty)) a b s = equal a b s.2
  step_within (tried_to_receive (Err unreceived.Disconnected)) a b s = equal a b s.2
  step_within (asked_to_send ticket x task sending.Sent) a b s = longer x a b (free_room a.senders b.senders ticket task (places a) s.1) s.2.0 s.2.2.0
  step_within (asked_to_send ticket x task (sending.Closed y)) a b s = same a b s.3.0 s.3.2.0
  step_within (asked_to_send ticket x task (sending.Memory y)) a b s = same a b s.3.0 s.3.2.0
  step_within (asked_to_send ticket x task (sending.Joined t y)) a b s = same a b s.3.0 s.3.2.0
  step_within (asked_to_send ticket x task (sending.Waits y)) a b s = same a b s.3.0 s.3.2.0
  step_within (asked_to_receive ticket task (receiving.Received x)) a b s = shorter x a b s.0.0 s.0.2.0
  step_within (asked_to_receive ticket task receiving.Closed) a b s = same a b s.3.0 s.3.2.0
  step_within (asked_to_receive ticket task receiving.Memory) a b s = same a b s.2.0 s.2.2.0
  step_within (asked_to_receive ticket task (receiving.Joined t)) a b s = same a b s.2.0 s.2.2.0
  step_within (asked_to_receive ticket task receiving.Waits) a b s = same a b s.2.0 s.2.2.0
  step_within (gave_up_send ticket task) a b s = same a b s.1.0 s.1.2.0
  step_within (gave_up_receive ticket task) a b s = same a b s.1.0 s.1.2.0
  step_within closed a b s = same a b (ap (λ q. q.items) s.0) s.3
  step_within (served_sender first) a b s = same a b (ap (λ q. q.items) s.1) s.3.0
  step_within (served_receiver first) a b s = same a b (ap (λ q. q.items) s.1) s.3.0

  run_within : (es : List (Event T)) (a b : Channel T) → Run a es b → Within a b
  run_within [] a b run = equal a b run
  run_within (e ∷ es) a b (m, step, rest) =
      let one = step_within e a m step in
      let more = run_within es m b rest in
      record { bound = more.bound ∙ one.bound; within = λ is. more.within (one.within is) }

  pub bounded : StaysBounded T
  bounded es a b run = let all = run_within es a b run in (all.bound, all.within)
