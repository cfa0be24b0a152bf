-- What is reserved is there, whatever is called.
use Rattle.std.proofs.Common.{◌≡◌, ◌==◌, ◌+◌, ◌-◌, ◌<◌, ◌≤◌, ℕ, Bool, true, false, cond, MatchBool, List, [], ◌∷◌, ◌++◌, length, Option, Some, None, Ok, Err, refl, sym, ap, subst, ◌∙◌, nat_lt, inl, inr, arith, length-append}
use Rattle.mono_sync.specs.declared.lines.Waiter.{Waiter}
use Rattle.mono_sync.specs.declared.lines.Line.{Line}
use Rattle.mono_sync.specs.declared.lines.Coming.{Coming}
use Rattle.mono_sync.specs.declared.lines.Coming.TheVariants.{Waits, Free, Full}
use Rattle.mono_sync.specs.declared.semaphores.Semaphore.{Semaphore}
use Rattle.mono_sync.specs.declared.semaphores.TryAcquireError.TheVariants.{NoPermits, Closed}
use Rattle.mono_sync.specs.declared.semaphores.Acquiring.TheVariants as acquiring
use Rattle.mono_sync.specs.declared.mpsc.Channel.{Channel}
use Rattle.mono_sync.specs.declared.mpsc.TrySendError.TheVariants as unsent
use Rattle.mono_sync.specs.declared.mpsc.TryRecvError.TheVariants as unreceived
use Rattle.mono_sync.specs.declared.mpsc.Sending.TheVariants as sending
use Rattle.mono_sync.specs.declared.mpsc.Receiving.TheVariants as receiving
use Rattle.mono_sync.specs.Lines.{without, holder_of, Fits, Collects, HasRoom, Marks, Comes, ComesOf, Leaves, LeavesOf, Takes}
use Rattle.mono_sync.specs.SemaphoreRuns as semaphores
use Rattle.mono_sync.specs.MpscRuns as channels
use Rattle.mono_sync.specs.Mpsc.{places}
use Rattle.mono_sync.specs.LineLaws.{IsCovered, AreCovered}

free-waits : Free ≡ Waits → ⊥
free-waits e = cc

true-false : true ≡ false → ⊥
true-false e = cc

-- a future that does not wait and may go on leaves room for those that were served
module _ (a b : Line) (k me room : ℕ) where
  free_if : (u : ℕ) (c : Bool) → MatchBool c ((Free ≡ Waits) × (b ≡ a)) (HasRoom b room Free × Marks a k u b) → b.granted < room
  free_if u true p = absurd (free-waits p.0)
  free_if u false p = omega (arith, p.0)

  free_gone : (c : Bool) → MatchBool c (Fits b.granted room Free × Collects a b) (HasRoom b room Free × (b ≡ a)) → b.granted < room
  free_gone true p = p.0
  free_gone false p = omega (arith, p.0)

  free_of : (o : Option ℕ) → ComesOf o a k me room Free b → b.granted < room
  free_of None p = free_gone (nat_lt k a.next) p
  free_of (Some u) p = free_if u (u == me) p

free_covers : (a b : Line) (ticket : Option ℕ) (me room : ℕ) → Comes a ticket me room Free b → b.granted < room
free_covers a b None me room p = omega (arith, p.0)
free_covers a b (Some k) me room p = free_of a b k me room (holder_of a.waiters.items k) p

still : (a b : Line) → b ≡ a → b.granted ≤ a.granted
still a b same = let h : b.granted ≡ a.granted = ap (λ l. l.granted) same in omega (arith, h)

-- no call of a future reserves more
module _ (a b : Line) (k me : ℕ) where
  comes_if : (room : ℕ) (r : Coming) (u : ℕ) (c : Bool) → MatchBool c ((r ≡ Waits) × (b ≡ a)) (HasRoom b room r × Marks a k u b) → b.granted ≤ a.granted
  comes_if room r u true p = still a b p.1
  comes_if room r u false p = omega (arith, p.1.1)

  comes_gone : (room : ℕ) (r : Coming) (c : Bool) → MatchBool c (Fits b.granted room r × Collects a b) (HasRoom b room r × (b ≡ a)) → b.granted ≤ a.granted
  comes_gone room r true p = omega (arith, p.1.1)
  comes_gone room r false p = still a b p.1

  comes_of : (room : ℕ) (r : Coming) (o : Option ℕ) → ComesOf o a k me room r b → b.granted ≤ a.granted
  comes_of room r None p = comes_gone room r (nat_lt k a.next) p
  comes_of room r (Some u) p = comes_if room r u (u == me) p

  leaves_if : (u : ℕ) (c : Bool) → MatchBool c ((b.waiters.items ≡ without a.waiters.items k me) × (b.granted ≡ a.granted) × (b.next ≡ a.next)) (Marks a k u b) → b.granted ≤ a.granted
  leaves_if u true p = omega (arith, p.1)
  leaves_if u false p = omega (arith, p.1)

  leaves_gone : (c : Bool) → MatchBool c (Collects a b) (b ≡ a) → b.granted ≤ a.granted
  leaves_gone true p = omega (arith, p.1)
  leaves_gone false p = still a b p

  leaves_of : (o : Option ℕ) → LeavesOf o a k me b → b.granted ≤ a.granted
  leaves_of None p = leaves_gone (nat_lt k a.next) p
  leaves_of (Some u) p = leaves_if u (u == me) p

comes_less : (a b : Line) (ticket : Option ℕ) (me room : ℕ) (r : Coming) → Comes a ticket me room r b → b.granted ≤ a.granted
comes_less a b None me room r p = still a b p.1
comes_less a b (Some k) me room r p = comes_of a b k me room r (holder_of a.waiters.items k) p

leaves_less : (a b : Line) (ticket : Option ℕ) (me : ℕ) → Leaves a ticket me b → b.granted ≤ a.granted
leaves_less a b None me p = still a b p
leaves_less a b (Some k) me p = leaves_of a b k me (holder_of a.waiters.items k) p

grant_if : (h : Bool) (g m room : ℕ) → g < room → m ≡ cond h g (g + 1) → m ≤ room
grant_if true g m room less is = omega (arith, less, is)
grant_if false g m room less is = omega (arith, less, is)

takes_covers : (c : Bool) (room : ℕ) (a b : Line) (first : Option Waiter) → Takes c room a first b → a.granted ≤ room → b.granted ≤ room
takes_covers true room a b None s old = omega (arith, still a b s.1, old)
takes_covers true room a b (Some w) s old = omega (arith, s.1, old)
takes_covers false room a b None s old = omega (arith, still a b s.1, old)
takes_covers false room a b (Some w) s old = grant_if w.has_left a.granted b.granted room s.0 s.2

same_covers : (a b : Semaphore) → b ≡ a → IsCovered a → IsCovered b
same_covers a b same old = subst IsCovered (sym same) old

step_covers : (e : semaphores.Event) (a b : Semaphore) → IsCovered a → semaphores.Step a e b → IsCovered b
step_covers (semaphores.tried (Ok done)) a b old s = omega (arith, still a.line b.line s.3, s.1, s.2)
step_covers (semaphores.tried (Err Closed)) a b old s = same_covers a b s.1 old
step_covers (semaphores.tried (Err NoPermits)) a b old s = same_covers a b s.2 old
step_covers (semaphores.asked ticket task acquiring.Waits) a b old s = omega (arith, comes_less a.line b.line ticket task a.available Waits s.1, s.2, old)
step_covers (semaphores.asked ticket task acquiring.Closed) a b old s = omega (arith, leaves_less a.line b.line ticket task s.1, s.2, old)
step_covers (semaphores.asked ticket task acquiring.Acquired) a b old s = omega (arith, free_covers a.line b.line ticket task a.available s.1, s.2)
step_covers (semaphores.asked ticket task acquiring.Memory) a b old s = omega (arith, comes_less a.line s.1.0 ticket task a.available Full s.1.1.0, s.1.1.1.1, s.2, old)
step_covers (semaphores.asked ticket task (acquiring.Joined t)) a b old s = omega (arith, comes_less a.line s.1.0 ticket task a.available Full s.1.1.0, s.1.1.1.2, s.2, old)
step_covers (semaphores.released (Ok done)) a b old s = omega (arith, still a.line b.line s.2, s.1, old)
step_covers (semaphores.released (Err e)) a b old s = same_covers a b s.1 old
step_covers (semaphores.gave_up ticket task) a b old s = omega (arith, leaves_less a.line b.line ticket task s.1, s.0, old)
step_covers semaphores.closed a b old s = omega (arith, still a.line b.line s.1, s.0, old)
step_covers (semaphores.served first) a b old s = omega (arith, takes_covers a.is_closed a.available a.line b.line first s.0 old, s.1)

pub run_covers : (es : List semaphores.Event) (a b : Semaphore) → IsCovered a → semaphores.Run a es b → IsCovered b
run_covers [] a b old run = same_covers a b run old
run_covers (e ∷ es) a b old (m, step, rest) = run_covers es m b (step_covers e a m old step) rest

module _ {T : Type 0} where
  same_are : (a b : Channel T) → b ≡ a → AreCovered a → AreCovered b
  same_are a b same old = subst AreCovered (sym same) old

  covered : (a b : Channel T) → b.is_closed ≡ a.is_closed → (a.is_closed ≡ false → a.senders.granted ≤ places a → b.senders.granted ≤ places b)
      → (a.is_closed ≡ false → a.receivers.granted ≤ length a.queue.items → b.receivers.granted ≤ length b.queue.items) → AreCovered a → AreCovered b
  covered a b same s r old opened = let was = sym same ∙ opened in (s was (old was).0, r was (old was).1)

  -- the queue stays, and no line has more that was served
  rests : (a b : Channel T) → b.queue.items ≡ a.queue.items → b.senders.granted ≤ a.senders.granted → b.receivers.granted ≤ a.receivers.granted → b.bound ≡ a.bound → b.is_closed ≡ a.is_closed → AreCovered a → AreCovered b
  rests a b queue s r bound same old =
      let h : length b.queue.items ≡ length a.queue.items = ap length queue in
      covered a b same (λ was le. omega (arith, h, s, bound, le)) (λ was le. omega (arith, h, r, le)) old

  longer : (a b : Channel T) (x : T) → b.queue.items ≡ a.queue.items ++ x ∷ [] → length b.queue.items ≡ length a.queue.items + 1
  longer a b x same = ap length same ∙ length-append a.queue.items (x ∷ [])

  shorter : (a b : Channel T) (x : T) → a.queue.items ≡ x ∷ b.queue.items → length a.queue.items ≡ length b.queue.items + 1
  shorter a b x same = let h : length a.queue.items ≡ length (x ∷ b.queue.items) = ap length same in omega (arith, h)

  asked : (a b : Channel T) (ticket : Option ℕ) (task : ℕ) → a.is_closed ≡ false
      → MatchBool a.is_closed (Leaves a.receivers ticket task b.receivers) (Comes a.receivers ticket task (length a.queue.items) Free b.receivers) → b.receivers.granted < length a.queue.items
  asked a b ticket task was m = free_covers a.receivers b.receivers ticket task (length a.queue.items)
      (subst (λ c. MatchBool c (Leaves a.receivers ticket task b.receivers) (Comes a.receivers ticket task (length a.queue.items) Free b.receivers)) was m)

  step_are : (e : channels.Event T) (a b : Channel T) → AreCovered a → channels.Step a e b → AreCovered b
  step_are (channels.tried_to_send x (Ok done)) a b old s =
      covered a b s.2.2.1 (λ was le. omega (arith, still a.senders b.senders s.3, longer a b x s.2.0, s.2.2.0, s.1)) (λ was le. omega (arith, still a.receivers b.receivers s.2.1, longer a b x s.2.0, le)) old
  step_are (channels.tried_to_send x (Err (unsent.Closed y))) a b old s = same_are a b s.2 old
  step_are (channels.tried_to_send x (Err (unsent.Full y))) a b old s = same_are a b s.3 old
  step_are (channels.tried_to_send x (Err (unsent.Memory y))) a b old s = rests a b s.3.0 (still a.senders b.senders s.3.1) (still a.receivers b.receivers s.3.2) s.3.3.0 s.3.3.1 old
  step_are (channels.tried_to_receive (Ok x)) a b old s =
      covered a b s.0.2.1 (λ was le. omega (arith, still a.senders b.senders s.0.1, shorter a b x s.0.0, s.0.2.0, le)) (λ was le. omega (arith, still a.receivers b.receivers s.1, shorter a b x s.0.0, s.2 was)) old
  step_are (channels.tried_to_receive (Err unreceived.Empty)) a b old s = same_are a b s.2 old
  step_are (channels.tried_to_receive (Err unreceived.Disconnected)) a b old s = same_are a b s.2 old
  step_are (channels.asked_to_send ticket x task sending.Sent) a b old s =
      covered a b s.2.2.1 (λ was le. omega (arith, free_covers a.senders b.senders ticket task (places a) s.1, longer a b x s.2.0, s.2.2.0)) (λ was le. omega (arith, still a.receivers b.receivers s.2.1, longer a b x s.2.0, le)) old
  step_are (channels.asked_to_send ticket x task (sending.Closed y)) a b old s = rests a b s.3.0 (leaves_less a.senders b.senders ticket task s.2) (still a.receivers b.receivers s.3.1) s.3.2.0 s.3.2.1 old
  step_are (channels.asked_to_send ticket x task (sending.Memory y)) a b old s = elim s.2 [
    | inl free ↦ rests a b s.3.0 (comes_less a.senders b.senders ticket task (places a) Free free) (still a.receivers b.receivers s.3.1) s.3.2.0 s.3.2.1 old
    | inr full ↦ rests a b s.3.0 (omega (arith, comes_less a.senders full.0 ticket task (places a) Full full.1.0, full.1.1.1)) (still a.receivers b.receivers s.3.1) s.3.2.0 s.3.2.1 old
  ]
  step_are (channels.asked_to_send ticket x task (sending.Joined t y)) a b old s =
      rests a b s.3.0 (omega (arith, comes_less a.senders s.2.0 ticket task (places a) Full s.2.1.0, s.2.1.1.2)) (still a.receivers b.receivers s.3.1) s.3.2.0 s.3.2.1 old
  step_are (channels.asked_to_send ticket x task (sending.Waits y)) a b old s = rests a b s.3.0 (comes_less a.senders b.senders ticket task (places a) Waits s.2) (still a.receivers b.receivers s.3.1) s.3.2.0 s.3.2.1 old
  step_are (channels.asked_to_receive ticket task (receiving.Received x)) a b old s =
      covered a b s.0.2.1 (λ was le. omega (arith, still a.senders b.senders s.0.1, shorter a b x s.0.0, s.0.2.0, le)) (λ was le. omega (arith, asked a b ticket task was s.1, shorter a b x s.0.0)) old
  step_are (channels.asked_to_receive ticket task receiving.Closed) a b old s = rests a b s.3.0 (still a.senders b.senders s.3.1) (leaves_less a.receivers b.receivers ticket task s.2) s.3.2.0 s.3.2.1 old
  step_are (channels.asked_to_receive ticket task receiving.Memory) a b old s =
      rests a b s.2.0 (still a.senders b.senders s.2.1) (omega (arith, comes_less a.receivers s.1.0 ticket task (length a.queue.items) Full s.1.1.0, s.1.1.1.1)) s.2.2.0 s.2.2.1 old
  step_are (channels.asked_to_receive ticket task (receiving.Joined t)) a b old s =
      rests a b s.2.0 (still a.senders b.senders s.2.1) (omega (arith, comes_less a.receivers s.1.0 ticket task (length a.queue.items) Full s.1.1.0, s.1.1.1.2)) s.2.2.0 s.2.2.1 old
  step_are (channels.asked_to_receive ticket task receiving.Waits) a b old s = rests a b s.2.0 (still a.senders b.senders s.2.1) (comes_less a.receivers b.receivers ticket task (length a.queue.items) Waits s.1) s.2.2.0 s.2.2.1 old
  step_are (channels.gave_up_send ticket task) a b old s = rests a b s.1.0 (leaves_less a.senders b.senders ticket task s.0) (still a.receivers b.receivers s.1.1) s.1.2.0 s.1.2.1 old
  step_are (channels.gave_up_receive ticket task) a b old s = rests a b s.1.0 (still a.senders b.senders s.1.1) (leaves_less a.receivers b.receivers ticket task s.0) s.1.2.0 s.1.2.1 old
  step_are channels.closed a b old s = λ opened. absurd (true-false (sym s.4 ∙ opened))
  step_are (channels.served_sender first) a b old s =
      let h : length b.queue.items ≡ length a.queue.items = ap (λ q. length q.items) s.1 in
      covered a b s.3.1 (λ was le. omega (arith, h, s.3.0, takes_covers a.is_closed (places a) a.senders b.senders first s.0 le)) (λ was le. omega (arith, h, still a.receivers b.receivers s.2, le)) old
  step_are (channels.served_receiver first) a b old s =
      let h : length b.queue.items ≡ length a.queue.items = ap (λ q. length q.items) s.1 in
      covered a b s.3.1 (λ was le. omega (arith, h, s.3.0, still a.senders b.senders s.2, le)) (λ was le. omega (arith, h, takes_covers a.is_closed (length a.queue.items) a.receivers b.receivers first s.0 le)) old

  pub run_are : (es : List (channels.Event T)) (a b : Channel T) → AreCovered a → channels.Run a es b → AreCovered b
  run_are [] a b old run = same_are a b run old
  run_are (e ∷ es) a b old (m, step, rest) = run_are es m b (step_are e a m old step) rest
