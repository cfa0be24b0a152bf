-- No task waits to send while fewer messages are queued than the bound.
use Rattle.std.proofs.Common.{true, false, Bool, MatchBool, ◌≡◌, ◌<◌, ◌≤◌, ◌+◌, ◌-◌, ℕ, List, [], ◌∷◌, ◌++◌, length, Option, Some, None, Ok, Err, refl, sym, ap, subst, ◌∙◌, inl, inr, arith, length-append, nat_lt}
use Rattle.mono_sync.specs.declared.lines.Waiter.{Waiter}
use Rattle.mono_sync.specs.declared.lines.Line.{Line}
use Rattle.mono_sync.specs.declared.lines.Coming.{Coming}
use Rattle.mono_sync.specs.declared.lines.Coming.TheVariants.{Waits, Free, Full}
use Rattle.mono_sync.specs.declared.mpsc.Channel.{Channel}
use Rattle.mono_sync.specs.declared.mpsc.TrySendError.TheVariants as unsent
use Rattle.mono_sync.specs.declared.mpsc.TryRecvError.TheVariants as unreceived
use Rattle.mono_sync.specs.declared.mpsc.Sending.TheVariants as sending
use Rattle.mono_sync.specs.declared.mpsc.Receiving.TheVariants as receiving
use Rattle.mono_sync.specs.Lines.{Comes, ComesOf, Leaves, LeavesOf, Collects, Fits, HasRoom, Takes, holder_of}
use Rattle.mono_sync.specs.Mpsc.{TriesToSend, places}
use Rattle.mono_sync.specs.MpscRuns.{Event, tried_to_send, tried_to_receive, asked_to_send, asked_to_receive, gave_up_send, gave_up_receive, closed, served_sender, served_receiver, Step, Run, sent, sent_by}
use Rattle.mono_sync.specs.Unbounded.{HasNoSender, UnboundedIsNeverFull}

not_empty : {X : Type 0} (x : X) (xs : List X) → x ∷ xs ≡ [] → ⊥
not_empty x xs e = cc

abbrev IsNone : Line → Type 0
IsNone l = (l.waiters.items ≡ []) × (l.granted ≡ 0)

module _ (a b : Line) (is : IsNone a) where
  nobody : (k : ℕ) → holder_of a.waiters.items k ≡ None
  nobody k = ap (λ ws. holder_of ws k) is.0

  still : b ≡ a → IsNone b
  still same = subst IsNone (sym same) is

  collected : Collects a b → IsNone b
  collected p = (p.0 ∙ is.0, omega (arith, p.1, is.1))

  come_if : (room : ℕ) (r : Coming) (c : Bool) → MatchBool c (Fits b.granted room r × Collects a b) (HasRoom b room r × (b ≡ a)) → IsNone b × Fits 0 room r
  come_if room r true p = let none = collected p.1 in (none, subst (λ n. Fits n room r) none.1 p.0)
  come_if room r false p =
      let none = still p.1 in
      let nothing : b.granted + length b.waiters.items ≡ 0 = omega (arith, none.1, ap length none.0) in
      (none, subst (λ n. Fits n room r) nothing p.0)

  comes_none : (ticket : Option ℕ) (me room : ℕ) (r : Coming) → Comes a ticket me room r b → IsNone b × Fits 0 room r
  comes_none None me room r p = come_if room r false p
  comes_none (Some k) me room r p = come_if room r (nat_lt k a.next) (subst (λ o. ComesOf o a k me room r b) (nobody k) p)

  leave_if : (c : Bool) → MatchBool c (Collects a b) (b ≡ a) → IsNone b
  leave_if true p = collected p
  leave_if false p = still p

  leaves_none : (ticket : Option ℕ) (me : ℕ) → Leaves a ticket me b → IsNone b
  leaves_none None me p = still p
  leaves_none (Some k) me p = leave_if (nat_lt k a.next) (subst (λ o. LeavesOf o a k me b) (nobody k) p)

  takes_none : (c : Bool) (room : ℕ) (first : Option Waiter) → Takes c room a first b → IsNone b
  takes_none true room None p = still p.1
  takes_none true room (Some w) p = absurd (not_empty w b.waiters.items (sym p.0 ∙ is.0))
  takes_none false room None p = still p.1
  takes_none false room (Some w) p = absurd (not_empty w b.waiters.items (sym p.1 ∙ is.0))

-- a line in which nobody waits refuses nobody while there is room
none_full : (room : ℕ) → 0 < room → Fits 0 room Full → ⊥
none_full room some full = omega (arith, some, full)

has_places : (bound count : ℕ) → count < bound → 0 < bound - count
has_places bound count less = omega (arith, less)

module _ {T : Type 0} where
  record After (a : Channel T) (e : Event T) (b : Channel T) : Type 0 where
    none : HasNoSender b
    bound : b.bound ≡ a.bound
    count : length b.queue.items ≤ length a.queue.items + length (sent_by e)

  same : (a : Channel T) (e : Event T) (b : Channel T) → HasNoSender b → b.queue.items ≡ a.queue.items → b.bound ≡ a.bound → After a e b
  same a e b none p q = let h : length b.queue.items ≡ length a.queue.items = ap length p in record { none = none; bound = q; count = omega (arith, h) }

  equal : (a : Channel T) (e : Event T) (b : Channel T) → HasNoSender a → b ≡ a → After a e b
  equal a e b none p = same a e b (still a.senders b.senders none (ap (λ c. c.senders) p)) (ap (λ c. c.queue.items) p) (ap (λ c. c.bound) p)

  shorter : (a : Channel T) (e : Event T) (b : Channel T) (x : T) → HasNoSender b → a.queue.items ≡ x ∷ b.queue.items → b.bound ≡ a.bound → After a e b
  shorter a e b x none p q = let h : length a.queue.items ≡ length (x ∷ b.queue.items) = ap length p in record { none = none; bound = q; count = omega (arith, h) }

  longer : (a : Channel T) (e : Event T) (b : Channel T) (x : T) → HasNoSender b → b.queue.items ≡ a.queue.items ++ x ∷ [] → length (sent_by e) ≡ 1 → b.bound ≡ a.bound → After a e b
  longer a e b x none p one q =
      let h : length b.queue.items ≡ length (a.queue.items ++ x ∷ []) = ap length p in
      record { none = none; bound = q; count = omega (arith, h, length-append a.queue.items (x ∷ []), one) }

  unfit : (a : Channel T) → length a.queue.items < a.bound → Fits 0 (places a) Full → ⊥
  unfit a less = none_full (places a) (has_places a.bound (length a.queue.items) less)

  step_after : (e : Event T) (a b : Channel T) → HasNoSender a → length a.queue.items < a.bound → Step a e b → After a e b
  step_after (tried_to_send x (Ok done)) a b is less s = longer a _ b x (still a.senders b.senders is s.3) s.2.0 refl s.2.2.0
  step_after (tried_to_send x (Err (unsent.Closed y))) a b is less s = equal a _ b is s.2
  step_after (tried_to_send x (Err (unsent.Full y))) a b is less s = equal a _ b is s.3
  step_after (tried_to_send x (Err (unsent.Memory y))) a b is less s = same a _ b (still a.senders b.senders is s.3.1) s.3.0 s.3.3.0
  step_after (tried_to_receive (Ok x)) a b is less s = shorter a _ b x (still a.senders b.senders is s.0.1) s.0.0 s.0.2.0
  step_after (tried_to_receive (Err unreceived.Empty)) a b is less s = equal a _ b is s.2
  step_after (tried_to_receive (Err unreceived.Disconnected)) a b is less s = equal a _ b is s.2
  step_after (asked_to_send ticket x task sending.Sent) a b is less s = longer a _ b x (comes_none a.senders b.senders is ticket task (places a) Free s.1).0 s.2.0 refl s.2.2.0
  step_after (asked_to_send ticket x task (sending.Closed y)) a b is less s = same a _ b (leaves_none a.senders b.senders is ticket task s.2) s.3.0 s.3.2.0
  step_after (asked_to_send ticket x task (sending.Memory y)) a b is less s = same a _ b (elim s.2 [
    | inl free ↦ (comes_none a.senders b.senders is ticket task (places a) Free free).0
    | inr full ↦ absurd (unfit a less (comes_none a.senders full.0 is ticket task (places a) Full full.1.0).1)
  ]) s.3.0 s.3.2.0
  step_after (asked_to_send ticket x task (sending.Joined t y)) a b is less s = absurd (unfit a less (comes_none a.senders s.2.0 is ticket task (places a) Full s.2.1.0).1)
  step_after (asked_to_send ticket x task (sending.Waits y)) a b is less s = absurd (comes_none a.senders b.senders is ticket task (places a) Waits s.2).1
  step_after (asked_to_receive ticket task (receiving.Received x)) a b is less s = shorter a _ b x (still a.senders b.senders is s.0.1) s.0.0 s.0.2.0
  step_after (asked_to_receive ticket task receiving.Closed) a b is less s = same a _ b (still a.senders b.senders is s.3.1) s.3.0 s.3.2.0
  step_after (asked_to_receive ticket task receiving.Memory) a b is less s = same a _ b (still a.senders b.senders is s.2.1) s.2.0 s.2.2.0
  step_after (asked_to_receive ticket task (receiving.Joined t)) a b is less s = same a _ b (still a.senders b.senders is s.2.1) s.2.0 s.2.2.0
  step_after (asked_to_receive ticket task receiving.Waits) a b is less s = same a _ b (still a.senders b.senders is s.2.1) s.2.0 s.2.2.0
  step_after (gave_up_send ticket task) a b is less s = same a _ b (leaves_none a.senders b.senders is ticket task s.0) s.1.0 s.1.2.0
  step_after (gave_up_receive ticket task) a b is less s = same a _ b (still a.senders b.senders is s.1.1) s.1.0 s.1.2.0
  step_after closed a b is less s = same a _ b (still a.senders b.senders is s.1) (ap (λ q. q.items) s.0) s.3
  step_after (served_sender first) a b is less s = same a _ b (takes_none a.senders b.senders is a.is_closed (places a) first s.0) (ap (λ q. q.items) s.1) s.3.0
  step_after (served_receiver first) a b is less s = same a _ b (still a.senders b.senders is s.2) (ap (λ q. q.items) s.1) s.3.0

  run_after : (es : List (Event T)) (a b : Channel T) → HasNoSender a → length a.queue.items + length (sent es) < a.bound → Run a es b → HasNoSender b × (length b.queue.items < b.bound)
  run_after [] a b is less run = (
    still a.senders b.senders is (ap (λ c. c.senders) run),
    let h : length b.queue.items ≡ length a.queue.items = ap (λ c. length c.queue.items) run in
        let k : b.bound ≡ a.bound = ap (λ c. c.bound) run in
        omega (arith, h, k, less),
  )
  run_after (e ∷ es) a b is less (m, step, rest) =
      let h : length (sent_by e ++ sent es) ≡ length (sent_by e) + length (sent es) = length-append (sent_by e) (sent es) in
      let one = step_after e a m is (omega (arith, less, h)) step in
      run_after es m b one.none (omega (arith, less, h, one.count, one.bound)) rest

  never_if : (a c : Channel T) (x y : T) → HasNoSender a × (length a.queue.items < a.bound) → TriesToSend a x (Err (unsent.Full y)) c → ⊥
  never_if a c x y is s = omega (arith, is.0.1, ap length is.0.0, is.1, s.2)

pub never_full : (T : Type 0) → UnboundedIsNeverFull T
never_full T es a b c x y is less run =
    let at = run_after es a b is less run in (
      at.0,
      never_if b c x y at,
      λ ticket me t. (
        (λ s. unfit b at.1 (comes_none b.senders s.2.0 at.0 ticket me (places b) Full s.2.1.0).1),
        (λ s. (comes_none b.senders c.senders at.0 ticket me (places b) Waits s.2).1),
      ),
    )
