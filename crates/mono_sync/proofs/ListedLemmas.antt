-- A pending future is listed at its ticket.
use Rattle.std.proofs.Common.{◌≡◌, ◌==◌, ◌&&◌, ℕ, Bool, true, false, cond, MatchBool, List, [], ◌∷◌, ◌++◌, Option, Some, None, Ok, refl, sym, ap, subst, ◌∙◌, eq-eqb, nat_lt}
use Rattle.mono_sync.specs.declared.lines.Waiter.{Waiter}
use Rattle.mono_sync.specs.declared.lines.Line.{Line}
use Rattle.mono_sync.specs.declared.lines.Coming.TheVariants.{Waits}
use Rattle.mono_sync.specs.declared.notices.Notify.{Notify}
use Rattle.mono_sync.specs.declared.notices.Notifying.TheVariants as notifying
use Rattle.mono_sync.specs.Lines.{waits_at, holder_of, Fits, Collects, HasRoom, Comes, ComesOf, Marks, Joins}
use Rattle.mono_sync.specs.Notices.{AwaitsFirst, AwaitsAgain, Awaits}
use Rattle.mono_sync.specs.WaitLaws.{PendingIsListed, PendingSenderIsListed, PendingReceiverIsListed, PendingDeliveryIsListed, PendingNoticeIsListed, PendingChangeIsListed}
use Rattle.mono_sync.proofs.WaitLemmas.{same, same_some, or_left, or_right}

both : (a b : Bool) → a ≡ true → b ≡ true → (a && b) ≡ true
both a b p q = ap (λ x. x && b) p ∙ q

none-some : (i : ℕ) → None ≡ Some i → ⊥
none-some i e = cc

holder_if : (b : Bool) (w : Waiter) (ws : List Waiter) (k u : ℕ) → (w.ticket == k) ≡ b → cond b (Some w.task) (holder_of ws k) ≡ Some u → (holder_of ws k ≡ Some u → waits_at ws k u ≡ true) → waits_at (w ∷ ws) k u ≡ true
holder_if true w ws k u is holds rest = or_left ((w.ticket == k) && (w.task == u)) (waits_at ws k u) (both (w.ticket == k) (w.task == u) is (eq-eqb w.task u (same_some w.task u holds)))
holder_if false w ws k u is holds rest = or_right ((w.ticket == k) && (w.task == u)) (waits_at ws k u) (rest holds)

holder_waits : (ws : List Waiter) (k u : ℕ) → holder_of ws k ≡ Some u → waits_at ws k u ≡ true
holder_waits [] k u holds = absurd (none-some u holds)
holder_waits (w ∷ ws) k u holds = holder_if (w.ticket == k) w ws k u refl holds (holder_waits ws k u)

module _ (a b : Line) (k me room : ℕ) where
  comes_if : (u : ℕ) (c : Bool) → (u == me) ≡ c → holder_of a.waiters.items k ≡ Some u → MatchBool c ((Waits ≡ Waits) × (b ≡ a)) (HasRoom b room Waits × Marks a k u b) → waits_at b.waiters.items k me ≡ true
  comes_if u true is holds p = ap (λ l. waits_at l.waiters.items k me) p.1 ∙ subst (λ n. waits_at a.waiters.items k n ≡ true) (same u me is) (holder_waits a.waiters.items k u holds)
  comes_if u false is holds p = absurd p.0

  comes_gone : (c : Bool) → MatchBool c (Fits b.granted room Waits × Collects a b) (HasRoom b room Waits × (b ≡ a)) → waits_at b.waiters.items k me ≡ true
  comes_gone true p = absurd p.0
  comes_gone false p = absurd p.0

  comes_of : (o : Option ℕ) → holder_of a.waiters.items k ≡ o → ComesOf o a k me room Waits b → waits_at b.waiters.items k me ≡ true
  comes_of None holds p = comes_gone (nat_lt k a.next) p
  comes_of (Some u) holds p = comes_if u (u == me) refl holds p

  comes_listed : Comes a (Some k) me room Waits b → waits_at b.waiters.items k me ≡ true
  comes_listed p = comes_of (holder_of a.waiters.items k) refl p

last_waits : (ws : List Waiter) (k me : ℕ) → waits_at (ws ++ record { ticket = k; task = me; has_left = false } ∷ []) k me ≡ true
last_waits [] k me = or_left ((k == k) && (me == me)) false (both (k == k) (me == me) (eq-eqb k k refl) (eq-eqb me me refl))
last_waits (w ∷ ws) k me = or_right ((w.ticket == k) && (w.task == me)) _ (last_waits ws k me)

joins_listed : (l b : Line) (me k : ℕ) → Joins l me (Ok k) b → waits_at b.waiters.items k me ≡ true
joins_listed l b me k p = ap (λ ws. waits_at ws k me) (p.1 ∙ ap (λ n. l.waiters.items ++ record { ticket = n; task = me; has_left = false } ∷ []) (sym p.0)) ∙ last_waits l.waiters.items k me

pub permit_listed : PendingIsListed
permit_listed a b ticket me k = ((λ p. comes_listed a.line b.line k me a.available p.1), (λ p. joins_listed p.1.0 b.line me k p.1.1.1))

pub sender_listed : (T : Type 0) → PendingSenderIsListed T
sender_listed T a b ticket x y me k = ((λ p. comes_listed a.senders b.senders k me _ p.2), (λ p. joins_listed p.2.0 b.senders me k p.2.1.1))

pub receiver_listed : (T : Type 0) → PendingReceiverIsListed T
receiver_listed T a b ticket me k = ((λ p. comes_listed a.receivers b.receivers k me _ p.1), (λ p. joins_listed p.1.0 b.receivers me k p.1.1.1))

pub delivery_listed : (T : Type 0) → PendingDeliveryIsListed T
delivery_listed T a b ticket me k = ((λ p. comes_listed a.line b.line k me _ p.1), (λ p. joins_listed p.1.0 b.line me k p.1.1.2))

notice_joined : (a b : Notify) (ticket : Option ℕ) (me k : ℕ) → Awaits a ticket me (notifying.Joined k) b → waits_at b.line.waiters.items k me ≡ true
notice_joined a b None me k p = joins_listed a.line b.line me k p.1
notice_joined a b (Some t) me k p = joined_if (nat_lt t a.line.next) p
  where
    joined_if : (c : Bool) → MatchBool c (AwaitsAgain a t me (notifying.Joined k) b) (AwaitsFirst a me (notifying.Joined k) b) → waits_at b.line.waiters.items k me ≡ true
    joined_if true q = joins_listed q.0.0 b.line me k q.0.1.2
    joined_if false q = joins_listed a.line b.line me k q.1

notice_waits : (a b : Notify) (me k : ℕ) (c : Bool) → MatchBool c (AwaitsAgain a k me notifying.Waits b) (AwaitsFirst a me notifying.Waits b) → waits_at b.line.waiters.items k me ≡ true
notice_waits a b me k true p = comes_listed a.line b.line k me 1 p.0
notice_waits a b me k false p = absurd p

pub notice_listed : PendingNoticeIsListed
notice_listed a b ticket me k = ((λ p. notice_waits a b me k (nat_lt k a.line.next) p), (λ p. notice_joined a b ticket me k p))

pub change_listed : (T : Type 0) → PendingChangeIsListed T
change_listed T a b seen ticket me k = ((λ p. comes_listed a.line b.line k me 0 p.2), (λ p. joins_listed p.2.0 b.line me k p.2.1.1))
