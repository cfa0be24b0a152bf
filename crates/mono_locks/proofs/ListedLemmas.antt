-- A pending future is listed at its ticket.
use Rattle.std.proofs.Common.{◌≡◌, ◌==◌, ◌&&◌, ℕ, Bool, true, false, cond, MatchBool, List, [], ◌∷◌, ◌++◌, Option, Some, None, Ok, refl, sym, ap, subst, ◌∙◌, eq-eqb}
use Rattle.mono_locks.specs.declared.queues.Entry.{Entry}
use Rattle.mono_locks.specs.declared.queues.Queue.{Queue}
use Rattle.mono_locks.specs.declared.queues.Coming.TheVariants.{Waits}
use Rattle.mono_locks.specs.Queues.{waits_at, holder_of, has_room, Fits, Comes, ComesOf, Marks, Joins}
use Rattle.mono_locks.proofs.WaitLemmas.{same, same_some, or_left, or_right}

both : (a b : Bool) → a ≡ true → b ≡ true → (a && b) ≡ true
both a b p q = ap (λ x. x && b) p ∙ q

none-some : (i : ℕ) → None ≡ Some i → ⊥
none-some i e = cc

holder_if : (b : Bool) (w : Entry) (ws : List Entry) (k u : ℕ) → (w.ticket == k) ≡ b → cond b (Some w.task) (holder_of ws k) ≡ Some u → (holder_of ws k ≡ Some u → waits_at ws k u ≡ true) → waits_at (w ∷ ws) k u ≡ true
holder_if true w ws k u is holds rest = or_left ((w.ticket == k) && (w.task == u)) (waits_at ws k u) (both (w.ticket == k) (w.task == u) is (eq-eqb w.task u (same_some w.task u holds)))
holder_if false w ws k u is holds rest = or_right ((w.ticket == k) && (w.task == u)) (waits_at ws k u) (rest holds)

holder_waits : (ws : List Entry) (k u : ℕ) → holder_of ws k ≡ Some u → waits_at ws k u ≡ true
holder_waits [] k u holds = absurd (none-some u holds)
holder_waits (w ∷ ws) k u holds = holder_if (w.ticket == k) w ws k u refl holds (holder_waits ws k u)

module _ (a b : Queue) (k me n room : ℕ) where
  comes_if : (u : ℕ) (c : Bool) → (u == me) ≡ c → holder_of a.waiters.items k ≡ Some u → MatchBool c ((Waits ≡ Waits) × (b ≡ a)) (Fits (has_room b n room) Waits × Marks a k u b) → waits_at b.waiters.items k me ≡ true
  comes_if u true is holds p = ap (λ l. waits_at l.waiters.items k me) p.1 ∙ subst (λ n. waits_at a.waiters.items k n ≡ true) (same u me is) (holder_waits a.waiters.items k u holds)
  comes_if u false is holds p = absurd p.0

  comes_of : (o : Option ℕ) → holder_of a.waiters.items k ≡ o → ComesOf o a k me n room Waits b → waits_at b.waiters.items k me ≡ true
  comes_of None holds p = absurd p.0
  comes_of (Some u) holds p = comes_if u (u == me) refl holds p

  pub comes_listed : Comes a (Some k) me n room Waits b → waits_at b.waiters.items k me ≡ true
  comes_listed p = comes_of (holder_of a.waiters.items k) refl p

last_waits : (ws : List Entry) (k me n : ℕ) → waits_at (ws ++ record { ticket = k; task = me; amount = n } ∷ []) k me ≡ true
last_waits [] k me n = or_left ((k == k) && (me == me)) false (both (k == k) (me == me) (eq-eqb k k refl) (eq-eqb me me refl))
last_waits (w ∷ ws) k me n = or_right ((w.ticket == k) && (w.task == me)) _ (last_waits ws k me n)

pub joins_listed : (l b : Queue) (me n k : ℕ) → Joins l me n (Ok k) b → waits_at b.waiters.items k me ≡ true
joins_listed l b me n k p = ap (λ ws. waits_at ws k me) (p.1 ∙ ap (λ m. l.waiters.items ++ record { ticket = m; task = me; amount = n } ∷ []) (sym p.0)) ∙ last_waits l.waiters.items k me n
