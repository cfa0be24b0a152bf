-- A pending future over a shared value stands in it with the running task, at its ticket.
use Rattle.std.specs.Prelude.{◌≡◌, ◌==◌, ◌&&◌, ◌||◌, MatchBool, ℕ, ⊤, Bool, true, false, List, [], ◌∷◌, ◌++◌, Option, Some, None, Ok}
use Rattle.std.proofs.Common.{inl, inr, cond, sym, ap, ◌∙◌, subst, refl, eq-eqb, nat_lt}
use Rattle.std.proofs.lemmas.Bool.Decides.{eqb_tells}
use Rattle.mono_model.specs.Tasks.{Tasks}
use Rattle.mono_model.specs.declared.poll.Poll.TheVariants.{Pending}
use Rattle.mono_sync.specs.Lines.{waits_at, holder_of, Fits, Collects, HasRoom, Marks, Comes, ComesOf, Joins}
use Rattle.mono_sync.specs.Messages as message
use Rattle.mono_sync.specs.Permits.{AcquirePolls}
use Rattle.mono_sync.specs.Notifications.{NotifiedPolls}
use Rattle.mono_sync.specs.Notices.{AwaitsFirst, AwaitsAgain, Awaits}
use Rattle.mono_sync.specs.Changes.{ChangedPolls}
use Rattle.mono_sync.specs.Deliveries as delivery
use Rattle.mono_sync.specs.declared.lines.Waiter.{Waiter}
use Rattle.mono_sync.specs.declared.lines.Line.{Line}
use Rattle.mono_sync.specs.declared.lines.Coming.TheVariants.{Waits}
use Rattle.mono_sync.specs.declared.mpsc.Channel.{Channel}
use Rattle.mono_sync.specs.declared.semaphores.Semaphore.{Semaphore}
use Rattle.mono_sync.specs.declared.notices.Notify.{Notify}
use Rattle.mono_sync.specs.declared.notices.Notifying.TheVariants as notifying
use Rattle.mono_sync.specs.declared.watch.Watch.{Watch}
use Rattle.mono_sync.specs.declared.watch.Changing.TheVariants as changing
use Rattle.mono_sync.specs.WaitsFor.{WaitsIf, WaitForPolls}
use Rattle.mono_sync.specs.declared.oneshot.Oneshot.{Oneshot}

pub false-true : false ≡ true → ⊥
false-true e = cc

pub none-some : (t : ℕ) → None ≡ Some t → ⊥
none-some t e = cc

pub same_some : (i j : ℕ) → Some i ≡ Some j → i ≡ j
same_some i j e = cc

pub same_number : (u t : ℕ) → (u == t) ≡ true → u ≡ t
same_number u t is = elim (eqb_tells u t) [ inl here ↦ here.1 | inr apart ↦ absurd (false-true (sym apart.0 ∙ is)) ]

pub or_right : (a b : Bool) → b ≡ true → (a || b) ≡ true
or_right true b is = refl
or_right false b is = is

pub or_left : (a b : Bool) → a ≡ true → (a || b) ≡ true
or_left a b is = ap (λ x. x || b) is

pub both : (a b : Bool) → a ≡ true → b ≡ true → (a && b) ≡ true
both a b p q = ap (λ x. x && b) p ∙ q

-- the task of the future with a ticket
holder_waits : (ws : List Waiter) (k t : ℕ) → holder_of ws k ≡ Some t → waits_at ws k t ≡ true
holder_waits [] k t is = absurd (none-some t is)
holder_waits (w ∷ ws) k t is = by_first (w.ticket == k) is (holder_waits ws k t)
  where
    by_first : (b : Bool) → cond b (Some w.task) (holder_of ws k) ≡ Some t → (holder_of ws k ≡ Some t → waits_at ws k t ≡ true) → ((b && (w.task == t)) || waits_at ws k t) ≡ true
    by_first true holds later = or_left (w.task == t) _ (eq-eqb w.task t (same_some w.task t holds))
    by_first false holds later = later holds

-- a task at the end of the line
last_waits : (ws : List Waiter) (w : Waiter) (k t : ℕ) → w.ticket ≡ k → w.task ≡ t → waits_at (ws ++ w ∷ []) k t ≡ true
last_waits [] w k t at is = or_left ((w.ticket == k) && (w.task == t)) false (both (w.ticket == k) (w.task == t) (eq-eqb w.ticket k at) (eq-eqb w.task t is))
last_waits (v ∷ ws) w k t at is = or_right ((v.ticket == k) && (v.task == t)) _ (last_waits ws w k t at is)

-- The future has a ticket, and this task stands in the line with it.
abbrev pub StandsIn : Line → Option ℕ → ℕ → Type 0
StandsIn a ticket task = (k : ℕ) × (ticket ≡ Some k) × (waits_at a.waiters.items k task ≡ true)

-- this is its only ticket
pub stands_at : (a : Line) (ticket : Option ℕ) (task : ℕ) → StandsIn a ticket task → (k : ℕ) → ticket ≡ Some k → waits_at a.waiters.items k task ≡ true
stands_at a ticket task (n, at, waits) k is = subst (λ m. waits_at a.waiters.items m task ≡ true) (same_some n k (sym at ∙ is)) waits

module _ (a b : Line) (task room : ℕ) where
  comes_if : (k u : ℕ) (c : Bool) → (u == task) ≡ c → holder_of a.waiters.items k ≡ Some u → MatchBool c ((Waits ≡ Waits) × (b ≡ a)) (HasRoom b room Waits × Marks a k u b) → waits_at b.waiters.items k task ≡ true
  comes_if k u true is holds p = ap (λ l. waits_at l.waiters.items k task) p.1 ∙ holder_waits a.waiters.items k task (holds ∙ ap Some (same_number u task is))
  comes_if k u false is holds p = absurd p.0

  comes_gone : (k : ℕ) (c : Bool) → MatchBool c (Fits b.granted room Waits × Collects a b) (HasRoom b room Waits × (b ≡ a)) → waits_at b.waiters.items k task ≡ true
  comes_gone k true p = absurd p.0
  comes_gone k false p = absurd p.0

  comes_of : (k : ℕ) (o : Option ℕ) → holder_of a.waiters.items k ≡ o → ComesOf o a k task room Waits b → waits_at b.waiters.items k task ≡ true
  comes_of k None holds p = comes_gone k (nat_lt k a.next) p
  comes_of k (Some u) holds p = comes_if k u (u == task) refl holds p

  -- a future that waits still
  pub comes_waits : (ticket left : Option ℕ) → left ≡ ticket → Comes a ticket task room Waits b → StandsIn b left task
  comes_waits None left same p = absurd p.0
  comes_waits (Some k) left same p = (k, same, comes_of k (holder_of a.waiters.items k) refl p)

-- a future that waits from now on
pub joins_waits : (a b : Line) (task t : ℕ) (left : Option ℕ) → left ≡ Some t → Joins a task (Ok t) b → StandsIn b left task
joins_waits a b task t left same p =
    (t, same, ap (λ ws. waits_at ws t task) p.1 ∙ last_waits a.waiters.items (record { ticket = a.next; task = task; has_left = false }) t task (sym p.0) refl)

module _ {T C : Type 0} (part : C → Channel T) (number : C → ℕ) (work : C → Tasks ⊤) where
  pub send_stands : (m : Option T) (ticket : Option ℕ) (c : C) (kept : Option T) (left : Option ℕ) (d : C) → message.SendPolls part number work m ticket c Pending kept left d → StandsIn (part d).senders left (number c)
  send_stands None ticket c kept left d p = absurd p
  send_stands (Some x) ticket c kept left d (inl p) = comes_waits (part c).senders (part d).senders (number c) _ ticket left p.1 p.2.2
  send_stands (Some x) ticket c kept left d (inr (t, p)) = joins_waits p.2.2.0 (part d).senders (number c) t left p.1 p.2.2.1.1

  pub recv_stands : (ticket : Option ℕ) (c : C) (left : Option ℕ) (d : C) → message.RecvPolls part number work ticket c Pending left d → StandsIn (part d).receivers left (number c)
  recv_stands ticket c left d (inl p) = comes_waits (part c).receivers (part d).receivers (number c) _ ticket left p.0 p.1.1
  recv_stands ticket c left d (inr (t, p)) = joins_waits p.1.1.0 (part d).receivers (number c) t left p.0 p.1.1.1.1

awaits_if : (a b : Notify) (k task : ℕ) (left : Option ℕ) (c : Bool) → left ≡ Some k → MatchBool c (AwaitsAgain a k task notifying.Waits b) (AwaitsFirst a task notifying.Waits b) → StandsIn b.line left task
awaits_if a b k task left true same p = comes_waits a.line b.line task 1 (Some k) left same p.0
awaits_if a b k task left false same p = absurd p

pub awaits_stands : (a b : Notify) (ticket left : Option ℕ) (task : ℕ) → left ≡ ticket → Awaits a ticket task notifying.Waits b → StandsIn b.line left task
awaits_stands a b None left task same p = absurd p
awaits_stands a b (Some k) left task same p = awaits_if a b k task left (nat_lt k a.line.next) same p

joins_if : (a b : Notify) (k task u : ℕ) (left : Option ℕ) (c : Bool) → left ≡ Some u → MatchBool c (AwaitsAgain a k task (notifying.Joined u) b) (AwaitsFirst a task (notifying.Joined u) b) → StandsIn b.line left task
joins_if a b k task u left true same p = joins_waits p.0.0 b.line task u left same p.0.1.2
joins_if a b k task u left false same p = joins_waits a.line b.line task u left same p.1

pub joins_stands : (a b : Notify) (ticket left : Option ℕ) (task u : ℕ) → left ≡ Some u → Awaits a ticket task (notifying.Joined u) b → StandsIn b.line left task
joins_stands a b None left task u same p = joins_waits a.line b.line task u left same p.1
joins_stands a b (Some k) left task u same p = joins_if a b k task u left (nat_lt k a.line.next) same p

module _ {C : Type 0} (number : C → ℕ) (work : C → Tasks ⊤) where
  pub acquire_stands : (part : C → Semaphore) (ticket : Option ℕ) (c : C) (left : Option ℕ) (d : C) → AcquirePolls part number work ticket c Pending left d → StandsIn (part d).line left (number c)
  acquire_stands part ticket c left d (inl p) = comes_waits (part c).line (part d).line (number c) _ ticket left p.0 p.1.1
  acquire_stands part ticket c left d (inr (t, p)) = joins_waits p.1.1.0 (part d).line (number c) t left p.0 p.1.1.1.1

  pub notified_stands : (part : C → Notify) (ticket : Option ℕ) (c : C) (left : Option ℕ) (d : C) → NotifiedPolls part number work ticket c Pending left d → StandsIn (part d).line left (number c)
  notified_stands part ticket c left d (inl p) = awaits_stands (part c) (part d) ticket left (number c) p.0 p.1
  notified_stands part ticket c left d (inr (t, p)) = joins_stands (part c) (part d) ticket left (number c) t p.0 p.1

  pub changed_stands : {T : Type 0} (part : C → Watch T) (seen : ℕ) (ticket : Option ℕ) (c : C) (left : Option ℕ) (d : C) → ChangedPolls part number work seen ticket c Pending left d → StandsIn (part d).line left (number c)
  changed_stands part seen ticket c left d (inl p) = comes_waits (part c).line (part d).line (number c) _ ticket left p.0 p.1.2
  changed_stands part seen ticket c left d (inr (t, p)) = joins_waits p.1.2.0 (part d).line (number c) t left p.0 p.1.2.1.1

  pub delivery_stands : {T : Type 0} (part : C → Oneshot T) (ticket : Option ℕ) (c : C) (left : Option ℕ) (d : C) → delivery.RecvPolls part number work ticket c Pending left d → StandsIn (part d).line left (number c)
  delivery_stands part ticket c left d (inl p) = comes_waits (part c).line (part d).line (number c) _ ticket left p.0 p.1.1
  delivery_stands part ticket c left d (inr (t, p)) = joins_waits p.1.1.0 (part d).line (number c) t left p.0 p.1.1.1.2

waits-changed : (v : ℕ) → changing.Waits ≡ changing.Changed v → ⊥
waits-changed v e = cc

joined-changed : (t v : ℕ) → changing.Joined t ≡ changing.Changed v → ⊥
joined-changed t v e = cc

-- a future that waits until a watched value meets a condition
module _ {T C : Type 0} (part : C → Watch T) (number : C → ℕ) (work : C → Tasks ⊤) (says : T → Bool → Type 0) where
  still_if : (meets : Bool) (ticket : Option ℕ) (c : C) (left : Option ℕ) (d : C) → left ≡ ticket → WaitsIf meets (part c) ticket (number c) changing.Waits (part d) → StandsIn (part d).line left (number c)
  still_if true ticket c left d same q = absurd (waits-changed (part c).version q.0)
  still_if false ticket c left d same q = comes_waits (part c).line (part d).line (number c) _ ticket left same q.2

  anew_if : (meets : Bool) (ticket : Option ℕ) (c : C) (left : Option ℕ) (d : C) (t : ℕ) → left ≡ Some t → WaitsIf meets (part c) ticket (number c) (changing.Joined t) (part d) → StandsIn (part d).line left (number c)
  anew_if true ticket c left d t same q = absurd (joined-changed t (part c).version q.0)
  anew_if false ticket c left d t same q = joins_waits q.2.0 (part d).line (number c) t left same q.2.1.1

  pub wait_for_stands : (ticket : Option ℕ) (c : C) (left : Option ℕ) (d : C) → WaitForPolls part number work says ticket c Pending left d → StandsIn (part d).line left (number c)
  wait_for_stands ticket c left d (inl p) = still_if p.1.0 ticket c left d p.0 p.1.1.1
  wait_for_stands ticket c left d (inr (t, p)) = anew_if p.1.0 ticket c left d t p.0 p.1.1.1
