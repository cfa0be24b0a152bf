-- A pending future over one of many parts stands in that part with the running task, at its ticket.
use Rattle.std.specs.Prelude.{◌≡◌, ℕ, zero, suc, ⊤, Bool, true, false, List, [], ◌∷◌, ◌++◌, Option, Some, None}
use Rattle.std.proofs.Common.{inl, inr, sym, ap, ◌∙◌, subst, refl}
use Rattle.mono_model.specs.Tasks.{Tasks}
use Rattle.mono_model.specs.Table.{Table, value_at, with_value}
use Rattle.mono_model.specs.declared.poll.Poll.TheVariants.{Pending}
use Rattle.mono_sync.specs.declared.mpsc.Channel.{Channel}
use Rattle.mono_sync.specs.declared.mpsc.Sending.TheVariants as sending
use Rattle.mono_sync.specs.declared.mpsc.Receiving as received
use Rattle.mono_sync.specs.declared.mpsc.Receiving.TheVariants as receiving
use Rattle.mono_sync.specs.declared.semaphores.Semaphore.{Semaphore}
use Rattle.mono_sync.specs.declared.semaphores.Acquiring.TheVariants as acquiring
use Rattle.mono_sync.specs.declared.notices.Notify.{Notify}
use Rattle.mono_sync.specs.declared.notices.Notifying.TheVariants as notifying
use Rattle.mono_sync.specs.declared.watch.Watch.{Watch}
use Rattle.mono_sync.specs.declared.watch.Changing.TheVariants as changing
use Rattle.mono_sync.specs.declared.oneshot.Oneshot.{Oneshot}
use Rattle.mono_sync.specs.declared.oneshot.Receiving as delivered
use Rattle.mono_sync.specs.declared.oneshot.Receiving.TheVariants as delivering
use Rattle.mono_sync.specs.Mpsc as channel
use Rattle.mono_sync.specs.Semaphores as semaphore
use Rattle.mono_sync.specs.Notices as notice
use Rattle.mono_sync.specs.Watches as watch
use Rattle.mono_sync.specs.Oneshot as oneshot
use Rattle.mono_sync.specs.Many.{At, lists_each}
use Rattle.mono_sync.specs.ManyLeads.{each_lists}
use Rattle.mono_sync.specs.KeyedCalls.{AtOr}
use Rattle.mono_sync.specs.KeyedMessages as message
use Rattle.mono_sync.specs.KeyedPermits.{AcquireAtPolls}
use Rattle.mono_sync.specs.KeyedNotices.{NotifiedAtPolls}
use Rattle.mono_sync.specs.KeyedChanges.{ChangedAtPolls}
use Rattle.mono_sync.specs.KeyedDeliveries as delivery
use Rattle.mono_wait.specs.ListedTasks.{comes_waits, joins_waits, awaits_stands, joins_stands}

none-some : {X : Type 0} (x : X) → None ≡ Some x → ⊥
none-some x e = cc

same_some : (i j : ℕ) → Some i ≡ Some j → i ≡ j
same_some i j e = cc

value_with : {X : Type 0} (xs : Table X) (k : ℕ) (x y : X) → value_at xs k ≡ Some x → value_at (with_value xs k y) k ≡ Some y
value_with [] k x y at = absurd (none-some x at)
value_with (z ∷ zs) zero x y at = refl
value_with (z ∷ zs) (suc k) x y at = value_with zs k x y at

module _ {X : Type 0} (lists : X → List ℕ → ℕ → Bool) where
  -- The future has a ticket, and the table lists this task under the key, at this ticket of a line of the part.
  abbrev pub StandsAt : Table X → ℕ → List ℕ → Option ℕ → ℕ → Type 0
  StandsAt a key line ticket task = (k : ℕ) × (ticket ≡ Some k) × (lists_each lists a ((key ∷ line) ++ k ∷ []) task ≡ true)

  -- the future stands in the part after a call on it
  abbrev Stands : X → List ℕ → Option ℕ → ℕ → Type 0
  Stands y line ticket task = (k : ℕ) × (ticket ≡ Some k) × (lists y (line ++ k ∷ []) task ≡ true)

  module _ (key : ℕ) (a b : Table X) (line : List ℕ) (left : Option ℕ) (task : ℕ) where
    at_stands : (R : X → X → Type 0) → At R key a b → ((x y : X) → R x y → Stands y line left task) → StandsAt b key line left task
    at_stands R (x, y, at, does, is) stands =
        let s = stands x y does in
        (s.0, s.1, each_lists lists b key y (line ++ s.0 ∷ []) task (ap (λ t. value_at t key) is ∙ value_with a key x y at) s.2)

    call_stands : (R : X → X → Type 0) (Missing : Type 0) → AtOr R Missing key a b → (Missing → ⊥) → ((x y : X) → R x y → Stands y line left task) → StandsAt b key line left task
    call_stands R Missing (inl call) none stands = at_stands R call stands
    call_stands R Missing (inr call) none stands = absurd (none call.1)

  -- the future keeps its key
  pub keeps_key : (a : Table X) (old new : ℕ) (line : List ℕ) (ticket : Option ℕ) (task : ℕ) → new ≡ old → StandsAt a old line ticket task → StandsAt a new line ticket task
  keeps_key a old new line ticket task same s = subst (λ n. StandsAt a n line ticket task) (sym same) s

  -- this is its only ticket, and it keeps its key
  pub only_at : (a : Table X) (old new : ℕ) (line : List ℕ) (ticket : Option ℕ) (task : ℕ) → new ≡ old → StandsAt a old line ticket task → (k : ℕ) → ticket ≡ Some k → lists_each lists a ((new ∷ line) ++ k ∷ []) task ≡ true
  only_at a old new line ticket task same s k is =
      subst (λ n. lists_each lists a ((n ∷ line) ++ k ∷ []) task ≡ true) (sym same) (subst (λ m. lists_each lists a ((old ∷ line) ++ m ∷ []) task ≡ true) (same_some s.0 k (sym s.1 ∙ is)) s.2)

module _ {T C : Type 0} (table : C → Table (Channel T)) (number : C → ℕ) (work : C → Tasks ⊤) (key : ℕ) where
  send-waits : (x y : T) → sending.Waits y ≡ sending.Closed x → ⊥
  send-waits x y e = cc

  send-joins : (t : ℕ) (x y : T) → sending.Joined t y ≡ sending.Closed x → ⊥
  send-joins t x y e = cc

  recv-waits : ◌≡◌ {A = received.Receiving T} receiving.Waits receiving.Closed → ⊥
  recv-waits e = cc

  recv-joins : (t : ℕ) → ◌≡◌ {A = received.Receiving T} (receiving.Joined t) receiving.Closed → ⊥
  recv-joins t e = cc

  pub send_at_stands : (m : Option T) (ticket : Option ℕ) (c : C) (kept : Option T) (left : Option ℕ) (d : C) → message.SendAtPolls table number work key m ticket c Pending kept left d → StandsAt channel.listed_by (table d) key (zero ∷ []) left (number c)
  send_at_stands None ticket c kept left d p = absurd p
  send_at_stands (Some x) ticket c kept left d (inl p) =
      call_stands channel.listed_by key (table c) (table d) (zero ∷ []) left (number c) _ _ p.2 (send-waits x x) (λ v w s. comes_waits v.senders w.senders (number c) (channel.places v) ticket left p.1 s.2)
  send_at_stands (Some x) ticket c kept left d (inr (t, p)) =
      call_stands channel.listed_by key (table c) (table d) (zero ∷ []) left (number c) _ _ p.2 (send-joins t x x) (λ v w s. joins_waits s.2.0 w.senders (number c) t left p.1 s.2.1.1)

  pub recv_at_stands : (ticket : Option ℕ) (c : C) (left : Option ℕ) (d : C) → message.RecvAtPolls table number work key ticket c Pending left d → StandsAt channel.listed_by (table d) key (suc zero ∷ []) left (number c)
  recv_at_stands ticket c left d (inl p) =
      call_stands channel.listed_by key (table c) (table d) (suc zero ∷ []) left (number c) _ _ p.1 recv-waits (λ v w s. comes_waits v.receivers w.receivers (number c) _ ticket left p.0 s.1)
  recv_at_stands ticket c left d (inr (t, p)) =
      call_stands channel.listed_by key (table c) (table d) (suc zero ∷ []) left (number c) _ _ p.1 (recv-joins t) (λ v w s. joins_waits s.1.0 w.receivers (number c) t left p.0 s.1.1.1)

acquire-waits : acquiring.Waits ≡ acquiring.Closed → ⊥
acquire-waits e = cc

acquire-joins : (t : ℕ) → acquiring.Joined t ≡ acquiring.Closed → ⊥
acquire-joins t e = cc

change-waits : changing.Waits ≡ changing.Closed → ⊥
change-waits e = cc

change-joins : (t : ℕ) → changing.Joined t ≡ changing.Closed → ⊥
change-joins t e = cc

module _ {C : Type 0} (number : C → ℕ) (work : C → Tasks ⊤) (key : ℕ) where
  pub acquire_at_stands : (table : C → Table Semaphore) (ticket : Option ℕ) (c : C) (left : Option ℕ) (d : C) → AcquireAtPolls table number work key ticket c Pending left d → StandsAt semaphore.listed_by (table d) key [] left (number c)
  acquire_at_stands table ticket c left d (inl p) =
      call_stands semaphore.listed_by key (table c) (table d) [] left (number c) _ _ p.1 acquire-waits (λ v w s. comes_waits v.line w.line (number c) v.available ticket left p.0 s.1)
  acquire_at_stands table ticket c left d (inr (t, p)) =
      call_stands semaphore.listed_by key (table c) (table d) [] left (number c) _ _ p.1 (acquire-joins t) (λ v w s. joins_waits s.1.0 w.line (number c) t left p.0 s.1.1.1)

  pub notified_at_stands : (table : C → Table Notify) (ticket : Option ℕ) (c : C) (left : Option ℕ) (d : C) → NotifiedAtPolls table number work key ticket c Pending left d → StandsAt notice.listed_by (table d) key [] left (number c)
  notified_at_stands table ticket c left d (inl p) =
      at_stands notice.listed_by key (table c) (table d) [] left (number c) _ p.1 (λ v w s. awaits_stands v w ticket left (number c) p.0 s)
  notified_at_stands table ticket c left d (inr (t, p)) =
      at_stands notice.listed_by key (table c) (table d) [] left (number c) _ p.1 (λ v w s. joins_stands v w ticket left (number c) t p.0 s)

  pub changed_at_stands : {T : Type 0} (table : C → Table (Watch T)) (seen : ℕ) (ticket : Option ℕ) (c : C) (left : Option ℕ) (d : C) → ChangedAtPolls table number work key seen ticket c Pending left d → StandsAt watch.listed_by (table d) key [] left (number c)
  changed_at_stands table seen ticket c left d (inl p) =
      call_stands watch.listed_by key (table c) (table d) [] left (number c) _ _ p.1 change-waits (λ v w s. comes_waits v.line w.line (number c) 0 ticket left p.0 s.2)
  changed_at_stands table seen ticket c left d (inr (t, p)) =
      call_stands watch.listed_by key (table c) (table d) [] left (number c) _ _ p.1 (change-joins t) (λ v w s. joins_waits s.2.0 w.line (number c) t left p.0 s.2.1.1)

module _ {T C : Type 0} (table : C → Table (Oneshot T)) (number : C → ℕ) (work : C → Tasks ⊤) (key : ℕ) where
  deliver-waits : ◌≡◌ {A = delivered.Receiving T} delivering.Waits delivering.Closed → ⊥
  deliver-waits e = cc

  deliver-joins : (t : ℕ) → ◌≡◌ {A = delivered.Receiving T} (delivering.Joined t) delivering.Closed → ⊥
  deliver-joins t e = cc

  pub deliver_at_stands : (ticket : Option ℕ) (c : C) (left : Option ℕ) (d : C) → delivery.RecvAtPolls table number work key ticket c Pending left d → StandsAt oneshot.listed_by (table d) key [] left (number c)
  deliver_at_stands ticket c left d (inl p) = subst (λ b. StandsAt oneshot.listed_by b key [] left (number c)) (sym p.1.2)
      (call_stands oneshot.listed_by key (table c) p.1.0 [] left (number c) _ _ p.1.1 deliver-waits (λ v w s. comes_waits v.line w.line (number c) _ ticket left p.0 s.1))
  deliver_at_stands ticket c left d (inr (t, p)) = subst (λ b. StandsAt oneshot.listed_by b key [] left (number c)) (sym p.1.2)
      (call_stands oneshot.listed_by key (table c) p.1.0 [] left (number c) _ _ p.1.1 (deliver-joins t) (λ v w s. joins_waits s.1.0 w.line (number c) t left p.0 s.1.1.2))
