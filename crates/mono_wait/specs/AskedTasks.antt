-- A pending future over a lock, a barrier, a cell or a broadcast is in its queue with the running task, at its ticket.
use Rattle.std.specs.Prelude.{◌≡◌, ◌==◌, ◌&&◌, ◌||◌, MatchBool, ℕ, ⊤, Bool, true, false, List, [], ◌∷◌, ◌++◌, Option, Some, None, Ok}
use Rattle.std.proofs.Common.{inl, inr, cond, sym, ap, ◌∙◌, refl, eq-eqb}
use Rattle.mono_model.specs.Tasks.{Tasks}
use Rattle.mono_model.specs.declared.poll.Poll.TheVariants.{Pending}
use Rattle.mono_locks.specs.declared.queues.Coming.TheVariants.{Waits, Full}
use Rattle.mono_locks.specs.declared.queues.Asked.{Asked}
use Rattle.mono_locks.specs.declared.queues.Asked.TheVariants as asked
use Rattle.mono_locks.specs.declared.queues.Entry.{Entry}
use Rattle.mono_locks.specs.declared.queues.Queue.{Queue}
use Rattle.mono_locks.specs.declared.barrier.Barrier.{Barrier}
use Rattle.mono_locks.specs.declared.barrier.BarrierWaitResult.{BarrierWaitResult}
use Rattle.mono_locks.specs.declared.broadcast.Broadcast.{Broadcast}
use Rattle.mono_locks.specs.declared.broadcast.Received.{Received}
use Rattle.mono_locks.specs.declared.mutex.Mutex.{Mutex}
use Rattle.mono_locks.specs.declared.mutex.MutexGuard.{MutexGuard}
use Rattle.mono_locks.specs.declared.once_cell.Init.{Init}
use Rattle.mono_locks.specs.declared.once_cell.Init.TheVariants as init
use Rattle.mono_locks.specs.declared.once_cell.OnceCell.{OnceCell}
use Rattle.mono_locks.specs.declared.rwlock.RwLock.{RwLock}
use Rattle.mono_locks.specs.declared.rwlock.RwLockReadGuard.{RwLockReadGuard}
use Rattle.mono_locks.specs.declared.rwlock.RwLockWriteGuard.{RwLockWriteGuard}
use Rattle.mono_locks.specs.declared.rwlock.TheConstants.{MAX_READS}
use Rattle.mono_locks.specs.Barriers.{Arrives}
use Rattle.mono_locks.specs.Broadcasts.{Receives}
use Rattle.mono_locks.specs.Mutexes.{free, Locks}
use Rattle.mono_locks.specs.OnceCells.{has_some, room_of, TakesTurn, Inits}
use Rattle.mono_locks.specs.Polls.{AskPolls}
use Rattle.mono_locks.specs.Queues.{waits_at, holder_of, has_room, Fits, Comes, ComesOf, Marks, Joins, Asks, IfGot, Leaves}
use Rattle.mono_locks.specs.RwLocks.{room, Reads, Writes}
use Rattle.mono_wait.specs.ListedTasks.{none-some, same_some, same_number, or_left, or_right, both}

waits-set : {T : Type 0} (i : Init T) → asked.Waits ≡ asked.Got i → ⊥
waits-set i e = cc

joined-set : {T : Type 0} (k : ℕ) (i : Init T) → asked.Joined k ≡ asked.Got i → ⊥
joined-set k i e = cc

-- the task of the future with a ticket
holder_waits : (ws : List Entry) (k t : ℕ) → holder_of ws k ≡ Some t → waits_at ws k t ≡ true
holder_waits [] k t is = absurd (none-some t is)
holder_waits (w ∷ ws) k t is = by_first (w.ticket == k) is (holder_waits ws k t)
  where
    by_first : (b : Bool) → cond b (Some w.task) (holder_of ws k) ≡ Some t → (holder_of ws k ≡ Some t → waits_at ws k t ≡ true) → ((b && (w.task == t)) || waits_at ws k t) ≡ true
    by_first true holds later = or_left (w.task == t) _ (eq-eqb w.task t (same_some w.task t holds))
    by_first false holds later = later holds

-- a task at the end of the queue
last_waits : (ws : List Entry) (w : Entry) (k t : ℕ) → w.ticket ≡ k → w.task ≡ t → waits_at (ws ++ w ∷ []) k t ≡ true
last_waits [] w k t at is = or_left ((w.ticket == k) && (w.task == t)) false (both (w.ticket == k) (w.task == t) (eq-eqb w.ticket k at) (eq-eqb w.task t is))
last_waits (v ∷ ws) w k t at is = or_right ((v.ticket == k) && (v.task == t)) _ (last_waits ws w k t at is)

-- The future has a ticket, and this task waits in the queue with it.
abbrev pub Queued : Queue → Option ℕ → ℕ → Type 0
Queued a ticket task = (k : ℕ) × (ticket ≡ Some k) × (waits_at a.waiters.items k task ≡ true)

-- this is its only ticket
pub queued_at : (a : Queue) (ticket : Option ℕ) (task : ℕ) → Queued a ticket task → (k : ℕ) → ticket ≡ Some k → waits_at a.waiters.items k task ≡ true
queued_at a ticket task (n, at, waits) k is = ap (λ m. waits_at a.waiters.items m task) (same_some k n (sym is ∙ at)) ∙ waits

module _ (a b : Queue) (task n room : ℕ) where
  comes_if : (k u : ℕ) (c : Bool) → (u == task) ≡ c → holder_of a.waiters.items k ≡ Some u → MatchBool c ((Waits ≡ Waits) × (b ≡ a)) (Fits (has_room b n room) Waits × Marks a k u b) → waits_at b.waiters.items k task ≡ true
  comes_if k u true is holds p = ap (λ l. waits_at l.waiters.items k task) p.1 ∙ holder_waits a.waiters.items k task (holds ∙ ap Some (same_number u task is))
  comes_if k u false is holds p = absurd p.0

  comes_of : (k : ℕ) (o : Option ℕ) → holder_of a.waiters.items k ≡ o → ComesOf o a k task n room Waits b → waits_at b.waiters.items k task ≡ true
  comes_of k None holds p = absurd p.0
  comes_of k (Some u) holds p = comes_if k u (u == task) refl holds p

  -- a future that waits still
  asks_still : (ticket left : Option ℕ) → left ≡ ticket → Comes a ticket task n room Waits b → Queued b left task
  asks_still None left same p = absurd p.0
  asks_still (Some k) left same p = (k, same, comes_of k (holder_of a.waiters.items k) refl p)

  -- a future that waits from now on
  asks_join : (ticket left : Option ℕ) (t : ℕ) → left ≡ Some t → (q : Queue) × (Comes a ticket task n room Full q × Joins q task n (Ok t) b) → Queued b left task
  asks_join ticket left t same (q, p) =
      (t, same, ap (λ ws. waits_at ws t task) p.1.1 ∙ last_waits q.waiters.items (record { ticket = q.next; task = task; amount = n }) t task (sym p.1.0) refl)

module _ {X G : Type 0} (queue : X → Queue) (calls : Option ℕ → ℕ → X → Asked G → X → Type 0) where
  -- A call leaves each future that waits in the queue of the value.
  record Queueing : Type 0 where
    still : (ticket left : Option ℕ) (me : ℕ) (a b : X) → left ≡ ticket → calls ticket me a asked.Waits b → Queued (queue b) left me
    joins : (ticket left : Option ℕ) (me t : ℕ) (a b : X) → left ≡ Some t → calls ticket me a (asked.Joined t) b → Queued (queue b) left me

  -- a pending poll of a future that makes the call
  ask_stands : Queueing → {W C : Type 0} (part : W → X) (number : C → ℕ) (shared : C → W) (work : C → Tasks ⊤) (ticket : Option ℕ) (c : C) (left : Option ℕ) (d : C)
      → AskPolls (λ k me w r v. calls k me (part w) r (part v)) number shared work ticket c Pending left d → Queued (queue (part (shared d))) left (number c)
  ask_stands queueing part number shared work ticket c left d (inl p) = queueing.still ticket left (number c) (part (shared c)) (part (shared d)) p.0 p.1.0
  ask_stands queueing part number shared work ticket c left d (inr (t, p)) = queueing.joins ticket left (number c) t (part (shared c)) (part (shared d)) p.0 p.1.0

module _ {T : Type 0} where
  abbrev locks : Option ℕ → ℕ → Mutex T → Asked (MutexGuard T) → Mutex T → Type 0
  locks ticket me a r b = Locks a ticket me r b

  lock_queueing : Queueing (λ a. a.queue) locks
  lock_queueing = record {
    still = λ ticket left me a b same s. asks_still a.queue b.queue me 1 (free a.value) ticket left same s.0;
    joins = λ ticket left me t a b same s. asks_join a.queue b.queue me 1 (free a.value) ticket left t same s.0;
  }

  pub lock_stands : {W C : Type 0} (part : W → Mutex T) (number : C → ℕ) (shared : C → W) (work : C → Tasks ⊤) (ticket : Option ℕ) (c : C) (left : Option ℕ) (d : C)
      → AskPolls (λ k me w r v. Locks (part w) k me r (part v)) number shared work ticket c Pending left d → Queued (part (shared d)).queue left (number c)
  lock_stands = ask_stands (λ a. a.queue) locks lock_queueing

  abbrev reads : Option ℕ → ℕ → RwLock T → Asked (RwLockReadGuard T) → RwLock T → Type 0
  reads ticket me a r b = Reads a ticket me r b

  read_queueing : Queueing (λ a. a.queue) reads
  read_queueing = record {
    still = λ ticket left me a b same s. asks_still a.queue b.queue me 1 (room a) ticket left same s.0;
    joins = λ ticket left me t a b same s. asks_join a.queue b.queue me 1 (room a) ticket left t same s.0;
  }

  pub read_stands : {W C : Type 0} (part : W → RwLock T) (number : C → ℕ) (shared : C → W) (work : C → Tasks ⊤) (ticket : Option ℕ) (c : C) (left : Option ℕ) (d : C)
      → AskPolls (λ k me w r v. Reads (part w) k me r (part v)) number shared work ticket c Pending left d → Queued (part (shared d)).queue left (number c)
  read_stands = ask_stands (λ a. a.queue) reads read_queueing

  abbrev writes : Option ℕ → ℕ → RwLock T → Asked (RwLockWriteGuard T) → RwLock T → Type 0
  writes ticket me a r b = Writes a ticket me r b

  write_queueing : Queueing (λ a. a.queue) writes
  write_queueing = record {
    still = λ ticket left me a b same s. asks_still a.queue b.queue me MAX_READS (room a) ticket left same s.0;
    joins = λ ticket left me t a b same s. asks_join a.queue b.queue me MAX_READS (room a) ticket left t same s.0;
  }

  pub write_stands : {W C : Type 0} (part : W → RwLock T) (number : C → ℕ) (shared : C → W) (work : C → Tasks ⊤) (ticket : Option ℕ) (c : C) (left : Option ℕ) (d : C)
      → AskPolls (λ k me w r v. Writes (part w) k me r (part v)) number shared work ticket c Pending left d → Queued (part (shared d)).queue left (number c)
  write_stands = ask_stands (λ a. a.queue) writes write_queueing

  abbrev inits : Option ℕ → ℕ → OnceCell T → Asked (Init T) → OnceCell T → Type 0
  inits ticket me a r b = Inits a ticket me r b

  -- a poll of a cell by whether the cell was set
  abbrev InitsIf : Bool → OnceCell T → Option ℕ → ℕ → Asked (Init T) → OnceCell T → Type 0
  InitsIf c a ticket me r b = MatchBool c
      ((r ≡ asked.Got init.Set) × Leaves a.queue ticket me 1 b.queue × (b.is_initializing ≡ a.is_initializing))
      (Asks a.queue ticket me 1 (room_of a.is_initializing) r b.queue × IfGot r (λ i. TakesTurn i a b) (b.is_initializing ≡ a.is_initializing))

  still_if : (c : Bool) (a b : OnceCell T) (ticket left : Option ℕ) (me : ℕ) → left ≡ ticket → InitsIf c a ticket me asked.Waits b → Queued b.queue left me
  still_if true a b ticket left me same s = absurd (waits-set init.Set s.0)
  still_if false a b ticket left me same s = asks_still a.queue b.queue me 1 (room_of a.is_initializing) ticket left same s.0

  joins_if : (c : Bool) (a b : OnceCell T) (ticket left : Option ℕ) (me t : ℕ) → left ≡ Some t → InitsIf c a ticket me (asked.Joined t) b → Queued b.queue left me
  joins_if true a b ticket left me t same s = absurd (joined-set t init.Set s.0)
  joins_if false a b ticket left me t same s = asks_join a.queue b.queue me 1 (room_of a.is_initializing) ticket left t same s.0

  init_queueing : Queueing (λ a. a.queue) inits
  init_queueing = record {
    still = λ ticket left me a b same s. still_if (has_some a.value) a b ticket left me same s.1;
    joins = λ ticket left me t a b same s. joins_if (has_some a.value) a b ticket left me t same s.1;
  }

  pub init_stands : {W C : Type 0} (part : W → OnceCell T) (number : C → ℕ) (shared : C → W) (work : C → Tasks ⊤) (ticket : Option ℕ) (c : C) (left : Option ℕ) (d : C)
      → AskPolls (λ k me w r v. Inits (part w) k me r (part v)) number shared work ticket c Pending left d → Queued (part (shared d)).queue left (number c)
  init_stands = ask_stands (λ a. a.queue) inits init_queueing

  module _ (n : ℕ) where
    abbrev receives : Option ℕ → ℕ → Broadcast T → Asked (Received T) → Broadcast T → Type 0
    receives ticket me a r b = Receives a n ticket me r b

    receive_queueing : Queueing (λ a. a.queue) receives
    receive_queueing = record {
      still = λ ticket left me a b same s. asks_still a.queue b.queue me 1 0 ticket left same s.1;
      joins = λ ticket left me t a b same s. asks_join a.queue b.queue me 1 0 ticket left t same s.1;
    }

    pub receive_stands : {W C : Type 0} (part : W → Broadcast T) (number : C → ℕ) (shared : C → W) (work : C → Tasks ⊤) (ticket : Option ℕ) (c : C) (left : Option ℕ) (d : C)
        → AskPolls (λ k me w r v. Receives (part w) n k me r (part v)) number shared work ticket c Pending left d → Queued (part (shared d)).queue left (number c)
    receive_stands = ask_stands (λ a. a.queue) receives receive_queueing

abbrev arrives : Option ℕ → ℕ → Barrier → Asked BarrierWaitResult → Barrier → Type 0
arrives ticket me a r b = Arrives a ticket me r b

still_shut : (ticket left : Option ℕ) (me : ℕ) (a b : Barrier) → left ≡ ticket → Arrives a ticket me asked.Waits b → Queued b.queue left me
still_shut None left me a b same s = absurd s
still_shut (Some k) left me a b same s = asks_still a.queue b.queue me 1 0 (Some k) left same s.2

joins_shut : (ticket left : Option ℕ) (me t : ℕ) (a b : Barrier) → left ≡ Some t → Arrives a ticket me (asked.Joined t) b → Queued b.queue left me
joins_shut None left me t a b same s = asks_join a.queue b.queue me 1 0 None left t same s.2
joins_shut (Some k) left me t a b same s = asks_join a.queue b.queue me 1 0 (Some k) left t same s.2

arrive_queueing : Queueing (λ a. a.queue) arrives
arrive_queueing = record { still = still_shut; joins = joins_shut }

pub arrive_stands : {W C : Type 0} (part : W → Barrier) (number : C → ℕ) (shared : C → W) (work : C → Tasks ⊤) (ticket : Option ℕ) (c : C) (left : Option ℕ) (d : C)
    → AskPolls (λ k me w r v. Arrives (part w) k me r (part v)) number shared work ticket c Pending left d → Queued (part (shared d)).queue left (number c)
arrive_stands = ask_stands (λ a. a.queue) arrives arrive_queueing
