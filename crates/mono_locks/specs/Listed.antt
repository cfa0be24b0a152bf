-- Each task that a value lists is one of those that wait in it.
use Rattle.std.specs.Prelude.{Bool, true, false, ◌≡◌, ◌==◌, ◌&&◌, ◌||◌, ℕ, List, [], ◌∷◌}
use Rattle.std.specs.List.{list_any}
use Rattle.std.proofs.Common.{refl, ap}
use Rattle.mono_locks.specs.declared.queues.Entry.{Entry}
use Rattle.mono_locks.specs.declared.mutex.Mutex.{Mutex}
use Rattle.mono_locks.specs.declared.rwlock.RwLock.{RwLock}
use Rattle.mono_locks.specs.declared.once_cell.OnceCell.{OnceCell}
use Rattle.mono_locks.specs.declared.barrier.Barrier.{Barrier}
use Rattle.mono_locks.specs.declared.broadcast.Broadcast.{Broadcast}
use Rattle.mono_locks.specs.Barriers as barrier
use Rattle.mono_locks.specs.Broadcasts as broadcast
use Rattle.mono_locks.specs.Mutexes as mutex
use Rattle.mono_locks.specs.OnceCells as once_cell
use Rattle.mono_locks.specs.RwLocks as rwlock
use Rattle.mono_locks.specs.Queues.{waits_at, lists_at, tasks_of}

false-true : false ≡ true → ⊥
false-true e = cc

or_either : (a b x y : Bool) → (a ≡ true → x ≡ true) → (b ≡ true → y ≡ true) → (a || b) ≡ true → (x || y) ≡ true
or_either true b x y f g is = ap (λ z. z || y) (f refl)
or_either false b true y f g is = refl
or_either false b false y f g is = g is

and_right : (a b : Bool) → (a && b) ≡ true → b ≡ true
and_right true b is = is
and_right false b is = absurd (false-true is)

at_some : (ws : List Entry) (k t : ℕ) → waits_at ws k t ≡ true → list_any (λ u. u == t) (tasks_of ws) ≡ true
at_some [] k t is = absurd (false-true is)
at_some (w ∷ ws) k t is = or_either ((w.ticket == k) && (w.task == t)) (waits_at ws k t) (w.task == t) (list_any (λ u. u == t) (tasks_of ws)) (and_right (w.ticket == k) (w.task == t)) (at_some ws k t) is

queue_some : (ws : List Entry) (p : List ℕ) (t : ℕ) → lists_at ws p t ≡ true → list_any (λ u. u == t) (tasks_of ws) ≡ true
queue_some ws [] t is = absurd (false-true is)
queue_some ws (k ∷ []) t is = at_some ws k t is
queue_some ws (k ∷ l ∷ p) t is = absurd (false-true is)

pub barrier_some : (a : Barrier) (p : List ℕ) (t : ℕ) → barrier.listed_by a p t ≡ true → list_any (λ u. u == t) (barrier.waiting_in a) ≡ true
barrier_some a = queue_some a.queue.waiters.items

module _ {T : Type 0} where
  pub mutex_some : (a : Mutex T) (p : List ℕ) (t : ℕ) → mutex.listed_by a p t ≡ true → list_any (λ u. u == t) (mutex.waiting_in a) ≡ true
  mutex_some a = queue_some a.queue.waiters.items

  pub rwlock_some : (a : RwLock T) (p : List ℕ) (t : ℕ) → rwlock.listed_by a p t ≡ true → list_any (λ u. u == t) (rwlock.waiting_in a) ≡ true
  rwlock_some a = queue_some a.queue.waiters.items

  pub once_cell_some : (a : OnceCell T) (p : List ℕ) (t : ℕ) → once_cell.listed_by a p t ≡ true → list_any (λ u. u == t) (once_cell.waiting_in a) ≡ true
  once_cell_some a = queue_some a.queue.waiters.items

  pub broadcast_some : (a : Broadcast T) (p : List ℕ) (t : ℕ) → broadcast.listed_by a p t ≡ true → list_any (λ u. u == t) (broadcast.waiting_in a) ≡ true
  broadcast_some a = queue_some a.queue.waiters.items
