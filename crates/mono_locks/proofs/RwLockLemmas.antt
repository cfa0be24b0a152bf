-- Whom a lock for readers and writers keeps, and whom it hands out.
use Rattle.std.proofs.Common.{◌≡◌, ℕ, false, ◌∷◌, Option, Some, None, sym, ap, ◌∙◌}
use Rattle.mono_task.specs.Owed.{Keeps, Hands}
use Rattle.mono_locks.specs.declared.queues.Asked.{Asked}
use Rattle.mono_locks.specs.declared.queues.Entry.{Entry}
use Rattle.mono_locks.specs.declared.rwlock.RwLock.{RwLock}
use Rattle.mono_locks.specs.declared.rwlock.RwLockReadGuard.{RwLockReadGuard}
use Rattle.mono_locks.specs.declared.rwlock.RwLockWriteGuard.{RwLockWriteGuard}
use Rattle.mono_locks.specs.declared.rwlock.TheConstants.{MAX_READS}
use Rattle.mono_locks.specs.Queues.{owed_of}
use Rattle.mono_locks.specs.RwLocks.{room, room_of, owed_by, listed_by, Reads, Writes, GivesUp, Pays}
use Rattle.mono_locks.proofs.AskLemmas.{asks_keeps}
use Rattle.mono_locks.proofs.TakeLemmas.{none_taken, none_stays, first_taken, first_out}
use Rattle.mono_locks.proofs.WaitLemmas.{QueueKept, to_places, leaves_keeps}

module _ {T : Type 0} where
  of_queue : (me : ℕ) (a b : RwLock T) → QueueKept me a.queue b.queue → Keeps listed_by me a b
  of_queue me a b kept = to_places me a.queue.waiters.items b.queue.waiters.items kept

  pub reads_keeps : (a b : RwLock T) (ticket : Option ℕ) (me : ℕ) (r : Asked (RwLockReadGuard T)) → Reads a ticket me r b → Keeps listed_by me a b
  reads_keeps a b ticket me r s = of_queue me a b (asks_keeps a.queue b.queue ticket me 1 (room a) r s.0)

  pub writes_keeps : (a b : RwLock T) (ticket : Option ℕ) (me : ℕ) (r : Asked (RwLockWriteGuard T)) → Writes a ticket me r b → Keeps listed_by me a b
  writes_keeps a b ticket me r s = of_queue me a b (asks_keeps a.queue b.queue ticket me MAX_READS (room a) r s.0)

  pub gives_up_keeps : (a b : RwLock T) (ticket : Option ℕ) (me n : ℕ) → GivesUp a ticket me n b → Keeps listed_by me a b
  gives_up_keeps a b ticket me n s = of_queue me a b (leaves_keeps a.queue b.queue ticket me n s.2)

  pub none_hands : (a b : RwLock T) → Pays a None b → Hands listed_by owed_by a None b
  none_hands a b s = (none_taken false (room a) a.queue b.queue s.2, (λ i. record { value = s.0 i; readers = s.1 i; queue = none_stays false (room a) a.queue b.queue s.2 i }))

  pub first_hands : (a b : RwLock T) (w : Entry) → Pays a (Some w) b → Hands listed_by owed_by a (Some w.task) b
  first_hands a b w s = (
    first_taken false (room a) w a.queue b.queue s.2 ∙ ap (λ x. w.task ∷ owed_of false (room_of x a.readers) b.queue) (sym s.0) ∙ ap (λ n. w.task ∷ owed_of false (room_of b.value n) b.queue) (sym s.1),
    of_queue w.task a b (first_out false (room a) w a.queue b.queue s.2),
  )
