-- Whom a mutex keeps, and whom it hands out.
use Rattle.std.proofs.Common.{◌≡◌, ℕ, false, ◌∷◌, Option, Some, None, sym, ap, ◌∙◌}
use Rattle.mono_task.specs.Owed.{Keeps, Hands}
use Rattle.mono_locks.specs.declared.queues.Asked.{Asked}
use Rattle.mono_locks.specs.declared.queues.Entry.{Entry}
use Rattle.mono_locks.specs.declared.mutex.Mutex.{Mutex}
use Rattle.mono_locks.specs.declared.mutex.MutexGuard.{MutexGuard}
use Rattle.mono_locks.specs.Queues.{owed_of}
use Rattle.mono_locks.specs.Mutexes.{free, owed_by, listed_by, Locks, GivesUp, Pays}
use Rattle.mono_locks.proofs.AskLemmas.{asks_keeps}
use Rattle.mono_locks.proofs.TakeLemmas.{none_taken, none_stays, first_taken, first_out}
use Rattle.mono_locks.proofs.WaitLemmas.{QueueKept, to_places, leaves_keeps}

module _ {T : Type 0} where
  of_queue : (me : ℕ) (a b : Mutex T) → QueueKept me a.queue b.queue → Keeps listed_by me a b
  of_queue me a b kept = to_places me a.queue.waiters.items b.queue.waiters.items kept

  pub locks_keeps : (a b : Mutex T) (ticket : Option ℕ) (me : ℕ) (r : Asked (MutexGuard T)) → Locks a ticket me r b → Keeps listed_by me a b
  locks_keeps a b ticket me r s = of_queue me a b (asks_keeps a.queue b.queue ticket me 1 (free a.value) r s.0)

  pub gives_up_keeps : (a b : Mutex T) (ticket : Option ℕ) (me : ℕ) → GivesUp a ticket me b → Keeps listed_by me a b
  gives_up_keeps a b ticket me s = of_queue me a b (leaves_keeps a.queue b.queue ticket me 1 s.1)

  pub none_hands : (a b : Mutex T) → Pays a None b → Hands listed_by owed_by a None b
  none_hands a b s = (none_taken false (free a.value) a.queue b.queue s.1, (λ i. record { value = s.0 i; queue = none_stays false (free a.value) a.queue b.queue s.1 i }))

  pub first_hands : (a b : Mutex T) (w : Entry) → Pays a (Some w) b → Hands listed_by owed_by a (Some w.task) b
  first_hands a b w s = (
    first_taken false (free a.value) w a.queue b.queue s.1 ∙ ap (λ x. w.task ∷ owed_of false (free x) b.queue) (sym s.0),
    of_queue w.task a b (first_out false (free a.value) w a.queue b.queue s.1),
  )
