-- Whom a cell that is set once keeps, and whom it hands out.
use Rattle.std.proofs.Common.{◌≡◌, Bool, true, false, MatchBool, ℕ, ◌∷◌, Option, Some, None, sym, ap, ◌∙◌}
use Rattle.mono_task.specs.Owed.{Keeps, Hands}
use Rattle.mono_locks.specs.declared.queues.Asked.{Asked}
use Rattle.mono_locks.specs.declared.queues.Asked.TheVariants as asked
use Rattle.mono_locks.specs.declared.queues.Entry.{Entry}
use Rattle.mono_locks.specs.declared.once_cell.OnceCell.{OnceCell}
use Rattle.mono_locks.specs.declared.once_cell.Init.{Init}
use Rattle.mono_locks.specs.declared.once_cell.Init.TheVariants as init
use Rattle.mono_locks.specs.Queues.{Asks, IfGot, Leaves, owed_of}
use Rattle.mono_locks.specs.OnceCells.{room_of, has_some, owed_by, listed_by, TakesTurn, Inits, GivesUp, Pays}
use Rattle.mono_locks.proofs.AskLemmas.{asks_keeps}
use Rattle.mono_locks.proofs.TakeLemmas.{none_taken, none_stays, first_taken, first_out}
use Rattle.mono_locks.proofs.WaitLemmas.{QueueKept, to_places, leaves_keeps}

module _ {T : Type 0} where
  of_queue : (me : ℕ) (a b : OnceCell T) → QueueKept me a.queue b.queue → Keeps listed_by me a b
  of_queue me a b kept = to_places me a.queue.waiters.items b.queue.waiters.items kept

  inits_if : (a b : OnceCell T) (ticket : Option ℕ) (me : ℕ) (r : Asked (Init T)) (c : Bool)
      → MatchBool c ((r ≡ asked.Got init.Set) × Leaves a.queue ticket me 1 b.queue × (b.is_initializing ≡ a.is_initializing)) (Asks a.queue ticket me 1 (room_of a.is_initializing) r b.queue × IfGot r (λ i. TakesTurn i a b) (b.is_initializing ≡ a.is_initializing))
      → QueueKept me a.queue b.queue
  inits_if a b ticket me r true s = leaves_keeps a.queue b.queue ticket me 1 s.1
  inits_if a b ticket me r false s = asks_keeps a.queue b.queue ticket me 1 (room_of a.is_initializing) r s.0

  pub inits_keeps : (a b : OnceCell T) (ticket : Option ℕ) (me : ℕ) (r : Asked (Init T)) → Inits a ticket me r b → Keeps listed_by me a b
  inits_keeps a b ticket me r s = of_queue me a b (inits_if a b ticket me r (has_some a.value) s.1)

  pub gives_up_keeps : (a b : OnceCell T) (ticket : Option ℕ) (me : ℕ) → GivesUp a ticket me b → Keeps listed_by me a b
  gives_up_keeps a b ticket me s = of_queue me a b (leaves_keeps a.queue b.queue ticket me 1 s.2)

  pub none_hands : (a b : OnceCell T) → Pays a None b → Hands listed_by owed_by a None b
  none_hands a b s = (
    none_taken (has_some a.value) (room_of a.is_initializing) a.queue b.queue s.2,
    (λ i. record { value = s.0 i; is_initializing = s.1 i; queue = none_stays (has_some a.value) (room_of a.is_initializing) a.queue b.queue s.2 i }),
  )

  pub first_hands : (a b : OnceCell T) (w : Entry) → Pays a (Some w) b → Hands listed_by owed_by a (Some w.task) b
  first_hands a b w s = (
    first_taken (has_some a.value) (room_of a.is_initializing) w a.queue b.queue s.2 ∙ ap (λ x. w.task ∷ owed_of (has_some x) (room_of a.is_initializing) b.queue) (sym s.0) ∙ ap (λ c. w.task ∷ owed_of (has_some b.value) (room_of c) b.queue) (sym s.1),
    of_queue w.task a b (first_out (has_some a.value) (room_of a.is_initializing) w a.queue b.queue s.2),
  )
