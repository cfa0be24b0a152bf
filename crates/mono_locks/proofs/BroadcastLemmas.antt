-- Whom a broadcast keeps, and whom it hands out.
use Rattle.std.proofs.Common.{ℕ, ◌∷◌, Option, Some, None, sym, ap, ◌∙◌}
use Rattle.mono_task.specs.Owed.{Keeps, Hands}
use Rattle.mono_locks.specs.declared.queues.Asked.{Asked}
use Rattle.mono_locks.specs.declared.queues.Asked.TheVariants as asked
use Rattle.mono_locks.specs.declared.queues.Entry.{Entry}
use Rattle.mono_locks.specs.declared.broadcast.Broadcast.{Broadcast}
use Rattle.mono_locks.specs.declared.broadcast.Received.{Received}
use Rattle.mono_locks.specs.Queues.{owed_below}
use Rattle.mono_locks.specs.Broadcasts.{owed_by, listed_by, Receives, GivesUp, Pays}
use Rattle.mono_locks.proofs.AskLemmas.{asks_keeps}
use Rattle.mono_locks.proofs.BelowLemmas.{below_stays, below_none, below_first, below_out}
use Rattle.mono_locks.proofs.WaitLemmas.{QueueKept, to_places, leaves_keeps}

module _ {T : Type 0} where
  of_queue : (me : ℕ) (a b : Broadcast T) → QueueKept me a.queue b.queue → Keeps listed_by me a b
  of_queue me a b kept = to_places me a.queue.waiters.items b.queue.waiters.items kept

  pub receives_keeps : (a b : Broadcast T) (n : ℕ) (ticket : Option ℕ) (me : ℕ) (r : Asked (Received T)) → Receives a n ticket me r b → Keeps listed_by me a b
  receives_keeps a b n ticket me (asked.Got r) s = of_queue me a b (leaves_keeps a.queue b.queue ticket me 1 s.1)
  receives_keeps a b n ticket me asked.Waits s = of_queue me a b (asks_keeps {G = Received T} a.queue b.queue ticket me 1 0 asked.Waits s.1)
  receives_keeps a b n ticket me (asked.Joined t) s = of_queue me a b (asks_keeps {G = Received T} a.queue b.queue ticket me 1 0 (asked.Joined t) s.1)
  receives_keeps a b n ticket me asked.Memory s = of_queue me a b (asks_keeps {G = Received T} a.queue b.queue ticket me 1 0 asked.Memory s.1)

  pub gives_up_keeps : (a b : Broadcast T) (ticket : Option ℕ) (me : ℕ) → GivesUp a ticket me b → Keeps listed_by me a b
  gives_up_keeps a b ticket me s = of_queue me a b (leaves_keeps a.queue b.queue ticket me 1 s.0)

  pub none_hands : (a b : Broadcast T) → Pays a None b → Hands listed_by owed_by a None b
  none_hands a b s = (
    below_none a.cleared a.queue b.queue a.is_closed s.0,
    (λ i. record { messages = s.1.0 i; capacity = s.1.1 i; sent = s.1.2 i; is_closed = s.1.3 i; cleared = s.1.4 i; queue = below_stays a.cleared a.queue b.queue a.is_closed s.0 i }),
  )

  pub first_hands : (a b : Broadcast T) (w : Entry) → Pays a (Some w) b → Hands listed_by owed_by a (Some w.task) b
  first_hands a b w s = (
    below_first a.cleared a.queue b.queue w a.is_closed s.0 ∙ ap (λ c. w.task ∷ owed_below c a.cleared b.queue) (sym s.1.3) ∙ ap (λ n. w.task ∷ owed_below b.is_closed n b.queue) (sym s.1.4),
    of_queue w.task a b (below_out a.cleared a.queue b.queue w a.is_closed s.0),
  )
