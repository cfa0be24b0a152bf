-- Whom a barrier keeps, and whom it hands out.
use Rattle.std.proofs.Common.{false, ℕ, ◌∷◌, Option, Some, None, sym, ap, ◌∙◌}
use Rattle.mono_task.specs.Owed.{Keeps, Hands}
use Rattle.mono_locks.specs.declared.queues.Asked.{Asked}
use Rattle.mono_locks.specs.declared.queues.Asked.TheVariants as asked
use Rattle.mono_locks.specs.declared.queues.Entry.{Entry}
use Rattle.mono_locks.specs.declared.barrier.Barrier.{Barrier}
use Rattle.mono_locks.specs.declared.barrier.BarrierWaitResult.{BarrierWaitResult}
use Rattle.mono_locks.specs.Queues.{owed_below}
use Rattle.mono_locks.specs.Barriers.{owed_by, listed_by, Arrives, GivesUp, Pays}
use Rattle.mono_locks.proofs.AskLemmas.{asks_keeps}
use Rattle.mono_locks.proofs.BelowLemmas.{below_stays, below_none, below_first, below_out}
use Rattle.mono_locks.proofs.WaitLemmas.{QueueKept, to_places, queue_same, leaves_keeps}

of_queue : (me : ℕ) (a b : Barrier) → QueueKept me a.queue b.queue → Keeps listed_by me a b
of_queue me a b kept = to_places me a.queue.waiters.items b.queue.waiters.items kept

pub arrives_keeps : (a b : Barrier) (ticket : Option ℕ) (me : ℕ) (r : Asked BarrierWaitResult) → Arrives a ticket me r b → Keeps listed_by me a b
arrives_keeps a b None me (asked.Got r) s = of_queue me a b (queue_same me a.queue b.queue s.4)
arrives_keeps a b None me asked.Waits s = absurd s
arrives_keeps a b None me (asked.Joined t) s = of_queue me a b (asks_keeps {G = BarrierWaitResult} a.queue b.queue None me 1 0 (asked.Joined t) s.2)
arrives_keeps a b None me asked.Memory s = of_queue me a b (asks_keeps {G = BarrierWaitResult} a.queue b.queue None me 1 0 asked.Memory s.2)
arrives_keeps a b (Some k) me (asked.Got r) s = of_queue me a b (leaves_keeps a.queue b.queue (Some k) me 1 s.3)
arrives_keeps a b (Some k) me asked.Waits s = of_queue me a b (asks_keeps {G = BarrierWaitResult} a.queue b.queue (Some k) me 1 0 asked.Waits s.2)
arrives_keeps a b (Some k) me (asked.Joined t) s = of_queue me a b (asks_keeps {G = BarrierWaitResult} a.queue b.queue (Some k) me 1 0 (asked.Joined t) s.2)
arrives_keeps a b (Some k) me asked.Memory s = of_queue me a b (asks_keeps {G = BarrierWaitResult} a.queue b.queue (Some k) me 1 0 asked.Memory s.2)

pub gives_up_keeps : (a b : Barrier) (ticket : Option ℕ) (me : ℕ) → GivesUp a ticket me b → Keeps listed_by me a b
gives_up_keeps a b ticket me s = of_queue me a b (leaves_keeps a.queue b.queue ticket me 1 s.1)

pub none_hands : (a b : Barrier) → Pays a None b → Hands listed_by owed_by a None b
none_hands a b s = (
  below_none a.cleared a.queue b.queue false s.0,
  (λ i. record { parties = s.2.0 i; arrived = s.1 i; cleared = s.2.1 i; queue = below_stays a.cleared a.queue b.queue false s.0 i }),
)

pub first_hands : (a b : Barrier) (w : Entry) → Pays a (Some w) b → Hands listed_by owed_by a (Some w.task) b
first_hands a b w s = (
  below_first a.cleared a.queue b.queue w false s.0 ∙ ap (λ n. w.task ∷ owed_below false n b.queue) (sym s.2.1),
  of_queue w.task a b (below_out a.cleared a.queue b.queue w false s.0),
)
