-- What a future that asks leaves of a queue.
use Rattle.std.proofs.Common.{◌≡◌, ◌≤◌, ℕ, true, ◌∷◌, [], Option, Some}
use Rattle.mono_locks.specs.declared.queues.Asked.{Asked}
use Rattle.mono_locks.specs.declared.queues.Asked.TheVariants.{Got, Waits, Joined, Memory}
use Rattle.mono_locks.specs.declared.queues.Coming.TheVariants as coming
use Rattle.mono_locks.specs.declared.queues.Queue.{Queue}
use Rattle.mono_locks.specs.Queues.{Asks, lists_at}
use Rattle.mono_locks.proofs.AmountLemmas.{Within, comes_within, joins_within, rests_within}
use Rattle.mono_locks.proofs.QueueLemmas.{Rising, comes_rises, joins_rises, stays_rises}
use Rattle.mono_locks.proofs.OwnLemmas.{OwnIn, comes_own, joins_own, rests_own}
use Rattle.mono_locks.proofs.ListedLemmas.{comes_listed, joins_listed}
use Rattle.mono_locks.proofs.WaitLemmas.{QueueKept, comes_keeps, joins_keeps, rests_keeps}

module _ {G : Type 0} (a b : Queue) (ticket : Option ℕ) (me n room : ℕ) where
  pub asks_keeps : (r : Asked G) → Asks a ticket me n room r b → QueueKept me a b
  asks_keeps (Got g) s = comes_keeps a b ticket me n room coming.Free s
  asks_keeps Waits s = comes_keeps a b ticket me n room coming.Waits s
  asks_keeps (Joined t) s = joins_keeps a s.0 b ticket me n room t coming.Full s.1.0 s.1.1
  asks_keeps Memory s = rests_keeps a s.0 b ticket me n room coming.Full s.1.0 s.1.1

  pub asks_rises : (r : Asked G) → Asks a ticket me n room r b → Rising a → Rising b
  asks_rises (Got g) s rising = comes_rises a b ticket me n room coming.Free s rising
  asks_rises Waits s rising = comes_rises a b ticket me n room coming.Waits s rising
  asks_rises (Joined t) s rising = joins_rises a s.0 b ticket me n room t coming.Full s.1.0 s.1.1 rising
  asks_rises Memory s rising = stays_rises a s.0 b ticket me n room coming.Full s.1.0 s.1.1 rising

  pub asks_within : (most : ℕ) (r : Asked G) → n ≤ most → Asks a ticket me n room r b → Within most a → Within most b
  asks_within most (Got g) fits s all = comes_within most a b ticket me n room coming.Free s all
  asks_within most Waits fits s all = comes_within most a b ticket me n room coming.Waits s all
  asks_within most (Joined t) fits s all = joins_within most a s.0 b ticket me n room t coming.Full fits s.1.0 s.1.1 all
  asks_within most Memory fits s all = rests_within most a s.0 b ticket me n room coming.Full s.1.0 s.1.1 all

  pub asks_own : (r : Asked G) → Asks a ticket me n room r b → OwnIn ticket me a b
  asks_own (Got g) s = comes_own a b ticket me n room coming.Free s
  asks_own Waits s = comes_own a b ticket me n room coming.Waits s
  asks_own (Joined t) s = joins_own a s.0 b ticket me n room t coming.Full s.1.0 s.1.1
  asks_own Memory s = rests_own a s.0 b ticket me n room coming.Full s.1.0 s.1.1

module _ (G : Type 0) (a b : Queue) (me n room k : ℕ) where
  pub waits_listed : Asks {G = G} a (Some k) me n room Waits b → lists_at b.waiters.items (k ∷ []) me ≡ true
  waits_listed s = comes_listed a b k me n room s

  pub joined_listed : (ticket : Option ℕ) → Asks {G = G} a ticket me n room (Joined k) b → lists_at b.waiters.items (k ∷ []) me ≡ true
  joined_listed ticket s = joins_listed s.0 b me n k s.1.1
