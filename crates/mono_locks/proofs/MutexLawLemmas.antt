-- The laws of a mutex.
use Rattle.std.proofs.Common.{◌≡◌, ◌+◌, ◌-◌, ◌<◌, ◌≤◌, ℕ, true, false, List, [], ◌∷◌, ◌++◌, length, Option, Some, None, Ok, Err, refl, sym, ap, subst, ◌∙◌, arith}
use Rattle.mono_sync.specs.Runs.{Run}
use Rattle.mono_locks.specs.declared.queues.Entry.{Entry}
use Rattle.mono_locks.specs.declared.queues.Queue.{Queue}
use Rattle.mono_locks.specs.declared.mutex.Mutex.{Mutex}
use Rattle.mono_locks.specs.declared.mutex.MutexGuard.{MutexGuard}
use Rattle.mono_locks.specs.declared.queues.Asked.TheVariants as answer
use Rattle.mono_locks.specs.Queues.{due, LeavesOf}
use Rattle.mono_locks.specs.Laws.{AskAtMost}
use Rattle.mono_locks.specs.Mutexes.{free, owed_by, listed_by}
use Rattle.mono_locks.specs.MutexRuns.{Event, tried, asked, unlocked, gave_up, served, Step, kept, taken_by, taken, put_back_by, put_back}
use Rattle.mono_locks.specs.MutexLaws.{HandedOn, AtMostOneGuard, LockersInOrder, NoMutexLiesIdle, PassedOn, PendingLockIsListed, LockTakesOutItsOwn}
use Rattle.mono_locks.proofs.AmountLemmas.{Within, within_same, leaves_within, takes_within, no_room, first_owed}
use Rattle.mono_locks.proofs.QueueLemmas.{Rising, kept_queue, leaves_rises, takes_rises, first_rises}
use Rattle.mono_locks.proofs.OwnLemmas.{leaves_own}
use Rattle.mono_locks.proofs.HandLemmas.{stays, comes_out, goes_in, joined, one_out, none_out}
use Rattle.mono_locks.proofs.AskLemmas.{asks_rises, asks_within, asks_own, waits_listed, joined_listed}
use Rattle.mono_locks.proofs.WaitLemmas.{false-true}

module _ {T : Type 0} where
  moved : (a b : Mutex T) → b ≡ a → b.value ≡ a.value
  moved a b is = ap (λ m. m.value) is

  step_moves : (e : Event T) (a b : Mutex T) → Step a e b → taken_by e ++ kept b.value ≡ kept a.value ++ put_back_by e
  step_moves (tried (Ok g)) a b s = comes_out g.value _ _ s.0 s.2
  step_moves (tried (Err e)) a b s = stays _ _ (moved a b s.1)
  step_moves (asked ticket task (answer.Got g)) a b s = comes_out g.value _ _ s.1.0 s.1.1
  step_moves (asked ticket task answer.Waits) a b s = stays _ _ s.1
  step_moves (asked ticket task (answer.Joined t)) a b s = stays _ _ s.1
  step_moves (asked ticket task answer.Memory) a b s = stays _ _ s.1
  step_moves (unlocked g (Ok done)) a b s = goes_in g.value _ _ s.0 s.1
  step_moves (unlocked g (Err h)) a b s = stays _ _ (moved a b s.2)
  step_moves (gave_up ticket task) a b s = stays _ _ s.0
  step_moves (served first) a b s = stays _ _ s.0

  pub handed_on : HandedOn T
  handed_on [] a b run = stays _ _ (moved a b run)
  handed_on (e ∷ es) a b (m, step, rest) = joined (taken_by e) (taken es) _ _ _ (put_back_by e) (put_back es) (step_moves e a m step) (handed_on es m b rest)

  pub one_guard : AtMostOneGuard T
  one_guard es a b run =
      let all : taken es ++ kept b.value ≡ kept a.value ++ put_back es = handed_on es a b run in
      (one_out (taken es) (put_back es) b.value a.value all, (λ x is. none_out (taken es) (put_back es) b.value a.value x is all))

  queue_moved : (a b : Mutex T) → b ≡ a → b.queue ≡ a.queue
  queue_moved a b is = ap (λ m. m.queue) is

  step_rises : (e : Event T) (a b : Mutex T) → Rising a.queue → Step a e b → Rising b.queue
  step_rises (tried (Ok g)) a b r s = kept_queue a.queue b.queue s.3 r
  step_rises (tried (Err e)) a b r s = kept_queue a.queue b.queue (queue_moved a b s.1) r
  step_rises (asked ticket task r) a b rising s = asks_rises a.queue b.queue ticket task 1 (free a.value) r s.0 rising
  step_rises (unlocked g (Ok done)) a b r s = kept_queue a.queue b.queue s.2 r
  step_rises (unlocked g (Err h)) a b r s = kept_queue a.queue b.queue (queue_moved a b s.2) r
  step_rises (gave_up ticket task) a b r s = leaves_rises a.queue b.queue ticket task 1 s.1 r
  step_rises (served first) a b r s = takes_rises false (free a.value) a.queue b.queue first s.1 r

  run_rises : (es : List (Event T)) (a b : Mutex T) → Rising a.queue → Run Step a es b → Rising b.queue
  run_rises [] a b r run = kept_queue a.queue b.queue (queue_moved a b run) r
  run_rises (e ∷ es) a b r (m, step, rest) = run_rises es m b (step_rises e a m r step) rest

  pub in_order : LockersInOrder T
  in_order es a b c w r run s = first_rises false (free b.value) b.queue c.queue w s.1 (run_rises es a b r run)

  step_within : (e : Event T) (a b : Mutex T) → Within 1 a.queue → Step a e b → Within 1 b.queue
  step_within (tried (Ok g)) a b r s = within_same 1 a.queue b.queue s.3 r
  step_within (tried (Err e)) a b r s = within_same 1 a.queue b.queue (queue_moved a b s.1) r
  step_within (asked ticket task r) a b all s = asks_within a.queue b.queue ticket task 1 (free a.value) 1 r (omega arith) s.0 all
  step_within (unlocked g (Ok done)) a b r s = within_same 1 a.queue b.queue s.2 r
  step_within (unlocked g (Err h)) a b r s = within_same 1 a.queue b.queue (queue_moved a b s.2) r
  step_within (gave_up ticket task) a b r s = leaves_within 1 a.queue b.queue ticket task 1 s.1 r
  step_within (served first) a b r s = takes_within 1 false (free a.value) a.queue b.queue first s.1 r

  run_within : (es : List (Event T)) (a b : Mutex T) → Within 1 a.queue → Run Step a es b → Within 1 b.queue
  run_within [] a b r run = within_same 1 a.queue b.queue (queue_moved a b run) r
  run_within (e ∷ es) a b r (m, step, rest) = run_within es m b (step_within e a m r step) rest

  idle : (b : Mutex T) (p : List ℕ) (t : ℕ) → Within 1 b.queue → owed_by b ≡ [] → listed_by b p t ≡ true → free b.value ≤ b.queue.granted
  idle b [] t all none listed = absurd (false-true listed)
  idle b (k ∷ []) t all none listed = let less : free b.value - b.queue.granted < 1 = no_room 1 (free b.value - b.queue.granted) k t b.queue.waiters.items all listed none in omega (arith, less)
  idle b (k ∷ l ∷ p) t all none listed = absurd (false-true listed)

  pub no_mutex : NoMutexLiesIdle T
  no_mutex es a b p t all run none listed = idle b p t (run_within es a b all run) none listed

  passes : (a b : Mutex T) (k me : ℕ) (x : T) (w : Entry) (ws : List Entry) → AskAtMost 1 (w ∷ ws) → a.value ≡ Some x → a.queue.granted ≤ 1 → a.queue.waiters.items ≡ w ∷ ws → b.value ≡ a.value → LeavesOf None a.queue k me 1 b.queue → (ts : List ℕ) × (owed_by b ≡ w.task ∷ ts)
  passes a b k me x w ws all is granted items same left =
      let room : free b.value ≡ 1 = ap free (same ∙ is) in
      let none : b.queue.granted ≡ 0 = omega (arith, left.1, granted) in
      let one : 1 ≤ free b.value - b.queue.granted = omega (arith, room, none) in (
        due (free b.value - b.queue.granted - w.amount) ws,
        ap (due (free b.value - b.queue.granted)) (left.0 ∙ items) ∙ first_owed 1 (free b.value - b.queue.granted) w ws all.0 one,
      )

  pub passed_on : PassedOn T
  passed_on a b k me x w ws all gone is granted items s =
      passes a b k me x w ws (subst (AskAtMost 1) items all) is granted items s.0 (subst (λ o. LeavesOf o a.queue k me 1 b.queue) gone s.1)

  pub takes_out_its_own : LockTakesOutItsOwn T
  takes_out_its_own a b ticket me p t is = ((λ r s. asks_own a.queue b.queue ticket me 1 (free a.value) r s.0 p t is), (λ s. leaves_own a.queue b.queue ticket me 1 s.1 p t is))

  pub lock_listed : PendingLockIsListed T
  lock_listed a b ticket me k = ((λ s. waits_listed (MutexGuard T) a.queue b.queue me 1 (free a.value) k s.0), (λ s. joined_listed (MutexGuard T) a.queue b.queue me 1 (free a.value) k ticket s.0))
