-- The laws of a lock for readers and writers.
use Rattle.std.proofs.Common.{◌≡◌, ◌+◌, ◌-◌, ◌<◌, ◌≤◌, ℕ, true, false, cond, List, [], ◌∷◌, ◌++◌, length, Option, Some, None, Ok, Err, refl, sym, ap, subst, ◌∙◌, nat_le, arith}
use Rattle.mono_sync.specs.Runs.{Run}
use Rattle.mono_locks.specs.declared.queues.Asked.TheVariants as answer
use Rattle.mono_locks.specs.declared.queues.Entry.{Entry}
use Rattle.mono_locks.specs.declared.queues.Queue.{Queue}
use Rattle.mono_locks.specs.declared.rwlock.RwLock.{RwLock}
use Rattle.mono_locks.specs.declared.rwlock.RwLockReadGuard.{RwLockReadGuard}
use Rattle.mono_locks.specs.declared.rwlock.RwLockWriteGuard.{RwLockWriteGuard}
use Rattle.mono_locks.specs.declared.rwlock.TheConstants.{MAX_READS}
use Rattle.mono_locks.specs.Queues.{due, has_room, is_empty, lists_at}
use Rattle.mono_locks.specs.MutexRuns.{kept}
use Rattle.mono_locks.specs.RwLocks.{room, room_of}
use Rattle.mono_locks.specs.RwLockRuns.{Event, tried_read, tried_write, asked_read, asked_write, ended_read, ended_write, gave_up, served, Step, taken_by, taken, put_back_by, put_back, reads_by, reads, read_ends_by, read_ends}
use Rattle.mono_locks.specs.RwLockLaws.{WrittenOn, ReadersAreCounted, NoReaderBesideAWriter, NobodyOvertakes, RwLockInOrder, NoRwLockLiesIdle, PendingReadIsListed, PendingWriteIsListed, RwLockTakesOutItsOwn}
use Rattle.mono_locks.proofs.AmountLemmas.{more}
use Rattle.mono_locks.proofs.AskLemmas.{asks_rises, asks_own, waits_listed, joined_listed}
use Rattle.mono_locks.proofs.FreeLemmas.{room_fits, free_room}
use Rattle.mono_locks.proofs.HandLemmas.{stays, comes_out, goes_in, joined, one_out}
use Rattle.mono_locks.proofs.OwnLemmas.{leaves_own}
use Rattle.mono_locks.proofs.QueueLemmas.{Rising, kept_queue, leaves_rises, takes_rises, first_rises}
use Rattle.mono_locks.proofs.WaitLemmas.{false-true, and_left}

cons-nil : (t : ℕ) (ts : List ℕ) → t ∷ ts ≡ [] → ⊥
cons-nil t ts e = cc

nobody_waits : (ws : List Entry) (p : List ℕ) (t : ℕ) → lists_at ws p t ≡ true → is_empty ws ≡ true → ⊥
nobody_waits [] [] t is none = false-true is
nobody_waits [] (k ∷ []) t is none = false-true is
nobody_waits [] (k ∷ l ∷ p) t is none = false-true is
nobody_waits (w ∷ ws) p t is none = false-true none

room_empty : (q : Queue) (n r : ℕ) → has_room q n r ≡ true → is_empty q.waiters.items ≡ true
room_empty q n r is = and_left (is_empty q.waiters.items) (nat_le n (r - q.granted)) is

module _ {T : Type 0} where
  moved : (a b : RwLock T) → b ≡ a → b.value ≡ a.value
  moved a b is = ap (λ m. m.value) is

  counted : (a b : RwLock T) → b ≡ a → b.readers ≡ a.readers
  counted a b is = ap (λ m. m.readers) is

  queue_moved : (a b : RwLock T) → b ≡ a → b.queue ≡ a.queue
  queue_moved a b is = ap (λ m. m.queue) is

  step_moves : (e : Event T) (a b : RwLock T) → Step a e b → taken_by e ++ kept b.value ≡ kept a.value ++ put_back_by e
  step_moves (tried_read (Ok g)) a b s = stays _ _ s.1
  step_moves (tried_read (Err e)) a b s = stays _ _ (moved a b s.1)
  step_moves (tried_write (Ok g)) a b s = comes_out g.value _ _ s.1 s.2
  step_moves (tried_write (Err e)) a b s = stays _ _ (moved a b s.1)
  step_moves (asked_read ticket task r) a b s = stays _ _ s.1
  step_moves (asked_write ticket task (answer.Got g)) a b s = comes_out g.value _ _ s.2.0 s.2.1
  step_moves (asked_write ticket task answer.Waits) a b s = stays _ _ s.2
  step_moves (asked_write ticket task (answer.Joined t)) a b s = stays _ _ s.2
  step_moves (asked_write ticket task answer.Memory) a b s = stays _ _ s.2
  step_moves (ended_read g (Ok done)) a b s = stays _ _ s.1
  step_moves (ended_read g (Err h)) a b s = stays _ _ (moved a b s.2)
  step_moves (ended_write g (Ok done)) a b s = goes_in g.value _ _ s.0 s.1
  step_moves (ended_write g (Err h)) a b s = stays _ _ (moved a b s.2)
  step_moves (gave_up ticket task n) a b s = stays _ _ s.0
  step_moves (served first) a b s = stays _ _ s.0

  written : (es : List (Event T)) (a b : RwLock T) → Run Step a es b → taken es ++ kept b.value ≡ kept a.value ++ put_back es
  written [] a b run = stays _ _ (moved a b run)
  written (e ∷ es) a b (m, step, rest) = joined (taken_by e) (taken es) _ _ _ (put_back_by e) (put_back es) (step_moves e a m step) (written es m b rest)

  pub written_on : WrittenOn T
  written_on es a b run = let all : taken es ++ kept b.value ≡ kept a.value ++ put_back es = written es a b run in (all, one_out (taken es) (put_back es) b.value a.value all)

  step_counts : (e : Event T) (a b : RwLock T) → Step a e b → reads_by e + a.readers ≡ b.readers + read_ends_by e
  step_counts (tried_read (Ok g)) a b s = omega (arith, s.2)
  step_counts (tried_read (Err e)) a b s = omega (arith, counted a b s.1)
  step_counts (tried_write (Ok g)) a b s = omega (arith, s.3)
  step_counts (tried_write (Err e)) a b s = omega (arith, counted a b s.1)
  step_counts (asked_read ticket task (answer.Got g)) a b s = omega (arith, s.2)
  step_counts (asked_read ticket task answer.Waits) a b s = omega (arith, s.2)
  step_counts (asked_read ticket task (answer.Joined t)) a b s = omega (arith, s.2)
  step_counts (asked_read ticket task answer.Memory) a b s = omega (arith, s.2)
  step_counts (asked_write ticket task r) a b s = omega (arith, s.1)
  step_counts (ended_read g (Ok done)) a b s = omega (arith, s.0)
  step_counts (ended_read g (Err h)) a b s = omega (arith, counted a b s.2)
  step_counts (ended_write g (Ok done)) a b s = omega (arith, s.2)
  step_counts (ended_write g (Err h)) a b s = omega (arith, counted a b s.2)
  step_counts (gave_up ticket task n) a b s = omega (arith, s.1)
  step_counts (served first) a b s = omega (arith, s.1)

  pub readers_counted : ReadersAreCounted T
  readers_counted [] a b run = omega (arith, counted a b run)
  readers_counted (e ∷ es) a b (m, step, rest) = omega (arith, step_counts e a m step, readers_counted es m b rest)

  abbrev Apart : RwLock T → Type 0
  Apart a = a.value ≡ None → a.readers ≡ 0

  none-some : (x : T) (o : Option T) → o ≡ Some x → o ≡ None → ⊥
  none-some x o is none = cc

  -- a lock with room has its value
  reading : (m n : Option T) (readers : ℕ) → 1 ≤ room_of m readers → n ≡ m → n ≡ None → ⊥
  reading None n readers fits same is = absurd (omega (arith, fits))
  reading (Some x) n readers fits same is = none-some x n same is

  -- a lock with room for a writer has no reader
  writing : (m : Option T) (readers : ℕ) → MAX_READS ≤ room_of m readers → readers ≡ 0
  writing None readers fits = absurd (omega (arith, fits))
  writing (Some x) readers fits = omega (arith, fits)

  step_apart : (e : Event T) (a b : RwLock T) → Apart a → Step a e b → Apart b
  step_apart (tried_read (Ok g)) a b apart s = λ none. absurd (reading a.value b.value a.readers (room_fits a.queue 1 (room a) s.0) s.1 none)
  step_apart (tried_read (Err e)) a b apart s = λ none. counted a b s.1 ∙ apart (sym (moved a b s.1) ∙ none)
  step_apart (tried_write (Ok g)) a b apart s = λ none. s.3 ∙ writing a.value a.readers (room_fits a.queue MAX_READS (room a) s.0)
  step_apart (tried_write (Err e)) a b apart s = λ none. counted a b s.1 ∙ apart (sym (moved a b s.1) ∙ none)
  step_apart (asked_read ticket task (answer.Got g)) a b apart s = λ none. absurd (reading a.value b.value a.readers (free_room a.queue b.queue ticket task 1 (room a) s.0) s.1 none)
  step_apart (asked_read ticket task answer.Waits) a b apart s = λ none. s.2 ∙ apart (sym s.1 ∙ none)
  step_apart (asked_read ticket task (answer.Joined t)) a b apart s = λ none. s.2 ∙ apart (sym s.1 ∙ none)
  step_apart (asked_read ticket task answer.Memory) a b apart s = λ none. s.2 ∙ apart (sym s.1 ∙ none)
  step_apart (asked_write ticket task (answer.Got g)) a b apart s = λ none. s.1 ∙ writing a.value a.readers (free_room a.queue b.queue ticket task MAX_READS (room a) s.0)
  step_apart (asked_write ticket task answer.Waits) a b apart s = λ none. s.1 ∙ apart (sym s.2 ∙ none)
  step_apart (asked_write ticket task (answer.Joined t)) a b apart s = λ none. s.1 ∙ apart (sym s.2 ∙ none)
  step_apart (asked_write ticket task answer.Memory) a b apart s = λ none. s.1 ∙ apart (sym s.2 ∙ none)
  step_apart (ended_read g (Ok done)) a b apart s = λ none. let still : a.readers ≡ 0 = apart (sym s.1 ∙ none) in omega (arith, still, s.0)
  step_apart (ended_read g (Err h)) a b apart s = λ none. counted a b s.2 ∙ s.0
  step_apart (ended_write g (Ok done)) a b apart s = λ none. absurd (none-some g.value b.value s.1 none)
  step_apart (ended_write g (Err h)) a b apart s = λ none. counted a b s.2 ∙ apart (sym (moved a b s.2) ∙ none)
  step_apart (gave_up ticket task n) a b apart s = λ none. s.1 ∙ apart (sym s.0 ∙ none)
  step_apart (served first) a b apart s = λ none. s.1 ∙ apart (sym s.0 ∙ none)

  pub no_reader : NoReaderBesideAWriter T
  no_reader [] a b apart run none = counted a b run ∙ apart (sym (moved a b run) ∙ none)
  no_reader (e ∷ es) a b apart (m, step, rest) none = no_reader es m b (step_apart e a m apart step) rest none

  pub not_overtaken : NobodyOvertakes T
  not_overtaken a b p t me g h listed = (
    (λ s. let free : has_room a.queue 1 (room a) ≡ true = ap (λ q. has_room q 1 (room a)) (sym s.0.1) ∙ s.0.0 in nobody_waits a.queue.waiters.items p t listed (room_empty a.queue 1 (room a) free)),
    (λ s. nobody_waits a.queue.waiters.items p t listed (room_empty a.queue 1 (room a) s.0)),
    (λ s. let free : has_room a.queue MAX_READS (room a) ≡ true = ap (λ q. has_room q MAX_READS (room a)) (sym s.0.1) ∙ s.0.0 in nobody_waits a.queue.waiters.items p t listed (room_empty a.queue MAX_READS (room a) free)),
    (λ s. nobody_waits a.queue.waiters.items p t listed (room_empty a.queue MAX_READS (room a) s.0)),
  )

  step_rises : (e : Event T) (a b : RwLock T) → Rising a.queue → Step a e b → Rising b.queue
  step_rises (tried_read (Ok g)) a b rising s = kept_queue a.queue b.queue s.3 rising
  step_rises (tried_read (Err e)) a b rising s = kept_queue a.queue b.queue (queue_moved a b s.1) rising
  step_rises (tried_write (Ok g)) a b rising s = kept_queue a.queue b.queue s.4 rising
  step_rises (tried_write (Err e)) a b rising s = kept_queue a.queue b.queue (queue_moved a b s.1) rising
  step_rises (asked_read ticket task r) a b rising s = asks_rises a.queue b.queue ticket task 1 (room a) r s.0 rising
  step_rises (asked_write ticket task r) a b rising s = asks_rises a.queue b.queue ticket task MAX_READS (room a) r s.0 rising
  step_rises (ended_read g (Ok done)) a b rising s = kept_queue a.queue b.queue s.2 rising
  step_rises (ended_read g (Err h)) a b rising s = kept_queue a.queue b.queue (queue_moved a b s.2) rising
  step_rises (ended_write g (Ok done)) a b rising s = kept_queue a.queue b.queue s.3 rising
  step_rises (ended_write g (Err h)) a b rising s = kept_queue a.queue b.queue (queue_moved a b s.2) rising
  step_rises (gave_up ticket task n) a b rising s = leaves_rises a.queue b.queue ticket task n s.2 rising
  step_rises (served first) a b rising s = takes_rises false (room a) a.queue b.queue first s.2 rising

  run_rises : (es : List (Event T)) (a b : RwLock T) → Rising a.queue → Run Step a es b → Rising b.queue
  run_rises [] a b rising run = kept_queue a.queue b.queue (queue_moved a b run) rising
  run_rises (e ∷ es) a b rising (m, step, rest) = run_rises es m b (step_rises e a m rising step) rest

  pub in_order : RwLockInOrder T
  in_order es a b c w rising run s = first_rises false (room b) b.queue c.queue w s.2 (run_rises es a b rising run)

  pub no_rwlock : NoRwLockLiesIdle T
  no_rwlock a w ws none is =
      let free : ℕ = room a - a.queue.granted in
      let nothing : due free (w ∷ ws) ≡ [] = sym (ap (due free) is) ∙ none in
      let big : free < w.amount = more w.amount free (λ le. cons-nil w.task (due (free - w.amount) ws) (sym (ap (λ b. cond b (w.task ∷ due (free - w.amount) ws) []) le) ∙ nothing)) in
      omega (arith, big)

  pub read_listed : PendingReadIsListed T
  read_listed a b ticket me k = ((λ s. waits_listed (RwLockReadGuard T) a.queue b.queue me 1 (room a) k s.0), (λ s. joined_listed (RwLockReadGuard T) a.queue b.queue me 1 (room a) k ticket s.0))

  pub write_listed : PendingWriteIsListed T
  write_listed a b ticket me k = ((λ s. waits_listed (RwLockWriteGuard T) a.queue b.queue me MAX_READS (room a) k s.0), (λ s. joined_listed (RwLockWriteGuard T) a.queue b.queue me MAX_READS (room a) k ticket s.0))

  pub takes_out_its_own : RwLockTakesOutItsOwn T
  takes_out_its_own a b ticket me n p t is = (
    (λ r s. asks_own a.queue b.queue ticket me 1 (room a) r s.0 p t is),
    (λ r s. asks_own a.queue b.queue ticket me MAX_READS (room a) r s.0 p t is),
    (λ s. leaves_own a.queue b.queue ticket me n s.2 p t is),
  )
