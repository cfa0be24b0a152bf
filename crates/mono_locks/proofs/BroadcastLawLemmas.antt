-- The laws of a broadcast.
use Rattle.std.proofs.Common.{◌≡◌, ◌+◌, ◌-◌, ◌<◌, ◌≤◌, ◌||◌, Bool, true, false, cond, nat_lt, ℕ, suc, List, [], ◌∷◌, ◌++◌, length, slice_index_or, Option, Some, None, Ok, Err, refl, sym, ap, subst, ◌∙◌, append_assoc, append-nil, inl, inr, arith}
use Rattle.std.proofs.lemmas.Bool.{cases_lt, lt-ltb}
use Rattle.std.proofs.lemmas.List.{length-append}
use Rattle.mono_sync.specs.Runs.{Run}
use Rattle.mono_locks.specs.declared.queues.Asked.{Asked}
use Rattle.mono_locks.specs.declared.queues.Asked.TheVariants as asked
use Rattle.mono_locks.specs.declared.queues.Entry.{Entry}
use Rattle.mono_locks.specs.declared.broadcast.Broadcast.{Broadcast}
use Rattle.mono_locks.specs.declared.broadcast.Received.{Received}
use Rattle.mono_locks.specs.declared.broadcast.SendError.TheVariants as unsent
use Rattle.mono_locks.specs.Queues.{TakesBelow, below, starts_below, tasks_of, waits_at}
use Rattle.mono_locks.specs.Laws.{Rises}
use Rattle.mono_locks.specs.Broadcasts.{rest, trimmed, oldest, Receives}
use Rattle.mono_locks.specs.BroadcastRuns.{Event, was_sent, received, closed, gave_up, served, Step, sent_by, all_sent}
use Rattle.mono_locks.specs.BroadcastLaws.{KeepsTheLast, GetsEachInOrder, NothingAfterClose, NoBroadcastLiesIdle, PendingRecvIsListed, RecvTakesOutItsOwn}
use Rattle.mono_locks.proofs.AskLemmas.{asks_rises, asks_own, waits_listed, joined_listed}
use Rattle.mono_locks.proofs.LateLemmas.{below_late, takes_rising}
use Rattle.mono_locks.proofs.OwnLemmas.{OwnIn, leaves_own}
use Rattle.mono_locks.proofs.QueueLemmas.{Rising, kept_queue, leaves_rises}
use Rattle.mono_locks.proofs.WaitLemmas.{false-true}

cons-nil : (t : ℕ) (ts : List ℕ) → t ∷ ts ≡ [] → ⊥
cons-nil t ts e = cc

both : (b : Bool) → b ≡ true → b ≡ false → ⊥
both b p q = cc

first : (i : ℕ) → 0 + i ≡ i
first i = omega arith

closed_owes : (k t : ℕ) (ws : List Entry) → waits_at ws k t ≡ true → tasks_of ws ≡ [] → ⊥
closed_owes k t [] waits none = false-true waits
closed_owes k t (w ∷ ws) waits none = cons-nil w.task _ none

idle_if : (c : Bool) (low next k t : ℕ) (ws : List Entry) → Rises 0 ws next → cond c (tasks_of ws) (below low ws) ≡ [] → waits_at ws k t ≡ true → (c ≡ false) × (low ≤ k)
idle_if true low next k t ws r none is = absurd (closed_owes k t ws is none)
idle_if false low next k t ws r none is = (refl, below_late low next k t ws r none is)

module _ {T : Type 0} where
  -- what a trim leaves is an end of the list
  abbrev Gone : List T → List T → Type 0
  Gone xs ys = (gone : List T) × (gone ++ ys ≡ xs)

  rest_gone : (xs : List T) → Gone xs (rest xs)
  rest_gone [] = ([], refl)
  rest_gone (x ∷ xs) = (x ∷ [], refl)

  trim_if : (c : Bool) (xs : List T) → Gone xs (cond c (rest xs) xs)
  trim_if true xs = rest_gone xs
  trim_if false xs = ([], refl)

  rest_length : (xs : List T) → length (rest xs) ≡ length xs - 1
  rest_length [] = refl
  rest_length (x ∷ xs) = omega arith

  fits_if : (c : Bool) (most : ℕ) (xs : List T) → nat_lt most (length xs) ≡ c → length xs ≤ most + 1 → length (cond c (rest xs) xs) ≤ most
  fits_if true most xs is le = omega (arith, rest_length xs, le)
  fits_if false most xs is le = elim (cases_lt most (length xs)) [ inl more ↦ absurd (both (nat_lt most (length xs)) (lt-ltb most (length xs) more) is) | inr few ↦ few ]

  -- what one call keeps
  record Keeping (e : Event T) (a b : Broadcast T) : Type 0 where
    gone : Gone (a.messages.items ++ sent_by e) b.messages.items
    counts : b.sent ≡ a.sent + length (sent_by e)
    most : b.capacity ≡ a.capacity
    fits : length a.messages.items ≤ a.capacity → length b.messages.items ≤ b.capacity

  still : (e : Event T) (a b : Broadcast T) → sent_by e ≡ [] → b.messages.items ≡ a.messages.items → b.sent ≡ a.sent → b.capacity ≡ a.capacity → Keeping e a b
  still e a b none messages sent capacity = record {
    gone = ([], messages ∙ sym (ap (λ xs. a.messages.items ++ xs) none ∙ append-nil a.messages.items));
    counts = let nothing : length (sent_by e) ≡ 0 = ap length none in omega (arith, sent, nothing);
    most = capacity;
    fits = λ le. let same : length b.messages.items ≡ length a.messages.items = ap length messages in omega (arith, same, capacity, le);
  }

  by_same : (e : Event T) (a b : Broadcast T) → sent_by e ≡ [] → b ≡ a → Keeping e a b
  by_same e a b none is = still e a b none (ap (λ x. x.messages.items) is) (ap (λ x. x.sent) is) (ap (λ x. x.capacity) is)

  sends_gone : (a b : Broadcast T) (x : T) → b.messages.items ≡ trimmed a.capacity (a.messages.items ++ x ∷ []) → Gone (a.messages.items ++ x ∷ []) b.messages.items
  sends_gone a b x is = subst (Gone (a.messages.items ++ x ∷ [])) (sym is) (trim_if (nat_lt a.capacity (length (a.messages.items ++ x ∷ []))) (a.messages.items ++ x ∷ []))

  sends_fits : (a b : Broadcast T) (x : T) → b.messages.items ≡ trimmed a.capacity (a.messages.items ++ x ∷ []) → b.capacity ≡ a.capacity → length a.messages.items ≤ a.capacity → length b.messages.items ≤ b.capacity
  sends_fits a b x is same le =
      let all : List T = a.messages.items ++ x ∷ [] in
      let count : length all ≡ length a.messages.items + 1 = length-append a.messages.items (x ∷ []) in
      let fits : length (trimmed a.capacity all) ≤ a.capacity = fits_if (nat_lt a.capacity (length all)) a.capacity all refl (omega (arith, count, le)) in
      let left : length b.messages.items ≡ length (trimmed a.capacity all) = ap length is in
      omega (arith, fits, left, same)

  step_keeps : (e : Event T) (a b : Broadcast T) → Step a e b → Keeping e a b
  step_keeps (was_sent x (Ok done)) a b s = record { gone = sends_gone a b x s.1; counts = s.2; most = s.4; fits = sends_fits a b x s.1 s.4 }
  step_keeps (was_sent x (Err (unsent.Closed y))) a b s = by_same (was_sent x (Err (unsent.Closed y))) a b refl s.2
  step_keeps (was_sent x (Err (unsent.Memory y))) a b s = still (was_sent x (Err (unsent.Memory y))) a b refl s.2 s.3.1 s.3.0
  step_keeps (received n ticket me (asked.Got r)) a b s = still (received n ticket me (asked.Got r)) a b refl (ap (λ m. m.items) s.2.0) s.2.2 s.2.1
  step_keeps (received n ticket me asked.Waits) a b s = still (received n ticket me asked.Waits) a b refl (ap (λ m. m.items) s.2.0) s.2.2 s.2.1
  step_keeps (received n ticket me (asked.Joined t)) a b s = still (received n ticket me (asked.Joined t)) a b refl (ap (λ m. m.items) s.2.0) s.2.2 s.2.1
  step_keeps (received n ticket me asked.Memory) a b s = still (received n ticket me asked.Memory) a b refl (ap (λ m. m.items) s.2.0) s.2.2 s.2.1
  step_keeps closed a b s = still closed a b refl (ap (λ m. m.items) s.1) s.3 s.2
  step_keeps (gave_up ticket me) a b s = still (gave_up ticket me) a b refl (ap (λ m. m.items) s.1.0) s.1.2 s.1.1
  step_keeps (served first) a b s = still (served first) a b refl (ap (λ m. m.items) s.1.0) s.1.2 s.1.1

  gone_on : (xs ms ys s ss : List T) → Gone (xs ++ s) ms → Gone (ms ++ ss) ys → Gone (xs ++ (s ++ ss)) ys
  gone_on xs ms ys s ss (d, one) (f, more) = (d ++ f, append_assoc d f ys ∙ ap (λ zs. d ++ zs) more ∙ sym (append_assoc d ms ss) ∙ ap (λ zs. zs ++ ss) one ∙ append_assoc xs s ss)

  pub keeps_the_last : KeepsTheLast T
  keeps_the_last [] a b run =
      let same : b.messages.items ≡ a.messages.items = ap (λ x. x.messages.items) run in (
        ([], same ∙ sym (append-nil a.messages.items)),
        (let sent : b.sent ≡ a.sent = ap (λ x. x.sent) run in omega (arith, sent)),
        (λ le. let count : length b.messages.items ≡ length a.messages.items = ap length same in let capacity : b.capacity ≡ a.capacity = ap (λ x. x.capacity) run in omega (arith, count, capacity, le)),
      )
  keeps_the_last (e ∷ es) a b (m, step, rest) =
      let one : Keeping e a m = step_keeps e a m step in
      let more : (Gone (m.messages.items ++ all_sent es) b.messages.items) × (b.sent ≡ m.sent + length (all_sent es)) × (length m.messages.items ≤ m.capacity → length b.messages.items ≤ b.capacity) = keeps_the_last es m b rest in (
        gone_on a.messages.items m.messages.items b.messages.items (sent_by e) (all_sent es) one.gone more.0,
        (let count : length (sent_by e ++ all_sent es) ≡ length (sent_by e) + length (all_sent es) = length-append (sent_by e) (all_sent es) in omega (arith, one.counts, more.1, count)),
        (λ le. more.2 (one.fits le)),
      )

  later : (d : T) (ds : List T) (i : ℕ) → length (d ∷ ds) + i ≡ suc (length ds + i)
  later d ds i = omega arith

  -- an element of a list after others
  after : (ds xs : List T) (i : ℕ) (x : T) → slice_index_or (ds ++ xs) (length ds + i) x ≡ slice_index_or xs i x
  after [] xs i x = ap (λ n. slice_index_or xs n x) (first i)
  after (d ∷ ds) xs i x = ap (λ n. slice_index_or (d ∷ (ds ++ xs)) n x) (later d ds i) ∙ after ds xs i x

  pub in_order : GetsEachInOrder T
  in_order es a b i next x valid run s =
      let all = keeps_the_last es a b run in
      let gone : List T = all.0.0 in
      let sent : List T = all_sent es in
      let messages : List T = b.messages.items in
      let whole : gone ++ messages ≡ a.messages.items ++ sent = all.0.1 in
      let count : length gone + length messages ≡ length a.messages.items + length sent = sym (length-append gone messages) ∙ ap length whole ∙ length-append a.messages.items sent in
      let place : length gone + (a.sent + i - oldest b) ≡ length a.messages.items + i = omega (arith, count, all.1, valid, s.0, s.1) in (
        omega (arith, all.1, s.1),
        s.2 ∙ sym (after gone messages (a.sent + i - oldest b) x) ∙ ap (λ n. slice_index_or (gone ++ messages) n x) place ∙ ap (λ zs. slice_index_or zs (length a.messages.items + i) x) whole ∙ after a.messages.items sent i x,
        s.3,
      )

  step_shut : (e : Event T) (a b : Broadcast T) → a.is_closed ≡ true → Step a e b → (b.is_closed ≡ true) × (sent_by e ≡ [])
  step_shut (was_sent x (Ok done)) a b c s = absurd (both a.is_closed c s.0)
  step_shut (was_sent x (Err (unsent.Closed y))) a b c s = (ap (λ o. o.is_closed) s.2 ∙ c, refl)
  step_shut (was_sent x (Err (unsent.Memory y))) a b c s = absurd (both a.is_closed c s.0)
  step_shut (received n ticket me (asked.Got r)) a b c s = (s.2.3 ∙ c, refl)
  step_shut (received n ticket me asked.Waits) a b c s = (s.2.3 ∙ c, refl)
  step_shut (received n ticket me (asked.Joined t)) a b c s = (s.2.3 ∙ c, refl)
  step_shut (received n ticket me asked.Memory) a b c s = (s.2.3 ∙ c, refl)
  step_shut closed a b c s = (s.0, refl)
  step_shut (gave_up ticket me) a b c s = (s.1.3 ∙ c, refl)
  step_shut (served first) a b c s = (s.1.3 ∙ c, refl)

  pub nothing_after : NothingAfterClose T
  nothing_after [] a b c run = (ap (λ o. o.is_closed) run ∙ c, refl)
  nothing_after (e ∷ es) a b c (m, step, rest) =
      let one : (m.is_closed ≡ true) × (sent_by e ≡ []) = step_shut e a m c step in
      let more : (b.is_closed ≡ true) × (all_sent es ≡ []) = nothing_after es m b one.0 rest in
      (more.0, ap (λ xs. xs ++ all_sent es) one.1 ∙ more.1)

  takes_if : (a b : Broadcast T) (first : Option Entry) (c : Bool) → TakesBelow c a.cleared a.queue first b.queue → Rising a.queue → Rising b.queue
  takes_if a b first c s rising = takes_rising a.queue b.queue first (c || starts_below a.cleared a.queue.waiters.items) s rising

  step_rises : (e : Event T) (a b : Broadcast T) → Rising a.queue → Step a e b → Rising b.queue
  step_rises (was_sent x (Ok done)) a b rising s = kept_queue a.queue b.queue s.6 rising
  step_rises (was_sent x (Err (unsent.Closed y))) a b rising s = kept_queue a.queue b.queue (ap (λ o. o.queue) s.2) rising
  step_rises (was_sent x (Err (unsent.Memory y))) a b rising s = kept_queue a.queue b.queue s.3.4 rising
  step_rises (received n ticket me (asked.Got r)) a b rising s = leaves_rises a.queue b.queue ticket me 1 s.1 rising
  step_rises (received n ticket me asked.Waits) a b rising s = asks_rises {G = Received T} a.queue b.queue ticket me 1 0 asked.Waits s.1 rising
  step_rises (received n ticket me (asked.Joined t)) a b rising s = asks_rises {G = Received T} a.queue b.queue ticket me 1 0 (asked.Joined t) s.1 rising
  step_rises (received n ticket me asked.Memory) a b rising s = asks_rises {G = Received T} a.queue b.queue ticket me 1 0 asked.Memory s.1 rising
  step_rises closed a b rising s = kept_queue a.queue b.queue s.5 rising
  step_rises (gave_up ticket me) a b rising s = leaves_rises a.queue b.queue ticket me 1 s.0 rising
  step_rises (served first) a b rising s = takes_if a b first a.is_closed s.0 rising

  run_rises : (es : List (Event T)) (a b : Broadcast T) → Rising a.queue → Run Step a es b → Rising b.queue
  run_rises [] a b rising run = kept_queue a.queue b.queue (ap (λ o. o.queue) run) rising
  run_rises (e ∷ es) a b rising (m, step, rest) = run_rises es m b (step_rises e a m rising step) rest

  pub no_broadcast : NoBroadcastLiesIdle T
  no_broadcast es a b k t rising run none listed = idle_if b.is_closed b.cleared b.queue.next k t b.queue.waiters.items (run_rises es a b rising run) none listed

  pub recv_listed : PendingRecvIsListed T
  recv_listed a b n ticket me k = ((λ s. waits_listed (Received T) a.queue b.queue me 1 0 k s.1), (λ s. joined_listed (Received T) a.queue b.queue me 1 0 k ticket s.1))

  receives_own : (a b : Broadcast T) (n : ℕ) (ticket : Option ℕ) (me : ℕ) (r : Asked (Received T)) → Receives a n ticket me r b → OwnIn ticket me a.queue b.queue
  receives_own a b n ticket me (asked.Got r) s = leaves_own a.queue b.queue ticket me 1 s.1
  receives_own a b n ticket me asked.Waits s = asks_own {G = Received T} a.queue b.queue ticket me 1 0 asked.Waits s.1
  receives_own a b n ticket me (asked.Joined t) s = asks_own {G = Received T} a.queue b.queue ticket me 1 0 (asked.Joined t) s.1
  receives_own a b n ticket me asked.Memory s = asks_own {G = Received T} a.queue b.queue ticket me 1 0 asked.Memory s.1

  pub takes_out_its_own : RecvTakesOutItsOwn T
  takes_out_its_own a b n ticket me p t is = ((λ r s. receives_own a b n ticket me r s p t is), (λ s. leaves_own a.queue b.queue ticket me 1 s.0 p t is))
