-- The laws of a barrier.
use Rattle.std.proofs.Common.{◌≡◌, ◌+◌, ◌-◌, ◌≤◌, Bool, true, false, cond, nat_lt, ℕ, List, [], ◌∷◌, Option, Some, None, ap, subst, ◌∙◌, arith}
use Rattle.mono_sync.specs.Runs.{Run}
use Rattle.mono_locks.specs.declared.queues.Asked.{Asked}
use Rattle.mono_locks.specs.declared.queues.Asked.TheVariants as asked
use Rattle.mono_locks.specs.declared.queues.Entry.{Entry}
use Rattle.mono_locks.specs.declared.barrier.Barrier.{Barrier}
use Rattle.mono_locks.specs.declared.barrier.BarrierWaitResult.{BarrierWaitResult}
use Rattle.mono_locks.specs.Queues.{below, starts_below}
use Rattle.mono_locks.specs.Barriers.{Arrives, arrived_without}
use Rattle.mono_locks.specs.BarrierRuns.{Event, waited, gave_up, served, Step, came_by, came, needed_by, needed, opened_by, opened}
use Rattle.mono_locks.specs.BarrierLaws.{NeverTooEarly, ShutUntilItOpens, OpensForAll, NoBarrierLiesIdle, PendingWaitIsListed, WaitTakesOutItsOwn}
use Rattle.mono_locks.proofs.AskLemmas.{asks_rises, asks_own, waits_listed, joined_listed}
use Rattle.mono_locks.proofs.LateLemmas.{below_late, all_below, takes_rising}
use Rattle.mono_locks.proofs.OwnLemmas.{OwnIn, leaves_own, same_own}
use Rattle.mono_locks.proofs.QueueLemmas.{Rising, kept_queue, leaves_rises}

-- what one call does to the count of those that came
record Counts (e : Event) (a b : Barrier) : Type 0 where
  parties : b.parties ≡ a.parties
  counts : needed_by a.parties e + b.arrived ≤ came_by e + a.arrived

fewer : (c : Bool) (n : ℕ) → cond c n (n - 1) ≤ n
fewer true n = omega arith
fewer false n = omega arith

without_fewer : (a : Barrier) (ticket : Option ℕ) → arrived_without a ticket ≤ a.arrived
without_fewer a None = omega arith
without_fewer a (Some k) = fewer (nat_lt k a.cleared) a.arrived

one_each : (parties arrived left : ℕ) → parties ≤ arrived + 1 → left ≡ 0 → parties + left ≤ 1 + arrived
one_each parties arrived left enough none = omega (arith, enough, none)

none_more : (arrived left : ℕ) → left ≤ arrived → 0 + left ≤ 0 + arrived
none_more arrived left le = omega (arith, le)

one_more : (arrived left : ℕ) → left ≡ arrived + 1 → 0 + left ≤ 1 + arrived
one_more arrived left is = omega (arith, is)

at_most : (n m : ℕ) → n ≡ m → n ≤ m
at_most n m is = omega (arith, is)

one_less : (n m : ℕ) → n ≡ m - 1 → n ≤ m
one_less n m is = omega (arith, is)

step_counts : (e : Event) (a b : Barrier) → Step a e b → Counts e a b
step_counts (waited None me (asked.Got r)) a b s = record { parties = s.5; counts = one_each a.parties a.arrived b.arrived s.1 s.2 }
step_counts (waited None me asked.Waits) a b s = absurd s
step_counts (waited None me (asked.Joined t)) a b s = record { parties = s.3.0; counts = one_more a.arrived b.arrived s.1 }
step_counts (waited None me asked.Memory) a b s = record { parties = s.3.0; counts = none_more a.arrived b.arrived (at_most _ _ s.1) }
step_counts (waited (Some k) me (asked.Got r)) a b s = record { parties = s.4.0; counts = none_more a.arrived b.arrived (at_most _ _ s.2) }
step_counts (waited (Some k) me asked.Waits) a b s = record { parties = s.3.0; counts = none_more a.arrived b.arrived (at_most _ _ s.1) }
step_counts (waited (Some k) me (asked.Joined t)) a b s = record { parties = s.3.0; counts = none_more a.arrived b.arrived (at_most _ _ s.1) }
step_counts (waited (Some k) me asked.Memory) a b s = record { parties = s.3.0; counts = none_more a.arrived b.arrived (one_less _ _ s.1) }
step_counts (gave_up ticket me) a b s = record { parties = s.2.0; counts = none_more a.arrived b.arrived (let h : b.arrived ≡ arrived_without a ticket = s.0 in omega (arith, h, without_fewer a ticket)) }
step_counts (served first) a b s = record { parties = s.2.0; counts = none_more a.arrived b.arrived (at_most _ _ s.1) }

more_counts : (n m a b c i j : ℕ) → n + b ≤ i + a → m + c ≤ j + b → n + m + c ≤ i + j + a
more_counts n m a b c i j one rest = omega (arith, one, rest)

pub never_too_early : NeverTooEarly
never_too_early [] a b run = (ap (λ x. x.parties) run, none_more a.arrived b.arrived (at_most _ _ (ap (λ x. x.arrived) run)))
never_too_early (e ∷ es) a b (m, step, rest) =
    let one : Counts e a m = step_counts e a m step in
    let more : (b.parties ≡ m.parties) × (needed m.parties es + b.arrived ≤ came es + m.arrived) = never_too_early es m b rest in
    let counts : needed a.parties es + b.arrived ≤ came es + m.arrived = subst (λ p. needed p es + b.arrived ≤ came es + m.arrived) one.parties more.1 in
    (more.0 ∙ one.parties, more_counts (needed_by a.parties e) (needed a.parties es) a.arrived m.arrived b.arrived (came_by e) (came es) one.counts counts)

one-zero : (n : ℕ) → 1 + n ≡ 0 → ⊥
one-zero n is = omega (arith, is)

step_shut : (e : Event) (a b : Barrier) → opened_by e ≡ 0 → Step a e b → b.cleared ≡ a.cleared
step_shut (waited None me (asked.Got r)) a b none s = absurd (one-zero 0 none)
step_shut (waited None me asked.Waits) a b none s = absurd s
step_shut (waited None me (asked.Joined t)) a b none s = s.3.1
step_shut (waited None me asked.Memory) a b none s = s.3.1
step_shut (waited (Some k) me (asked.Got r)) a b none s = s.4.1
step_shut (waited (Some k) me asked.Waits) a b none s = s.3.1
step_shut (waited (Some k) me (asked.Joined t)) a b none s = s.3.1
step_shut (waited (Some k) me asked.Memory) a b none s = s.3.1
step_shut (gave_up ticket me) a b none s = s.2.1
step_shut (served first) a b none s = s.2.1

pub shut : ShutUntilItOpens
shut [] a b run none = ap (λ x. x.cleared) run
shut (e ∷ es) a b (m, step, rest) none = shut es m b rest (omega (arith, none)) ∙ step_shut e a m (omega (arith, none)) step

step_rises : (e : Event) (a b : Barrier) → Rising a.queue → Step a e b → Rising b.queue
step_rises (waited None me (asked.Got r)) a b rising s = kept_queue a.queue b.queue s.4 rising
step_rises (waited None me asked.Waits) a b rising s = absurd s
step_rises (waited None me (asked.Joined t)) a b rising s = asks_rises {G = BarrierWaitResult} a.queue b.queue None me 1 0 (asked.Joined t) s.2 rising
step_rises (waited None me asked.Memory) a b rising s = asks_rises {G = BarrierWaitResult} a.queue b.queue None me 1 0 asked.Memory s.2 rising
step_rises (waited (Some k) me (asked.Got r)) a b rising s = leaves_rises a.queue b.queue (Some k) me 1 s.3 rising
step_rises (waited (Some k) me asked.Waits) a b rising s = asks_rises {G = BarrierWaitResult} a.queue b.queue (Some k) me 1 0 asked.Waits s.2 rising
step_rises (waited (Some k) me (asked.Joined t)) a b rising s = asks_rises {G = BarrierWaitResult} a.queue b.queue (Some k) me 1 0 (asked.Joined t) s.2 rising
step_rises (waited (Some k) me asked.Memory) a b rising s = asks_rises {G = BarrierWaitResult} a.queue b.queue (Some k) me 1 0 asked.Memory s.2 rising
step_rises (gave_up ticket me) a b rising s = leaves_rises a.queue b.queue ticket me 1 s.1 rising
step_rises (served first) a b rising s = takes_rising a.queue b.queue first (starts_below a.cleared a.queue.waiters.items) s.0 rising

run_rises : (es : List Event) (a b : Barrier) → Rising a.queue → Run Step a es b → Rising b.queue
run_rises [] a b rising run = kept_queue a.queue b.queue (ap (λ x. x.queue) run) rising
run_rises (e ∷ es) a b rising (m, step, rest) = run_rises es m b (step_rises e a m rising step) rest

pub opens_for_all : OpensForAll
opens_for_all es a b c me r rising run s = ap (λ n. below n c.queue.waiters.items) s.3 ∙ ap (λ q. below b.queue.next q.waiters.items) s.4 ∙ all_below 0 b.queue.next b.queue.waiters.items (run_rises es a b rising run)

pub no_barrier : NoBarrierLiesIdle
no_barrier es a b k t rising run none listed = below_late b.cleared b.queue.next k t b.queue.waiters.items (run_rises es a b rising run) none listed

pub wait_listed : PendingWaitIsListed
wait_listed a b None me k = ((λ s. waits_listed BarrierWaitResult a.queue b.queue me 1 0 k s.2), (λ s. joined_listed BarrierWaitResult a.queue b.queue me 1 0 k None s.2))
wait_listed a b (Some u) me k = ((λ s. waits_listed BarrierWaitResult a.queue b.queue me 1 0 k s.2), (λ s. joined_listed BarrierWaitResult a.queue b.queue me 1 0 k (Some u) s.2))

arrives_own : (a b : Barrier) (ticket : Option ℕ) (me : ℕ) (r : Asked BarrierWaitResult) → Arrives a ticket me r b → OwnIn ticket me a.queue b.queue
arrives_own a b None me (asked.Got r) s = same_own a.queue b.queue None me s.4
arrives_own a b None me asked.Waits s = absurd s
arrives_own a b None me (asked.Joined t) s = asks_own {G = BarrierWaitResult} a.queue b.queue None me 1 0 (asked.Joined t) s.2
arrives_own a b None me asked.Memory s = asks_own {G = BarrierWaitResult} a.queue b.queue None me 1 0 asked.Memory s.2
arrives_own a b (Some k) me (asked.Got r) s = leaves_own a.queue b.queue (Some k) me 1 s.3
arrives_own a b (Some k) me asked.Waits s = asks_own {G = BarrierWaitResult} a.queue b.queue (Some k) me 1 0 asked.Waits s.2
arrives_own a b (Some k) me (asked.Joined t) s = asks_own {G = BarrierWaitResult} a.queue b.queue (Some k) me 1 0 (asked.Joined t) s.2
arrives_own a b (Some k) me asked.Memory s = asks_own {G = BarrierWaitResult} a.queue b.queue (Some k) me 1 0 asked.Memory s.2

pub takes_out_its_own : WaitTakesOutItsOwn
takes_out_its_own a b ticket me p t is = ((λ r s. arrives_own a b ticket me r s p t is), (λ s. leaves_own a.queue b.queue ticket me 1 s.1 p t is))
