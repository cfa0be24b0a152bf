-- Tickets rise along a line.
use Rattle.std.proofs.Common.{◌≡◌, ◌+◌, ◌<◌, ◌≤◌, ℕ, Bool, true, false, MatchBool, List, [], ◌∷◌, ◌++◌, zero, suc, Option, Some, None, Result, Ok, Err, refl, sym, subst, arith}
use Rattle.std.specs.List.{remove}
use Rattle.std.specs.declared.alloc.AllocError.{AllocError}
use Rattle.mono_sync.specs.Runs.{Run}
use Rattle.mono_serve.specs.declared.buckets.Waiter.{Waiter}
use Rattle.mono_serve.specs.declared.buckets.Buckets.{Buckets}
use Rattle.mono_serve.specs.declared.buckets.Asked.TheVariants.{Granted, Waits, Short, Refused}
use Rattle.mono_serve.specs.BucketCalls.{place_of, is_there, Joins, GivesUp, GivesUpAt, Event, added, entered, asked, gave_up, handed, Step}
use Rattle.mono_serve.specs.Laws.{Rises, FirstComeFirstServed}

rises_low : (low high : ℕ) (ws : List Waiter) (next : ℕ) → high ≤ low → Rises low ws next → Rises high ws next
rises_low low high [] next le r = omega arith
rises_low low high (w ∷ ws) next le (above, below, rest) = (omega arith, below, rest)

rises_end : (low : ℕ) (ws : List Waiter) (next : ℕ) (w : Waiter) → w.ticket ≡ next → Rises low ws next → Rises low (ws ++ w ∷ []) (next + 1)
rises_end low [] next w same r = (omega arith, omega arith, omega arith)
rises_end low (v ∷ ws) next w same (above, below, rest) = (above, omega arith, rises_end (v.ticket + 1) ws next w same rest)

rises_removed : (low : ℕ) (ws : List Waiter) (next i : ℕ) → Rises low ws next → Rises low (remove ws i) next
rises_removed low [] next zero r = r
rises_removed low [] next (suc i) r = r
rises_removed low (w ∷ ws) next zero (above, below, rest) = rises_low (w.ticket + 1) low ws next (omega arith) rest
rises_removed low (w ∷ ws) next (suc i) (above, below, rest) = (above, below, rises_removed (w.ticket + 1) ws next i rest)

along : (xs ys : List Waiter) (n m : ℕ) → ys ≡ xs → m ≡ n → Rises 0 xs n → Rises 0 ys m
along xs ys n m p q r = subst (λ k. Rises 0 ys k) (sym q) (subst (λ zs. Rises 0 zs n) (sym p) r)

moved : (a b : Buckets) → b ≡ a → Rises 0 a.waiters.items a.next → Rises 0 b.waiters.items b.next
moved a b same r = subst (λ (s : Buckets). Rises 0 s.waiters.items s.next) (sym same) r

module _ (a b : Buckets) (r : Rises 0 a.waiters.items a.next) where
  left_rises : (me : ℕ) (o : Option ℕ) → GivesUpAt o a me b → Rises 0 b.waiters.items b.next
  left_rises me None same = moved a b same r
  left_rises me (Some i) s = along _ _ _ _ s.2 s.4 (rises_removed 0 _ _ i r)

  joined_rises : (bucket task : ℕ) (answer : Result ℕ AllocError) → Joins a bucket task answer b → Rises 0 b.waiters.items b.next
  joined_rises bucket task (Ok t) s = along _ _ _ _ s.1 s.2 (rises_end 0 _ _ (record { ticket = a.next; bucket = bucket; task = task }) refl r)
  joined_rises bucket task (Err e) s = along _ _ _ _ s.0.0 s.0.1 r

entered_rises : (a b : Buckets) (ticket bucket task : ℕ) (answer : Result ℕ AllocError) (c : Bool) → Rises 0 a.waiters.items a.next → MatchBool c ((answer ≡ Ok ticket) × (b ≡ a)) ((m : Buckets) × GivesUp a ticket task m × Joins m bucket task answer b)
    → Rises 0 b.waiters.items b.next
entered_rises a b ticket bucket task answer true r s = moved a b s.1 r
entered_rises a b ticket bucket task answer false r (m, left, joins) = joined_rises m b (left_rises a m r task (place_of a.waiters.items ticket) left) bucket task answer joins

step_rises : (e : Event) (a b : Buckets) → Rises 0 a.waiters.items a.next → Step a e b → Rises 0 b.waiters.items b.next
step_rises (added burst period answer) a b r s = along _ _ _ _ s.1.0 s.1.1 r
step_rises (entered None bucket task answer) a b r s = joined_rises a b r bucket task answer s
step_rises (entered (Some ticket) bucket task answer) a b r s = entered_rises a b ticket bucket task answer (is_there a.waiters.items ticket bucket task) r s
step_rises (asked nanos ticket bucket n me Waits) a b r s = moved a b s.1 r
step_rises (asked nanos ticket bucket n me Granted) a b r (m, tries, left) = left_rises m b (along _ _ _ _ tries.2.0 tries.2.1 r) me (place_of m.waiters.items ticket) left
step_rises (asked nanos ticket bucket n me (Short tick)) a b r s = along _ _ _ _ s.2.0 s.2.1 r
step_rises (asked nanos ticket bucket n me (Refused error)) a b r (m, tries, left) = left_rises m b (along _ _ _ _ tries.2.0 tries.2.1 r) me (place_of m.waiters.items ticket) left
step_rises (gave_up ticket me) a b r s = left_rises a b r me (place_of a.waiters.items ticket) s
step_rises (handed task) a b r s = along _ _ _ _ s.1 s.2 r

pub first_served : FirstComeFirstServed
first_served [] u v r run = moved u v run r
first_served (e ∷ es) u v r (m, step, rest) = first_served es m v (step_rises e u m r step) rest
