-- Tickets rise along a queue.
use Rattle.std.proofs.Common.{◌≡◌, ◌==◌, ◌&&◌, ◌+◌, ◌<◌, ◌≤◌, ℕ, Bool, true, false, not, cond, MatchBool, List, [], ◌∷◌, ◌++◌, Option, Some, None, Ok, Err, refl, sym, ap, subst, arith}
use Rattle.mono_locks.specs.declared.queues.Entry.{Entry}
use Rattle.mono_locks.specs.declared.queues.Queue.{Queue}
use Rattle.mono_locks.specs.declared.queues.Coming.{Coming}
use Rattle.mono_locks.specs.declared.queues.Coming.TheVariants.{Waits, Free, Full}
use Rattle.mono_locks.specs.Queues.{without, marked, holder_of, has_room, Fits, Marks, Comes, ComesOf, Leaves, LeavesOf, Joins, SameQueue, Pops, Takes}
use Rattle.mono_locks.specs.Laws.{Rises}
use Rattle.mono_locks.proofs.WaitLemmas.{same}

pub rises_low : (low high : ℕ) (ws : List Entry) (next : ℕ) → high ≤ low → Rises low ws next → Rises high ws next
rises_low low high [] next le r = omega arith
rises_low low high (w ∷ ws) next le (above, below, rest) = (omega arith, below, rest)

pub rises_end : (low : ℕ) (ws : List Entry) (next : ℕ) (w : Entry) → w.ticket ≡ next → Rises low ws next → Rises low (ws ++ w ∷ []) (next + 1)
rises_end low [] next w same r = (omega arith, omega arith, omega arith)
rises_end low (v ∷ ws) next w same (above, below, rest) = (above, omega arith, rises_end (v.ticket + 1) ws next w same rest)

rises_if : (b : Bool) (low : ℕ) (w : Entry) (ws : List Entry) (next : ℕ) → low ≤ w.ticket → w.ticket < next → Rises (w.ticket + 1) ws next → Rises low (cond b (w ∷ ws) ws) next
rises_if true low w ws next above below rest = (above, below, rest)
rises_if false low w ws next above below rest = rises_low (w.ticket + 1) low ws next (omega arith) rest

pub rises_without : (low : ℕ) (ws : List Entry) (next k u : ℕ) → Rises low ws next → Rises low (without ws k u) next
rises_without low [] next k u r = r
rises_without low (w ∷ ws) next k u (above, below, rest) = rises_if (not ((w.ticket == k) && (w.task == u))) low w (without ws k u) next above below (rises_without (w.ticket + 1) ws next k u rest)

rises_marked_if : (b : Bool) (low k u next : ℕ) (w : Entry) (ws : List Entry) → (w.ticket == k) ≡ b → low ≤ w.ticket → w.ticket < next → Rises (w.ticket + 1) ws next → Rises (w.ticket + 1) (marked ws k u) next
    → Rises low (cond b (record { ticket = k; task = u; amount = 0 } ∷ ws) (w ∷ marked ws k u)) next
rises_marked_if true low k u next w ws is above below rest more = subst (λ n. Rises low (record { ticket = n; task = u; amount = 0 } ∷ ws) next) (same w.ticket k is) (above, below, rest)
rises_marked_if false low k u next w ws is above below rest more = (above, below, more)

rises_marked : (low : ℕ) (ws : List Entry) (next k u : ℕ) → Rises low ws next → Rises low (marked ws k u) next
rises_marked low [] next k u r = r
rises_marked low (w ∷ ws) next k u (above, below, rest) = rises_marked_if (w.ticket == k) low k u next w ws refl above below rest (rises_marked (w.ticket + 1) ws next k u rest)

abbrev pub Rising : Queue → Type 0
Rising l = Rises 0 l.waiters.items l.next

along : (xs ys : List Entry) (n m : ℕ) → ys ≡ xs → m ≡ n → Rises 0 xs n → Rises 0 ys m
along xs ys n m p q r = subst (λ k. Rises 0 ys k) (sym q) (subst (λ zs. Rises 0 zs n) (sym p) r)

pub kept_queue : (a b : Queue) → b ≡ a → Rising a → Rising b
kept_queue a b same r = subst Rising (sym same) r

pub rests_rises : (a b : Queue) → SameQueue a b → Rising a → Rising b
rests_rises a b s r = along a.waiters.items b.waiters.items a.next b.next s.0 s.2 r

marks_rises : (a b : Queue) (k u : ℕ) → Marks a k u b → Rising a → Rising b
marks_rises a b k u s r = along (marked a.waiters.items k u) b.waiters.items a.next b.next s.0 s.2 (rises_marked 0 a.waiters.items a.next k u r)

module _ (a b : Queue) (k me n : ℕ) (rising : Rising a) where
  comes_if : (room : ℕ) (r : Coming) (u : ℕ) (c : Bool) → MatchBool c ((r ≡ Waits) × (b ≡ a)) (Fits (has_room b n room) r × Marks a k u b) → Rising b
  comes_if room r u true p = kept_queue a b p.1 rising
  comes_if room r u false p = marks_rises a b k u p.1 rising

  comes_of : (room : ℕ) (r : Coming) (o : Option ℕ) → ComesOf o a k me n room r b → Rising b
  comes_of room r None p = along a.waiters.items b.waiters.items a.next b.next p.1.0 p.1.2 rising
  comes_of room r (Some u) p = comes_if room r u (u == me) p

  leaves_if : (u : ℕ) (c : Bool) → MatchBool c ((b.waiters.items ≡ without a.waiters.items k me) × (b.granted ≡ a.granted) × (b.next ≡ a.next)) (Marks a k u b) → Rising b
  leaves_if u true p = along (without a.waiters.items k me) b.waiters.items a.next b.next p.0 p.2 (rises_without 0 a.waiters.items a.next k me rising)
  leaves_if u false p = marks_rises a b k u p rising

  leaves_of : (o : Option ℕ) → LeavesOf o a k me n b → Rising b
  leaves_of None p = along a.waiters.items b.waiters.items a.next b.next p.0 p.2 rising
  leaves_of (Some u) p = leaves_if u (u == me) p

pub comes_rises : (a b : Queue) (ticket : Option ℕ) (me n room : ℕ) (r : Coming) → Comes a ticket me n room r b → Rising a → Rising b
comes_rises a b None me n room r p rising = kept_queue a b p.1 rising
comes_rises a b (Some k) me n room r p rising = comes_of a b k me n rising room r (holder_of a.waiters.items k) p

pub leaves_rises : (a b : Queue) (ticket : Option ℕ) (me n : ℕ) → Leaves a ticket me n b → Rising a → Rising b
leaves_rises a b None me n p rising = kept_queue a b p rising
leaves_rises a b (Some k) me n p rising = leaves_of a b k me n rising (holder_of a.waiters.items k) p

pub joined_rises : (a b : Queue) (me n t : ℕ) → Joins a me n (Ok t) b → Rising a → Rising b
joined_rises a b me n t p rising = along (a.waiters.items ++ record { ticket = a.next; task = me; amount = n } ∷ []) b.waiters.items (a.next + 1) b.next p.1 p.3 (rises_end 0 a.waiters.items a.next (record { ticket = a.next; task = me; amount = n }) refl rising)

pub joins_rises : (a l b : Queue) (ticket : Option ℕ) (me n room t : ℕ) (r : Coming) → Comes a ticket me n room r l → Joins l me n (Ok t) b → Rising a → Rising b
joins_rises a l b ticket me n room t r p q rising = joined_rises l b me n t q (comes_rises a l ticket me n room r p rising)

pub stays_rises : (a l b : Queue) (ticket : Option ℕ) (me n room : ℕ) (r : Coming) → Comes a ticket me n room r l → SameQueue l b → Rising a → Rising b
stays_rises a l b ticket me n room r p q rising = rests_rises l b q (comes_rises a l ticket me n room r p rising)

tail_rises : (w : Entry) (ws : List Entry) (next : ℕ) → Rises 0 (w ∷ ws) next → Rises (w.ticket + 1) ws next
tail_rises w ws next r = r.2

popped_rises : (a b : Queue) (w : Entry) → a.waiters.items ≡ w ∷ b.waiters.items → b.next ≡ a.next → Rising a → Rises (w.ticket + 1) b.waiters.items b.next
popped_rises a b w first next r = subst (λ k. Rises (w.ticket + 1) b.waiters.items k) (sym next) (tail_rises w b.waiters.items a.next (subst (λ zs. Rises 0 zs a.next) first r))

pub popped_rising : (a b : Queue) (w : Entry) → a.waiters.items ≡ w ∷ b.waiters.items → b.next ≡ a.next → Rising a → Rising b
popped_rising a b w first next r = rises_low (w.ticket + 1) 0 b.waiters.items b.next (omega arith) (popped_rises a b w first next r)

-- the tickets that are left are greater than that of the first, which was taken out
pub first_rises : (c : Bool) (room : ℕ) (a b : Queue) (w : Entry) → Takes c room a (Some w) b → Rising a → Rises (w.ticket + 1) b.waiters.items b.next
first_rises true room a b w s r = popped_rises a b w s.0 s.2 r
first_rises false room a b w s r = popped_rises a b w s.1 s.3 r

pub takes_rises : (c : Bool) (room : ℕ) (a b : Queue) (first : Option Entry) → Takes c room a first b → Rising a → Rising b
takes_rises true room a b None s r = kept_queue a b s.1 r
takes_rises false room a b None s r = kept_queue a b s.1 r
takes_rises c room a b (Some w) s r = rises_low (w.ticket + 1) 0 b.waiters.items b.next (omega arith) (first_rises c room a b w s r)
