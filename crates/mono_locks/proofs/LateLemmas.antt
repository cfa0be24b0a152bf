-- Tasks that came late are owed nothing, and all that came before a moment are owed.
use Rattle.std.proofs.Common.{◌≡◌, ◌==◌, ◌&&◌, ◌+◌, ◌<◌, ◌≤◌, ℕ, Bool, true, false, cond, MatchBool, List, [], ◌∷◌, Option, Some, None, refl, sym, ap, subst, ◌∙◌, inl, inr, nat_lt, arith}
use Rattle.std.proofs.lemmas.Bool.{cases_lt, lt-ltb}
use Rattle.mono_locks.specs.declared.queues.Entry.{Entry}
use Rattle.mono_locks.specs.declared.queues.Queue.{Queue}
use Rattle.mono_locks.specs.Queues.{Pops, waits_at, below, tasks_of}
use Rattle.mono_locks.specs.Laws.{Rises}
use Rattle.mono_locks.proofs.QueueLemmas.{Rising, kept_queue, popped_rising}
use Rattle.mono_locks.proofs.WaitLemmas.{false-true, same, and_left, or_split}

cons-nil : (t : ℕ) (ts : List ℕ) → t ∷ ts ≡ [] → ⊥
cons-nil t ts e = cc

at_least : (low next k t : ℕ) (ws : List Entry) → Rises low ws next → waits_at ws k t ≡ true → low ≤ k
at_least low next k t [] r is = absurd (false-true is)
at_least low next k t (w ∷ ws) (above, below, rest) is = elim (or_split ((w.ticket == k) && (w.task == t)) (waits_at ws k t) is) [
  | inl here ↦ subst (λ n. low ≤ n) (same w.ticket k (and_left (w.ticket == k) (w.task == t) here)) above
  | inr later ↦ omega (arith, above, at_least (w.ticket + 1) next k t ws rest later)
]

not_less : (n m : ℕ) → (nat_lt n m ≡ true → ⊥) → m ≤ n
not_less n m apart = elim (cases_lt n m) [ inl less ↦ absurd (apart (lt-ltb n m less)) | inr past ↦ past ]

-- a queue whose first task came late has late tasks alone
late : (low next k t : ℕ) (w : Entry) (ws : List Entry) → Rises 0 (w ∷ ws) next → low ≤ w.ticket → waits_at (w ∷ ws) k t ≡ true → low ≤ k
late low next k t w ws (above, below, rest) first is = at_least low next k t (w ∷ ws) (first, below, rest) is

pub below_late : (low next k t : ℕ) (ws : List Entry) → Rises 0 ws next → below low ws ≡ [] → waits_at ws k t ≡ true → low ≤ k
below_late low next k t [] r none is = absurd (false-true is)
below_late low next k t (w ∷ ws) r none is = late low next k t w ws r (not_less w.ticket low (λ less. cons-nil w.task (below low ws) (sym (ap (λ c. cond c (w.task ∷ below low ws) []) less) ∙ none))) is

pub all_below : (low next : ℕ) (ws : List Entry) → Rises low ws next → below next ws ≡ tasks_of ws
all_below low next [] r = refl
all_below low next (w ∷ ws) (above, less, rest) = ap (λ c. cond c (w.task ∷ below next ws) []) (lt-ltb w.ticket next less) ∙ ap (λ ts. w.task ∷ ts) (all_below (w.ticket + 1) next ws rest)

pops_rising : (a b : Queue) (first : Option Entry) → Pops a first b → Rising a → Rising b
pops_rising a b None s r = kept_queue a b s.1 r
pops_rising a b (Some w) s r = popped_rising a b w s.0 s.2 r

pub takes_rising : (a b : Queue) (first : Option Entry) (c : Bool) → MatchBool c (Pops a first b) ((first ≡ None) × (b ≡ a)) → Rising a → Rising b
takes_rising a b first true s r = pops_rising a b first s r
takes_rising a b first false s r = kept_queue a b s.1 r
