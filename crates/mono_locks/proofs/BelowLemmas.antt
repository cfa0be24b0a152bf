-- What a queue owes to those that joined it before some moment.
use Rattle.std.proofs.Common.{◌≡◌, ◌<◌, ◌||◌, ℕ, Bool, true, false, cond, MatchBool, List, [], ◌∷◌, length, Option, Some, None, refl, sym, ap, ◌∙◌, nat_lt, slice_index_or, arith}
use Rattle.mono_locks.specs.declared.queues.Entry.{Entry}
use Rattle.mono_locks.specs.declared.queues.Queue.{Queue}
use Rattle.mono_locks.specs.Queues.{Pops, TakesBelow, starts_below, below, owed_below, tasks_of}
use Rattle.mono_locks.proofs.WaitLemmas.{QueueKept, kept_tail}

some-none : (w : Entry) → Some w ≡ None → ⊥
some-none w e = cc

pub starts_at : (low : ℕ) (d : Entry) (ws : List Entry) → 0 < length ws → d ≡ slice_index_or ws 0 d → nat_lt d.ticket low ≡ starts_below low ws
starts_at low d [] some at = absurd (omega (arith, some))
starts_at low d (w ∷ ws) some at = ap (λ x. nat_lt x.ticket low) at

-- nobody is owed if the first is not
none_below : (low : ℕ) (ws : List Entry) → starts_below low ws ≡ false → below low ws ≡ []
none_below low [] is = refl
none_below low (w ∷ ws) is = ap (λ b. cond b (w.task ∷ below low ws) []) is

first_below : (low : ℕ) (w : Entry) (ws : List Entry) → starts_below low (w ∷ ws) ≡ true → below low (w ∷ ws) ≡ w.task ∷ below low ws
first_below low w ws is = ap (λ b. cond b (w.task ∷ below low ws) []) is

module _ (low : ℕ) (a b : Queue) where
  stays_if : (c : Bool) → MatchBool c (Pops a None b) (◌≡◌ {A = Option Entry} None None × (b ≡ a)) → b ≡ a
  stays_if true s = s.1
  stays_if false s = s.1

  pub below_stays : (is_closed : Bool) → TakesBelow is_closed low a None b → b ≡ a
  below_stays is_closed s = stays_if (is_closed || starts_below low a.waiters.items) s

  none_if : (c : Bool) → starts_below low a.waiters.items ≡ c → MatchBool c (Pops a None b) (◌≡◌ {A = Option Entry} None None × (b ≡ a)) → below low a.waiters.items ≡ []
  none_if true is s = ap (below low) s.0
  none_if false is s = none_below low a.waiters.items is

  pub below_none : (is_closed : Bool) → TakesBelow is_closed low a None b → owed_below is_closed low a ≡ []
  below_none true s = ap tasks_of s.0
  below_none false s = none_if (starts_below low a.waiters.items) refl s

  module _ (w : Entry) where
    first_if : (c : Bool) → starts_below low a.waiters.items ≡ c → MatchBool c (Pops a (Some w) b) ((Some w ≡ None) × (b ≡ a)) → below low a.waiters.items ≡ w.task ∷ below low b.waiters.items
    first_if true is s = ap (below low) s.0 ∙ first_below low w b.waiters.items (sym (ap (starts_below low) s.0) ∙ is)
    first_if false is s = absurd (some-none w s.0)

    pub below_first : (is_closed : Bool) → TakesBelow is_closed low a (Some w) b → owed_below is_closed low a ≡ w.task ∷ owed_below is_closed low b
    below_first true s = ap tasks_of s.0
    below_first false s = first_if (starts_below low a.waiters.items) refl s

    out_if : (c : Bool) → MatchBool c (Pops a (Some w) b) ((Some w ≡ None) × (b ≡ a)) → QueueKept w.task a b
    out_if true s = kept_tail w a.waiters.items b.waiters.items s.0
    out_if false s = absurd (some-none w s.0)

    pub below_out : (is_closed : Bool) → TakesBelow is_closed low a (Some w) b → QueueKept w.task a b
    below_out is_closed s = out_if (is_closed || starts_below low a.waiters.items) s
