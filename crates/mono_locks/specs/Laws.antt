-- What laws on waiting tasks speak of.
use Rattle.std.specs.Prelude.{⊤, ◌≡◌, ◌<◌, ◌≤◌, ◌+◌, ℕ, List, [], ◌∷◌, Option, Some, None}
use Rattle.mono_locks.specs.declared.queues.Entry.{Entry}

-- The waiting tasks have rising tickets, the first at least `low`, the last below the next ticket.
abbrev pub Rises : ℕ → List Entry → ℕ → Type 0
Rises low [] next = low ≤ next
Rises low (w ∷ ws) next = (low ≤ w.ticket) × (w.ticket < next) × Rises (w.ticket + 1) ws next

-- Each waiting task asks for at most this amount.
abbrev pub AskAtMost : ℕ → List Entry → Type 0
AskAtMost most [] = ⊤
AskAtMost most (w ∷ ws) = (w.amount ≤ most) × AskAtMost most ws

-- The place of a future with this ticket, if it drew one.
abbrev pub IsPlaceOf : Option ℕ → List ℕ → Type 0
IsPlaceOf None p = ⊥
IsPlaceOf (Some k) p = p ≡ k ∷ []
