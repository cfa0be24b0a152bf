-- One token, and the effect of its calls.
use Rattle.std.specs.Prelude.{⊤, Bool, true, ◌≡◌, if◌then◌else◌, MatchBool, ℕ, List, [], Option, Some, None}
use Rattle.mono_groups.specs.declared.waiters.Asked.{Asked}
use Rattle.mono_groups.specs.declared.waiters.Asked.TheVariants as asked
use Rattle.mono_groups.specs.declared.waiters.Waiter.{Waiter}
use Rattle.mono_groups.specs.declared.nodes.Token.{Token}
use Rattle.mono_groups.specs.Waiters.{lists_at, tasks_of, Leaves, Pops, Stands}

-- The tasks that wait for the token, in order.
abbrev pub waiting_in : Token → List ℕ
waiting_in x = tasks_of x.waiters.entries.items

-- A place is a ticket.
abbrev pub listed_by : Token → List ℕ → ℕ → Bool
listed_by x = lists_at x.waiters.entries.items

-- The tasks that are to be woken: all once the token was cancelled.
abbrev pub owed_by : Token → List ℕ
owed_by x = if x.is_cancelled then waiting_in x else []

-- The token has its parent, and is cancelled if it was.
abbrev pub SameNode : Token → Token → Type 0
SameNode x y = (y.parent ≡ x.parent) × (y.is_cancelled ≡ x.is_cancelled)

-- A future of this task has its answer if the token was cancelled, and waits otherwise.
abbrev pub AsksNode : Token → Option ℕ → ℕ → Asked ⊤ → Token → Type 0
AsksNode x ticket me r y = SameNode x y × MatchBool x.is_cancelled
    ((r ≡ asked.Got tt) × Leaves x.waiters ticket me y.waiters)
    (Stands x.waiters ticket me r y.waiters)

-- A future leaves, in a turn of this task.
abbrev pub LeavesNode : Token → Option ℕ → ℕ → Token → Type 0
LeavesNode x ticket me y = SameNode x y × Leaves x.waiters ticket me y.waiters

-- The first task is taken out, if the token was cancelled.
abbrev pub PaysNode : Token → Option ℕ → Token → Type 0
PaysNode x None y = (owed_by x ≡ []) × (y ≡ x)
PaysNode x (Some t) y = SameNode x y × (x.is_cancelled ≡ true) × ((w : Waiter) × (w.task ≡ t) × Pops x.waiters (Some w) y.waiters)
