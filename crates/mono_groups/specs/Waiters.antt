-- The tasks that wait for one thing, and the effect of their calls.
use Rattle.std.specs.Prelude.{Bool, true, false, not, ◌==◌, ◌&&◌, ◌≡◌, ◌+◌, ℕ, List, [], ◌∷◌, ◌++◌, filter, map, Option, Some, None}
use Rattle.std.specs.List.{list_any}
use Rattle.mono_groups.specs.declared.waiters.Asked.{Asked}
use Rattle.mono_groups.specs.declared.waiters.Asked.TheVariants as asked
use Rattle.mono_groups.specs.declared.waiters.Waiter.{Waiter}
use Rattle.mono_groups.specs.declared.waiters.Waiters.{Waiters}

-- Whether this task waits with this ticket.
abbrev pub waits_at : List Waiter → ℕ → ℕ → Bool
waits_at ws k t = list_any (λ w. (w.ticket == k) && (w.task == t)) ws

-- A place is a ticket.
abbrev pub lists_at : List Waiter → List ℕ → ℕ → Bool
lists_at ws [] t = false
lists_at ws (k ∷ []) t = waits_at ws k t
lists_at ws (k ∷ l ∷ p) t = false

-- Whether this task waits.
abbrev pub has_task : Waiters → ℕ → Bool
has_task a task = list_any (λ w. w.task == task) a.entries.items

-- The waiting tasks, in order.
abbrev pub tasks_of : List Waiter → List ℕ
tasks_of ws = map (λ w. w.task) ws

-- The waiting tasks without this one at this ticket.
abbrev pub without : List Waiter → ℕ → ℕ → List Waiter
without ws k t = filter (λ w. not ((w.ticket == k) && (w.task == t))) ws

-- Whether this task waits with the ticket of its future, if the future drew one.
abbrev pub has_place : Waiters → Option ℕ → ℕ → Bool
has_place a None t = false
has_place a (Some k) t = waits_at a.entries.items k t

-- The same tasks wait.
abbrev pub SameWaiters : Waiters → Waiters → Type 0
SameWaiters a b = (b.entries.items ≡ a.entries.items) × (b.next ≡ a.next)

-- A task is at the end, with the next ticket, or nothing changes if out of memory.
abbrev pub Joins : {G : Type 0} → Waiters → ℕ → Asked G → Waiters → Type 0
Joins a me (asked.Got g) b = ⊥
Joins a me asked.Waits b = ⊥
Joins a me (asked.Joined t) b = (t ≡ a.next) × (b.entries.items ≡ a.entries.items ++ record { ticket = a.next; task = me } ∷ []) × (b.next ≡ a.next + 1)
Joins a me asked.Memory b = SameWaiters a b

-- A future of this task waits: it keeps its place, or is at the end with a new ticket.
abbrev pub Stands : {G : Type 0} → Waiters → Option ℕ → ℕ → Asked G → Waiters → Type 0
Stands a ticket me (asked.Got g) b = ⊥
Stands a ticket me asked.Waits b = (has_place a ticket me ≡ true) × (b ≡ a)
Stands a ticket me (asked.Joined t) b = (has_place a ticket me ≡ false) × (t ≡ a.next) × (b.entries.items ≡ a.entries.items ++ record { ticket = a.next; task = me } ∷ []) × (b.next ≡ a.next + 1)
Stands a ticket me asked.Memory b = (has_place a ticket me ≡ false) × SameWaiters a b

-- A future leaves, in a turn of this task.
abbrev pub Leaves : Waiters → Option ℕ → ℕ → Waiters → Type 0
Leaves a None me b = b ≡ a
Leaves a (Some k) me b = (b.entries.items ≡ without a.entries.items k me) × (b.next ≡ a.next)

-- The first task leaves, if any.
abbrev pub Pops : Waiters → Option Waiter → Waiters → Type 0
Pops a None b = (a.entries.items ≡ []) × (b ≡ a)
Pops a (Some w) b = (a.entries.items ≡ w ∷ b.entries.items) × (b.next ≡ a.next)
