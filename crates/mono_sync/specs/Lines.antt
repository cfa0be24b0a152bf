-- The tasks that wait in a line, and the effect of its calls.
use Rattle.std.specs.Prelude.{Bool, true, false, not, ◌==◌, ◌&&◌, ◌||◌, nat_lt, ◌≡◌, ◌<◌, ◌≤◌, ◌+◌, ◌-◌, ◌⊎◌, if◌then◌else◌, MatchBool, ℕ, zero, suc, List, [], ◌∷◌, ◌++◌, filter, map, length, Option, Some, None, Result, Ok, Err}
use Rattle.std.specs.List.{list_any, position}
use Rattle.std.specs.declared.alloc.AllocError.{AllocError}
use Rattle.mono_sync.specs.declared.lines.Waiter.{Waiter}
use Rattle.mono_sync.specs.declared.lines.Line.{Line}
use Rattle.mono_sync.specs.declared.lines.Coming.{Coming}
use Rattle.mono_sync.specs.declared.lines.Coming.TheVariants.{Waits, Free, Full}

-- Whether this task waits with this ticket.
abbrev pub waits_at : List Waiter → ℕ → ℕ → Bool
waits_at ws k t = list_any (λ w. (w.ticket == k) && (w.task == t)) ws

-- A place in a line is a ticket.
abbrev pub lists_at : List Waiter → List ℕ → ℕ → Bool
lists_at ws [] t = false
lists_at ws (k ∷ []) t = waits_at ws k t
lists_at ws (k ∷ l ∷ p) t = false

-- Whether this task waits in the line.
abbrev pub has_task : Line → ℕ → Bool
has_task a task = list_any (λ w. w.task == task) a.waiters.items

-- The waiting tasks, in order.
abbrev pub tasks_of : List Waiter → List ℕ
tasks_of ws = map (λ w. w.task) ws

-- The place of the future with this ticket.
abbrev pub place_of : List Waiter → ℕ → Option ℕ
place_of ws k = position (λ w. w.ticket == k) ws

-- The task of the future with this ticket.
abbrev pub holder_of : List Waiter → ℕ → Option ℕ
holder_of [] k = None
holder_of (w ∷ ws) k = if w.ticket == k then Some w.task else holder_of ws k

-- The waiting tasks, of which the one with this ticket is marked as one that has left.
abbrev pub marked : List Waiter → ℕ → ℕ → List Waiter
marked [] k t = []
marked (w ∷ ws) k t = if w.ticket == k then record { ticket = k; task = t; has_left = true } ∷ ws else w ∷ marked ws k t

-- The waiting tasks without this one at this ticket.
abbrev pub without : List Waiter → ℕ → ℕ → List Waiter
without ws k t = filter (λ w. not ((w.ticket == k) && (w.task == t))) ws

-- The tasks that can be served with this many grants. A task whose future has left takes none.
abbrev pub due : ℕ → List Waiter → List ℕ
due n [] = []
due zero (w ∷ ws) = []
due (suc n) (w ∷ ws) = w.task ∷ due (if w.has_left then suc n else n) ws

-- The line is the same.
abbrev pub SameLine : Line → Line → Type 0
SameLine a b = (b.waiters.items ≡ a.waiters.items) × (b.granted ≡ a.granted) × (b.next ≡ a.next)

-- A task is at the end of the line, with the next ticket, or the line stays the same if out of memory.
abbrev pub Joins : Line → ℕ → Result ℕ AllocError → Line → Type 0
Joins a task (Ok t) b = (t ≡ a.next) × (b.waiters.items ≡ a.waiters.items ++ record { ticket = a.next; task = task; has_left = false } ∷ []) × (b.granted ≡ a.granted) × (b.next ≡ a.next + 1)
Joins a task (Err e) b = SameLine a b

-- The future with this ticket is marked as one that has left, and its task is woken in its turn.
abbrev pub Marks : Line → ℕ → ℕ → Line → Type 0
Marks a k t b = (b.waiters.items ≡ marked a.waiters.items k t) × (b.granted ≡ a.granted) × (b.next ≡ a.next)

-- A future that does not wait has collected its grant, if there is one.
abbrev pub Collects : Line → Line → Type 0
Collects a b = (b.waiters.items ≡ a.waiters.items) × (b.granted ≡ a.granted - 1) × (b.next ≡ a.next)

-- There is room for a future if `room` is more than what others have.
abbrev pub Fits : ℕ → ℕ → Coming → Type 0
Fits taken room Waits = ⊥
Fits taken room Free = taken < room
Fits taken room Full = room ≤ taken

-- A future that was not served has room after all that wait and all that were served.
abbrev pub HasRoom : Line → ℕ → Coming → Type 0
HasRoom a room r = Fits (a.granted + length a.waiters.items) room r

-- A future asks by the task that waits with its ticket, if any. If none does and the ticket was drawn, the future was served.
-- A number that was never drawn is no ticket.
abbrev pub ComesOf : Option ℕ → Line → ℕ → ℕ → ℕ → Coming → Line → Type 0
ComesOf None a k me room r b = MatchBool (nat_lt k a.next) (Fits b.granted room r × Collects a b) (HasRoom b room r × (b ≡ a))
ComesOf (Some t) a k me room r b = MatchBool (t == me) ((r ≡ Waits) × (b ≡ a)) (HasRoom b room r × Marks a k t b)

-- A future of this task asks. It still waits, or was served and collects its grant, or does not wait.
abbrev pub Comes : Line → Option ℕ → ℕ → ℕ → Coming → Line → Type 0
Comes a None me room r b = HasRoom b room r × (b ≡ a)
Comes a (Some k) me room r b = ComesOf (holder_of a.waiters.items k) a k me room r b

abbrev pub LeavesOf : Option ℕ → Line → ℕ → ℕ → Line → Type 0
LeavesOf None a k me b = MatchBool (nat_lt k a.next) (Collects a b) (b ≡ a)
LeavesOf (Some t) a k me b = MatchBool (t == me) ((b.waiters.items ≡ without a.waiters.items k me) × (b.granted ≡ a.granted) × (b.next ≡ a.next)) (Marks a k t b)

-- A future leaves in a turn of this task. If another task waits with its ticket, that one is woken in its turn. A number that
-- was never drawn changes nothing.
abbrev pub Leaves : Line → Option ℕ → ℕ → Line → Type 0
Leaves a None me b = b ≡ a
Leaves a (Some k) me b = LeavesOf (holder_of a.waiters.items k) a k me b

-- The first task leaves the line, if any, and no grant is reserved for it.
abbrev pub Pops : Line → Option Waiter → Line → Type 0
Pops a None b = (a.waiters.items ≡ []) × (b ≡ a)
Pops a (Some w) b = (a.waiters.items ≡ w ∷ b.waiters.items) × (b.granted ≡ a.granted) × (b.next ≡ a.next)

-- The first task leaves the line if fewer than `room` grants are not collected. A grant is reserved for it, unless its
-- future has left.
abbrev pub Serves : Line → ℕ → Option Waiter → Line → Type 0
Serves a room None b = ((room ≤ a.granted) ⊎ (a.waiters.items ≡ [])) × (b ≡ a)
Serves a room (Some w) b = (a.granted < room) × (a.waiters.items ≡ w ∷ b.waiters.items) × (b.granted ≡ (if w.has_left then a.granted else a.granted + 1)) × (b.next ≡ a.next)

-- The tasks that are to be woken: those for which there is room, and all once the value was closed.
abbrev pub owed_of : Bool → ℕ → Line → List ℕ
owed_of is_closed room a = if is_closed then tasks_of a.waiters.items else due (room - a.granted) a.waiters.items

-- The first of them leaves the line.
abbrev pub Takes : Bool → ℕ → Line → Option Waiter → Line → Type 0
Takes is_closed room a first b = MatchBool is_closed (Pops a first b) (Serves a room first b)

-- Whether the first task drew its ticket before this one was the next.
abbrev pub starts_below : ℕ → List Waiter → Bool
starts_below low [] = false
starts_below low (w ∷ ws) = nat_lt w.ticket low

-- The first tasks, as long as they drew their tickets before this one was the next.
abbrev pub below : ℕ → List Waiter → List ℕ
below low [] = []
below low (w ∷ ws) = if nat_lt w.ticket low then w.task ∷ below low ws else []

-- The tasks that are to be woken: those that drew their tickets before this one was the next, and all once the value was
-- closed.
abbrev pub owed_below : Bool → ℕ → Line → List ℕ
owed_below is_closed low a = if is_closed then tasks_of a.waiters.items else below low a.waiters.items

-- The first of them leaves the line.
abbrev pub TakesBelow : Bool → ℕ → Line → Option Waiter → Line → Type 0
TakesBelow is_closed low a first b = MatchBool (is_closed || starts_below low a.waiters.items) (Pops a first b) ((first ≡ None) × (b ≡ a))

-- Whether a future has the place of the only one that may wait: it waits, or was served.
abbrev pub is_held : Line → Bool
is_held a = nat_lt 0 a.granted || list_any (λ w. not w.has_left) a.waiters.items
