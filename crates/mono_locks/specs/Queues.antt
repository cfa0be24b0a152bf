-- The tasks that wait in a queue, and the effect of its calls.
use Rattle.std.specs.Prelude.{Bool, true, false, not, ◌==◌, ◌&&◌, ◌||◌, nat_lt, nat_le, ◌≡◌, ◌+◌, ◌-◌, if◌then◌else◌, MatchBool, ℕ, List, [], ◌∷◌, ◌++◌, filter, map, Option, Some, None, Result, Ok, Err}
use Rattle.std.specs.List.{list_any, position}
use Rattle.std.specs.declared.alloc.AllocError.{AllocError}
use Rattle.mono_locks.specs.declared.queues.Coming.{Coming}
use Rattle.mono_locks.specs.declared.queues.Coming.TheVariants.{Waits, Free, Full}
use Rattle.mono_locks.specs.declared.queues.Asked.{Asked}
use Rattle.mono_locks.specs.declared.queues.Asked.TheVariants as asked
use Rattle.mono_locks.specs.declared.queues.Entry.{Entry}
use Rattle.mono_locks.specs.declared.queues.Queue.{Queue}

-- Whether this task waits with this ticket.
abbrev pub waits_at : List Entry → ℕ → ℕ → Bool
waits_at ws k t = list_any (λ w. (w.ticket == k) && (w.task == t)) ws

-- A place in a queue is a ticket.
abbrev pub lists_at : List Entry → List ℕ → ℕ → Bool
lists_at ws [] t = false
lists_at ws (k ∷ []) t = waits_at ws k t
lists_at ws (k ∷ l ∷ p) t = false

-- Whether this task waits in the queue.
abbrev pub has_task : Queue → ℕ → Bool
has_task a task = list_any (λ w. w.task == task) a.waiters.items

-- The waiting tasks, in order.
abbrev pub tasks_of : List Entry → List ℕ
tasks_of ws = map (λ w. w.task) ws

-- Whether no task waits.
abbrev pub is_empty : List Entry → Bool
is_empty [] = true
is_empty (w ∷ ws) = false

-- The place of the future with this ticket.
abbrev pub place_of : List Entry → ℕ → Option ℕ
place_of ws k = position (λ w. w.ticket == k) ws

-- The task of the future with this ticket.
abbrev pub holder_of : List Entry → ℕ → Option ℕ
holder_of [] k = None
holder_of (w ∷ ws) k = if w.ticket == k then Some w.task else holder_of ws k

-- The waiting tasks, of which the one with this ticket is marked as one that has left.
abbrev pub marked : List Entry → ℕ → ℕ → List Entry
marked [] k t = []
marked (w ∷ ws) k t = if w.ticket == k then record { ticket = k; task = t; amount = 0 } ∷ ws else w ∷ marked ws k t

-- The waiting tasks without this one at this ticket.
abbrev pub without : List Entry → ℕ → ℕ → List Entry
without ws k t = filter (λ w. not ((w.ticket == k) && (w.task == t))) ws

-- Whether a task waits, and the first asks for at most this amount.
abbrev pub starts_within : ℕ → List Entry → Bool
starts_within n [] = false
starts_within n (w ∷ ws) = nat_le w.amount n

-- The first tasks, as long as there is enough for all of them.
abbrev pub due : ℕ → List Entry → List ℕ
due n [] = []
due n (w ∷ ws) = if nat_le w.amount n then w.task ∷ due (n - w.amount) ws else []

-- Whether no task waits and there is room for this amount, after what is reserved.
abbrev pub has_room : Queue → ℕ → ℕ → Bool
has_room a n room = is_empty a.waiters.items && nat_le n (room - a.granted)

-- The queue is the same.
abbrev pub SameQueue : Queue → Queue → Type 0
SameQueue a b = (b.waiters.items ≡ a.waiters.items) × (b.granted ≡ a.granted) × (b.next ≡ a.next)

-- A task is at the end of the queue, with the next ticket, or the queue stays the same if out of memory.
abbrev pub Joins : Queue → ℕ → ℕ → Result ℕ AllocError → Queue → Type 0
Joins a task n (Ok t) b = (t ≡ a.next) × (b.waiters.items ≡ a.waiters.items ++ record { ticket = a.next; task = task; amount = n } ∷ []) × (b.granted ≡ a.granted) × (b.next ≡ a.next + 1)
Joins a task n (Err e) b = SameQueue a b

-- The future with this ticket is marked as one that has left, and its task is woken in its turn.
abbrev pub Marks : Queue → ℕ → ℕ → Queue → Type 0
Marks a k t b = (b.waiters.items ≡ marked a.waiters.items k t) × (b.granted ≡ a.granted) × (b.next ≡ a.next)

-- A future that does not wait has collected what was reserved for it.
abbrev pub Collects : Queue → ℕ → Queue → Type 0
Collects a n b = (b.waiters.items ≡ a.waiters.items) × (b.granted ≡ a.granted - n) × (b.next ≡ a.next)

-- A future that does not wait goes on if there is room for it.
abbrev pub Fits : Bool → Coming → Type 0
Fits b Waits = ⊥
Fits b Free = b ≡ true
Fits b Full = b ≡ false

-- A future asks by the task that waits with its ticket, if any. One that was served has room beside what is reserved for
-- others. One that waited for another task has lost its place.
abbrev pub ComesOf : Option ℕ → Queue → ℕ → ℕ → ℕ → ℕ → Coming → Queue → Type 0
ComesOf None a k me n room r b = Fits (nat_le n (room - b.granted)) r × Collects a n b
ComesOf (Some t) a k me n room r b = MatchBool (t == me) ((r ≡ Waits) × (b ≡ a)) (Fits (has_room b n room) r × Marks a k t b)

-- A future of this task asks for an amount. It still waits, or was served and collects it, or does not wait.
abbrev pub Comes : Queue → Option ℕ → ℕ → ℕ → ℕ → Coming → Queue → Type 0
Comes a None me n room r b = Fits (has_room b n room) r × (b ≡ a)
Comes a (Some k) me n room r b = ComesOf (holder_of a.waiters.items k) a k me n room r b

-- A future of this task asks for an amount. It still waits, or has it, or waits from now on.
abbrev pub Asks : {G : Type 0} → Queue → Option ℕ → ℕ → ℕ → ℕ → Asked G → Queue → Type 0
Asks a ticket me n room (asked.Got g) b = Comes a ticket me n room Free b
Asks a ticket me n room asked.Waits b = Comes a ticket me n room Waits b
Asks a ticket me n room (asked.Joined t) b = (q : Queue) × (Comes a ticket me n room Full q × Joins q me n (Ok t) b)
Asks a ticket me n room asked.Memory b = (q : Queue) × (Comes a ticket me n room Full q × SameQueue q b)

-- The first fact holds of what the future got, and the second if it got nothing.
abbrev pub IfGot : {G : Type 0} → Asked G → (G → Type 0) → Type 0 → Type 0
IfGot (asked.Got g) P Q = P g
IfGot asked.Waits P Q = Q
IfGot (asked.Joined t) P Q = Q
IfGot asked.Memory P Q = Q

-- What the future got, if anything.
abbrev pub got : {G : Type 0} → Asked G → List G
got (asked.Got g) = g ∷ []
got asked.Waits = []
got (asked.Joined t) = []
got asked.Memory = []

abbrev pub LeavesOf : Option ℕ → Queue → ℕ → ℕ → ℕ → Queue → Type 0
LeavesOf None a k me n b = Collects a n b
LeavesOf (Some t) a k me n b = MatchBool (t == me) ((b.waiters.items ≡ without a.waiters.items k me) × (b.granted ≡ a.granted) × (b.next ≡ a.next)) (Marks a k t b)

-- A future leaves in a turn of this task. If another task waits with its ticket, that one is woken in its turn.
abbrev pub Leaves : Queue → Option ℕ → ℕ → ℕ → Queue → Type 0
Leaves a None me n b = b ≡ a
Leaves a (Some k) me n b = LeavesOf (holder_of a.waiters.items k) a k me n b

-- The first task leaves the queue, if any, and nothing is reserved for it.
abbrev pub Pops : Queue → Option Entry → Queue → Type 0
Pops a None b = (a.waiters.items ≡ []) × (b ≡ a)
Pops a (Some w) b = (a.waiters.items ≡ w ∷ b.waiters.items) × (b.granted ≡ a.granted) × (b.next ≡ a.next)

-- The first task leaves the queue if there is room for its amount, which is reserved for it.
abbrev pub Serves : Queue → ℕ → Option Entry → Queue → Type 0
Serves a room None b = (starts_within (room - a.granted) a.waiters.items ≡ false) × (b ≡ a)
Serves a room (Some w) b = (nat_le w.amount (room - a.granted) ≡ true) × (a.waiters.items ≡ w ∷ b.waiters.items) × (b.granted ≡ a.granted + w.amount) × (b.next ≡ a.next)

-- The tasks that are to be woken: those for which there is room, and all once the value was closed.
abbrev pub owed_of : Bool → ℕ → Queue → List ℕ
owed_of is_closed room a = if is_closed then tasks_of a.waiters.items else due (room - a.granted) a.waiters.items

-- The first of them leaves the queue.
abbrev pub Takes : Bool → ℕ → Queue → Option Entry → Queue → Type 0
Takes is_closed room a first b = MatchBool is_closed (Pops a first b) (Serves a room first b)

-- Whether the first task drew its ticket before this one was the next.
abbrev pub starts_below : ℕ → List Entry → Bool
starts_below low [] = false
starts_below low (w ∷ ws) = nat_lt w.ticket low

-- The first tasks, as long as they drew their tickets before this one was the next.
abbrev pub below : ℕ → List Entry → List ℕ
below low [] = []
below low (w ∷ ws) = if nat_lt w.ticket low then w.task ∷ below low ws else []

-- The tasks that are to be woken: those that drew their tickets before this one was the next, and all once the value was
-- closed.
abbrev pub owed_below : Bool → ℕ → Queue → List ℕ
owed_below is_closed low a = if is_closed then tasks_of a.waiters.items else below low a.waiters.items

-- The first of them leaves the queue.
abbrev pub TakesBelow : Bool → ℕ → Queue → Option Entry → Queue → Type 0
TakesBelow is_closed low a first b = MatchBool (is_closed || starts_below low a.waiters.items) (Pops a first b) ((first ≡ None) × (b ≡ a))
