-- The calls of leases for whose keys tasks wait, and the effect of each.
use Rattle.std.specs.Prelude.{⊤, ◌≡◌, ◌==◌, ◌⊎◌, ◌+◌, ◌&&◌, ◌||◌, ℕ, Bool, true, false, not, List, [], ◌∷◌, ◌++◌, filter, if◌then◌else◌, MatchBool, Option, Some, None, Result, Ok, Err, is_some, slice_index_or, nat_lt}
use Rattle.std.specs.List.{list_any, position, remove}
use Rattle.std.specs.declared.alloc.AllocError.{AllocError}
use Rattle.mono_session.specs.Answers.{Answer}
use Rattle.mono_session.specs.Answers as answer
use Rattle.mono_session.specs.Calls.{Call}
use Rattle.mono_session.specs.Calls as call
use Rattle.mono_session.specs.Expirations.{NextClose, IsInTime}
use Rattle.mono_session.specs.Holders.{holds, waits}
use Rattle.mono_session.specs.Keeper.{Keeper, released}
use Rattle.mono_session.specs.Refinement.{StandsFor}
use Rattle.mono_session.specs.Steps as steps
use Rattle.mono_session.specs.declared.keeper.Sessions.{Sessions}
use Rattle.mono_session.specs.declared.error.SessionError.TheVariants as error
use Rattle.mono_task.specs.Owed.{Hands}
use Rattle.mono_serve.specs.Stands.{stands, tasks_in, stands_some}
use Rattle.mono_serve.specs.declared.leases.LockWaiter.{LockWaiter}
use Rattle.mono_serve.specs.declared.leases.Leases.{Leases}
use Rattle.mono_serve.specs.declared.leases.Claimed.{Claimed}
use Rattle.mono_serve.specs.declared.leases.Claimed.TheVariants as claim
use Rattle.mono_serve.specs.declared.leases.Looked.{Looked}
use Rattle.mono_serve.specs.declared.leases.Looked.TheVariants as look

-- The place of the future with this ticket.
abbrev pub place_of : List LockWaiter → ℕ → Option ℕ
place_of ws ticket = position (λ w. w.ticket == ticket) ws

-- Whether the future with this ticket waits.
abbrev pub has_ticket : List LockWaiter → ℕ → Bool
has_ticket ws ticket = is_some (place_of ws ticket)

-- Whether this task is the keeper.
abbrev pub is_keeper : Option ℕ → ℕ → Bool
is_keeper None task = false
is_keeper (Some t) task = t == task

-- Whether this task waits with the ticket.
abbrev pub is_there : List LockWaiter → ℕ → ℕ → Bool
is_there ws ticket task = list_any (λ w. (w.ticket == ticket) && (w.task == task)) ws

-- The task, and the place at which it waits: the key, and then the ticket.
abbrev pub task_of : LockWaiter → ℕ
task_of w = w.task

abbrev pub is_at : List ℕ → LockWaiter → Bool
is_at [] w = false
is_at (key ∷ []) w = false
is_at (key ∷ ticket ∷ []) w = (w.key == key) && (w.ticket == ticket)
is_at (key ∷ ticket ∷ n ∷ p) w = false

-- The tasks in the line, and after them those that are owed a wake.
abbrev pub standing : Leases → List LockWaiter
standing a = a.waiters.items ++ a.due.items

-- Whether this task is the keeper, or waits for a key, or is owed a wake.
abbrev pub lists_task : Leases → ℕ → Bool
lists_task a task = is_keeper a.keeper task || list_any (λ w. w.task == task) (standing a)

abbrev pub listed_in : Leases → List ℕ → ℕ → Bool
listed_in a p t = stands task_of is_at (standing a) p t

abbrev pub waiting_in : Leases → List ℕ
waiting_in a = tasks_in task_of (standing a)

-- The keeper's task, if it sleeps too long.
abbrev pub late_one : Bool → Option ℕ → Option ℕ
late_one late keeper = if late then keeper else None

abbrev pub one_if : Option ℕ → List ℕ
one_if None = []
one_if (Some task) = task ∷ []

-- The keeper is owed a wake first, and then the tasks that are due.
abbrev pub owed_by : Leases → List ℕ
owed_by a = one_if (late_one a.late a.keeper) ++ tasks_in task_of a.due.items

pub some_waits : (a : Leases) (p : List ℕ) (t : ℕ) → listed_in a p t ≡ true → list_any (λ u. u == t) (waiting_in a) ≡ true
some_waits a p t is = stands_some task_of is_at (standing a) p t is

-- The line without this task at the ticket.
abbrev pub without : List LockWaiter → ℕ → ℕ → List LockWaiter
without ws ticket me = filter (λ w. not ((w.ticket == ticket) && (w.task == me))) ws

abbrev pub SameLine : Leases → Leases → Type 0
SameLine a b = (b.waiters.items ≡ a.waiters.items) × (b.next ≡ a.next) × (b.due.items ≡ a.due.items)

-- The keeper sleeps as before.
abbrev pub SameRest : Leases → Leases → Type 0
SameRest a b = (b.keeper ≡ a.keeper) × (b.alarm ≡ a.alarm) × (b.late ≡ a.late)

-- The sessions change by this effect.
abbrev pub MovesTo : Sessions → (Keeper → Keeper → Type 0) → Sessions → Type 0
MovesTo a Effect b = (k : Keeper) → StandsFor a k → (l : Keeper) × StandsFor b l × Effect k l

abbrev pub Moves : Leases → (Keeper → Keeper → Type 0) → Leases → Type 0
Moves a Effect b = MovesTo a.sessions Effect b.sessions

-- The clock is shown a moment, and closes some sessions.
abbrev pub Shows : ℕ → Keeper → Keeper → Type 0
Shows nanos k l = (due : List ℕ) × steps.ClockStep k nanos (answer.Closed due) l

abbrev pub ShownTo : ℕ → Result ⊤ AllocError → Keeper → Keeper → Type 0
ShownTo nanos (Ok done) k l = Shows nanos k l
ShownTo nanos (Err lack) k l = l ≡ k

abbrev pub ShownAt : Leases → ℕ → Result ⊤ AllocError → Leases → Type 0
ShownAt a nanos result b = Moves a (ShownTo nanos result) b × SameLine a b × SameRest a b

-- The sessions answer a call, or are out of memory and stay the same.
abbrev pub MayAnswer : Call → Answer → Keeper → Keeper → Type 0
MayAnswer c told k l = steps.Step k c told l ⊎ ((told ≡ answer.Refused error.Memory) × (l ≡ k))

-- The clock is shown a moment before the call. If out of memory, the call is not made.
abbrev pub CallsAt : ℕ → Call → Answer → Keeper → Keeper → Type 0
CallsAt nanos c told k l = ((m : Keeper) × Shows nanos k m × MayAnswer c told m l) ⊎ ((told ≡ answer.Refused error.Memory) × (l ≡ k))

abbrev pub Calls : Leases → ℕ → Call → Answer → Leases → Type 0
Calls a nanos c told b = Moves a (CallsAt nanos c told) b × SameLine a b × SameRest a b

-- The answer of the sessions to a future that asks for a key.
abbrev pub told_of : Claimed → Answer
told_of claim.Held = answer.Held
told_of (claim.Waits ticket) = answer.Waits
told_of (claim.Refused refusal) = answer.Refused refusal

-- A task that waits behind others is at the end of the line with the next ticket. The line is the same otherwise.
abbrev pub Joins : Leases → ℕ → ℕ → ℕ → Claimed → Leases → Type 0
Joins a s key task claim.Held b = SameLine a b
Joins a s key task (claim.Waits ticket) b =
    (ticket ≡ a.next) × (b.waiters.items ≡ a.waiters.items ++ record { ticket = a.next; session = s; key = key; task = task } ∷ []) × (b.next ≡ a.next + 1) × (b.due.items ≡ a.due.items)
Joins a s key task (claim.Refused refusal) b = SameLine a b

-- A future asks for a key at a moment.
abbrev pub Claims : Leases → ℕ → ℕ → ℕ → ℕ → Claimed → Leases → Type 0
Claims a nanos s key task result b = Moves a (CallsAt nanos (call.Acquire s key) (told_of result)) b × Joins a s key task result b × SameRest a b

-- Whether the future is in the line, and its session in the key's queue behind another.
abbrev pub still_waits : List LockWaiter → ℕ → ℕ → ℕ → Keeper → Bool
still_waits ws ticket s key k = has_ticket ws ticket && waits k s key

-- This task has left the line at the ticket.
abbrev pub LeavesLine : Leases → ℕ → ℕ → Leases → Type 0
LeavesLine a ticket me b = (b.waiters.items ≡ without a.waiters.items ticket me) × (b.next ≡ a.next) × (b.due.items ≡ a.due.items)

-- The session of a future is out of the key's queue, and this task out of the line at the future's ticket.
abbrev pub GivesUp : Leases → ℕ → ℕ → ℕ → ℕ → Leases → Type 0
GivesUp a ticket s key me b = Moves a (λ k l. l ≡ released k s key) b × LeavesLine a ticket me b × SameRest a b

-- The answer to a future that waits, as the sessions are.
abbrev pub SeesIn : List LockWaiter → ℕ → ℕ → ℕ → Looked → Keeper → Type 0
SeesIn ws ticket s key (look.Waits t) k = still_waits ws ticket s key k ≡ true
SeesIn ws ticket s key look.Held k = (still_waits ws ticket s key k ≡ false) × (holds k s key ≡ true)
SeesIn ws ticket s key look.Lost k = (still_waits ws ticket s key k ≡ false) × (holds k s key ≡ false)
SeesIn ws ticket s key look.Memory k = still_waits ws ticket s key k ≡ true

-- A task is at the end of the line with the next ticket, or the line stays the same if out of memory.
abbrev pub LineJoins : Leases → ℕ → ℕ → ℕ → Result ℕ AllocError → Leases → Type 0
LineJoins a s key task (Ok ticket) b =
    (ticket ≡ a.next) × (b.waiters.items ≡ a.waiters.items ++ record { ticket = a.next; session = s; key = key; task = task } ∷ []) × (b.next ≡ a.next + 1) × (b.due.items ≡ a.due.items)
LineJoins a s key task (Err error) b = SameLine a b

-- A future that has its answer leaves the line. Another waits: at its ticket, or at the end of the line if this task does
-- not wait at it.
abbrev pub StaysOrLeaves : Leases → ℕ → ℕ → ℕ → ℕ → Looked → Leases → Type 0
StaysOrLeaves a ticket s key task (look.Waits t) b = MatchBool (is_there a.waiters.items ticket task) ((t ≡ ticket) × SameLine a b) (LineJoins a s key task (Ok t) b)
StaysOrLeaves a ticket s key task look.Held b = LeavesLine a ticket task b
StaysOrLeaves a ticket s key task look.Lost b = LeavesLine a ticket task b
StaysOrLeaves a ticket s key task look.Memory b = LeavesLine a ticket task b

-- A future whose session waits stays in the line. If out of memory, its session leaves the key's queue.
abbrev pub LingersIn : ℕ → ℕ → Looked → Keeper → Keeper → Type 0
LingersIn s key (look.Waits t) k l = l ≡ k
LingersIn s key look.Held k l = ⊥
LingersIn s key look.Lost k l = ⊥
LingersIn s key look.Memory k l = l ≡ released k s key

abbrev pub Lingers : Leases → ℕ → ℕ → ℕ → ℕ → Looked → Leases → Type 0
Lingers a ticket s key task result b = Moves a (LingersIn s key result) b × StaysOrLeaves a ticket s key task result b × SameRest a b

-- The sessions as a future that waits finds and leaves them.
abbrev pub SeesTo : List LockWaiter → ℕ → ℕ → ℕ → Looked → Keeper → Keeper → Type 0
SeesTo ws ticket s key (look.Waits t) k l = SeesIn ws ticket s key (look.Waits t) k × (l ≡ k)
SeesTo ws ticket s key look.Held k l = SeesIn ws ticket s key look.Held k × (l ≡ k)
SeesTo ws ticket s key look.Lost k l = SeesIn ws ticket s key look.Lost k × (l ≡ k)
SeesTo ws ticket s key look.Memory k l = SeesIn ws ticket s key look.Memory k × (l ≡ released k s key)

abbrev pub Sees : Leases → ℕ → ℕ → ℕ → ℕ → Looked → Leases → Type 0
Sees a ticket s key task result b = Moves a (SeesTo a.waiters.items ticket s key result) b × StaysOrLeaves a ticket s key task result b × SameRest a b

-- The sessions as a future that waits finds them at a moment. If out of memory, its session leaves the key's queue.
abbrev pub LooksIn : List LockWaiter → ℕ → ℕ → ℕ → ℕ → Looked → Keeper → Keeper → Type 0
LooksIn ws nanos ticket s key (look.Waits t) k l = Shows nanos k l × SeesIn ws ticket s key (look.Waits t) l
LooksIn ws nanos ticket s key look.Held k l = Shows nanos k l × SeesIn ws ticket s key look.Held l
LooksIn ws nanos ticket s key look.Lost k l = Shows nanos k l × SeesIn ws ticket s key look.Lost l
LooksIn ws nanos ticket s key look.Memory k l = ((m : Keeper) × Shows nanos k m × (l ≡ released m s key)) ⊎ (l ≡ released k s key)

-- A future that waits asks again at a moment.
abbrev pub Looks : Leases → ℕ → ℕ → ℕ → ℕ → ℕ → Looked → Leases → Type 0
Looks a nanos ticket s key task result b = Moves a (LooksIn a.waiters.items nanos ticket s key result) b × StaysOrLeaves a ticket s key task result b × SameRest a b

-- The place of the first task whose session no longer waits.
abbrev pub first_served : Keeper → List LockWaiter → Option ℕ
first_served k ws = position (λ w. not (waits k w.session w.key)) ws

-- The task at the place leaves the line, and is due.
abbrev pub ServesAt : Option ℕ → Leases → Option ℕ → Leases → Type 0
ServesAt None a task b = (task ≡ None) × (b.waiters.items ≡ a.waiters.items) × (b.due.items ≡ a.due.items)
ServesAt (Some i) a task b =
    (w : LockWaiter) × (w ≡ slice_index_or a.waiters.items i w) × (task ≡ Some w.task) × (b.waiters.items ≡ remove a.waiters.items i) × (b.due.items ≡ a.due.items ++ w ∷ [])

-- So does the first task whose session no longer waits, if there is one.
abbrev pub Serves : Leases → Option ℕ → Leases → Type 0
Serves a task b =
    (place : Option ℕ) × ((k : Keeper) → StandsFor a.sessions k → place ≡ first_served k a.waiters.items) × ServesAt place a task b × (b.sessions ≡ a.sessions) × (b.next ≡ a.next) × SameRest a b

-- These tasks leave the line one after another, until the session of each task in the line waits.
abbrev pub ServesAll : Leases → List ℕ → Leases → Type 0
ServesAll a [] b = Serves a None b
ServesAll a (task ∷ tasks) b = (m : Leases) × Serves a (Some task) m × ServesAll m tasks b

-- The next tick at which the clock may close a session. It is at most the closing tick of each open session.
abbrev pub IsNext : Sessions → Option ℕ → Type 0
IsNext sessions next = NextClose sessions next × ((k : Keeper) → StandsFor sessions k → IsInTime k next)

-- The keeper sleeps until that tick.
abbrev pub Rests : Leases → ℕ → Option ℕ → Leases → Type 0
Rests a task tick b = IsNext a.sessions tick × (b.keeper ≡ Some task) × (b.alarm ≡ tick) × (b.late ≡ false) × (b.sessions ≡ a.sessions) × SameLine a b

-- The task is the keeper no longer.
abbrev pub Forgets : Leases → ℕ → Leases → Type 0
Forgets a task b = (b.keeper ≡ (if is_keeper a.keeper task then None else a.keeper)) × (b.alarm ≡ a.alarm) × (b.late ≡ a.late) × (b.sessions ≡ a.sessions) × SameLine a b

-- Whether a keeper that sleeps until the alarm misses that tick.
abbrev pub is_late : Option ℕ → Option ℕ → Bool
is_late alarm None = false
is_late None (Some next) = true
is_late (Some alarm) (Some next) = nat_lt next alarm

-- It is noted whether the keeper would miss the next tick.
abbrev pub Notes : Leases → Leases → Type 0
Notes a b = ((next : Option ℕ) × IsNext a.sessions next × (b.late ≡ is_late a.alarm next)) × (b.keeper ≡ a.keeper) × (b.alarm ≡ a.alarm) × (b.sessions ≡ a.sessions) × SameLine a b

-- Each task is due whose session no longer waits, and it is noted whether the keeper sleeps too long.
abbrev pub Settles : Leases → Leases → Type 0
Settles a b = (m : Leases) × ((tasks : List ℕ) × ServesAll a tasks m) × Notes m b

-- So it is after the effect of a call.
abbrev pub Then : (Leases → Type 0) → Leases → Type 0
Then Effect b = (m : Leases) × Effect m × Settles m b

-- The first task that is due is taken out.
abbrev pub NextDue : Leases → Option ℕ → Leases → Type 0
NextDue a None b = (a.due.items ≡ []) × (b ≡ a)
NextDue a (Some task) b = (w : LockWaiter) × (task ≡ w.task) × (a.due.items ≡ w ∷ b.due.items) × (b.waiters.items ≡ a.waiters.items) × (b.sessions ≡ a.sessions) × SameRest a b

-- The first task that is owed a wake is handed out.
abbrev pub HandsOut : Leases → Option ℕ → Leases → Type 0
HandsOut a task b = Hands listed_in owed_by a task b × (b.waiters.items ≡ a.waiters.items) × (b.sessions ≡ a.sessions)

-- A call with its answer, or one step of what follows each call.
pub data Event : Type 0 where
  shown : (nanos : ℕ) → (answer : Result ⊤ AllocError) → Event
  called : (nanos : ℕ) → (call : Call) → (answer : Answer) → Event
  claimed : (nanos : ℕ) → (session : ℕ) → (key : ℕ) → (task : ℕ) → (answer : Claimed) → Event
  looked : (nanos : ℕ) → (ticket : ℕ) → (session : ℕ) → (key : ℕ) → (task : ℕ) → (answer : Looked) → Event
  gave_up : (ticket : ℕ) → (session : ℕ) → (key : ℕ) → (me : ℕ) → Event
  served : (task : Option ℕ) → Event
  noted : Event
  rested : (task : ℕ) → (tick : Option ℕ) → Event
  forgot : (task : ℕ) → Event
  handed : (task : Option ℕ) → Event

abbrev pub Step : Leases → Event → Leases → Type 0
Step a (shown nanos r) b = ShownAt a nanos r b
Step a (called nanos c r) b = Calls a nanos c r b
Step a (claimed nanos s key task r) b = Claims a nanos s key task r b
Step a (looked nanos ticket s key task r) b = Looks a nanos ticket s key task r b
Step a (gave_up ticket s key me) b = GivesUp a ticket s key me b
Step a (served task) b = Serves a task b
Step a noted b = Notes a b
Step a (rested task tick) b = Rests a task tick b
Step a (forgot task) b = Forgets a task b
Step a (handed task) b = HandsOut a task b
