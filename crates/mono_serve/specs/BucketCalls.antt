-- The calls of buckets for which tasks wait, and the effect of each.
use Rattle.std.specs.Prelude.{◌≡◌, ◌==◌, ◌&&◌, ◌⊎◌, ◌+◌, ℕ, Bool, true, false, if◌then◌else◌, MatchBool, List, [], ◌∷◌, ◌++◌, Option, Some, None, Result, Ok, Err, slice_index_or}
use Rattle.std.specs.List.{find, list_any, position, remove}
use Rattle.std.specs.declared.alloc.AllocError.{AllocError}
use Rattle.mono_model.specs.Memory.{OrLacksMemory}
use Rattle.mono_task.specs.Owed.{Hands}
use Rattle.mono_limit.specs.Limiter.{Limits, TakeAnswers, bucket_answer, with_bucket}
use Rattle.mono_limit.specs.Limits.{limits_of}
use Rattle.mono_limit.specs.Answers.{Due}
use Rattle.mono_limit.specs.Steps.{ClockStep}
use Rattle.mono_limit.specs.declared.LimitError.{LimitError}
use Rattle.mono_limit.specs.declared.LimitError.TheVariants.{Memory}
use Rattle.mono_limit.specs.declared.Take.{Take}
use Rattle.mono_limit.specs.declared.Take.TheVariants as take
use Rattle.mono_serve.specs.Stands.{stands, tasks_in, stands_some}
use Rattle.mono_serve.specs.declared.buckets.Waiter.{Waiter}
use Rattle.mono_serve.specs.declared.buckets.Buckets.{Buckets}
use Rattle.mono_serve.specs.declared.buckets.Asked.{Asked}
use Rattle.mono_serve.specs.declared.buckets.Asked.TheVariants.{Granted, Waits, Short, Refused}

-- The first task that waits for tokens of the bucket.
abbrev pub number_of : Option Waiter → Option ℕ
number_of None = None
number_of (Some w) = Some w.task

abbrev pub first_of : List Waiter → ℕ → Option ℕ
first_of ws bucket = number_of (find (λ w. w.bucket == bucket) ws)

abbrev pub has_ticket : Option Waiter → ℕ → Bool
has_ticket None ticket = false
has_ticket (Some w) ticket = w.ticket == ticket

-- Whether the future with this ticket is the first that waits for tokens of the bucket.
abbrev pub is_first : List Waiter → ℕ → ℕ → Bool
is_first ws bucket ticket = has_ticket (find (λ w. w.bucket == bucket) ws) ticket

-- The place of the future with this ticket.
abbrev pub place_of : List Waiter → ℕ → Option ℕ
place_of ws ticket = position (λ w. w.ticket == ticket) ws

-- Whether this task waits with the ticket for tokens of the bucket.
abbrev pub is_there : List Waiter → ℕ → ℕ → ℕ → Bool
is_there ws ticket bucket task = list_any (λ w. ((w.ticket == ticket) && (w.bucket == bucket)) && (w.task == task)) ws

-- Whether this task waits for tokens.
abbrev pub lists_task : Buckets → ℕ → Bool
lists_task a task = list_any (λ w. w.task == task) a.waiters.items

-- The task, and the place at which it waits: the bucket, and then the ticket.
abbrev pub task_of : Waiter → ℕ
task_of w = w.task

abbrev pub is_at : List ℕ → Waiter → Bool
is_at [] w = false
is_at (bucket ∷ []) w = false
is_at (bucket ∷ ticket ∷ []) w = (w.bucket == bucket) && (w.ticket == ticket)
is_at (bucket ∷ ticket ∷ n ∷ p) w = false

-- The tasks in the line, and after them those that are owed a wake.
abbrev pub standing : Buckets → List Waiter
standing a = a.waiters.items ++ a.due.items

abbrev pub listed_in : Buckets → List ℕ → ℕ → Bool
listed_in a p t = stands task_of is_at (standing a) p t

abbrev pub waiting_in : Buckets → List ℕ
waiting_in a = tasks_in task_of (standing a)

abbrev pub owed_by : Buckets → List ℕ
owed_by a = tasks_in task_of a.due.items

pub some_waits : (a : Buckets) (p : List ℕ) (t : ℕ) → listed_in a p t ≡ true → list_any (λ u. u == t) (waiting_in a) ≡ true
some_waits a p t is = stands_some task_of is_at (standing a) p t is

-- The limiter's clock is shown a moment, and then n tokens are taken. If out of memory, nothing is done.
abbrev pub TriesAt : Limits → ℕ → ℕ → ℕ → Result Take LimitError → Limits → Type 0
TriesAt u nanos bucket n result v =
    ((due : List ℕ) × (m : Limits) × ClockStep u nanos (Due due) m × TakeAnswers m bucket n result v) ⊎ ((result ≡ Err Memory) × (v ≡ u))

-- The line stays the same, and so does what is owed.
abbrev pub SameLine : Buckets → Buckets → Type 0
SameLine a b = (b.waiters.items ≡ a.waiters.items) × (b.next ≡ a.next) × (b.due.items ≡ a.due.items)

-- All stays the same but what is owed.
abbrev pub SameBut : Buckets → Buckets → Type 0
SameBut a b = (b.waiters.items ≡ a.waiters.items) × (b.next ≡ a.next) × (b.limiter ≡ a.limiter)

-- A bucket was added, or refused.
abbrev pub Adds : Buckets → ℕ → ℕ → Result ℕ LimitError → Buckets → Type 0
Adds a burst period result b =
    OrLacksMemory Memory (bucket_answer (limits_of a.limiter) burst period) (limits_of a.limiter) (with_bucket (limits_of a.limiter) burst period) (λ limits. limits_of b.limiter ≡ limits) result × SameLine a b

-- A task is at the end of the line with the next ticket, or nothing was done.
abbrev pub Joins : Buckets → ℕ → ℕ → Result ℕ AllocError → Buckets → Type 0
Joins a bucket task (Ok ticket) b =
    (ticket ≡ a.next) × (b.waiters.items ≡ a.waiters.items ++ record { ticket = a.next; bucket = bucket; task = task } ∷ []) × (b.next ≡ a.next + 1) × (b.due.items ≡ a.due.items) × (b.limiter ≡ a.limiter)
Joins a bucket task (Err error) b = SameLine a b × (b.limiter ≡ a.limiter)

-- The one that left, unless it is the running task's.
abbrev pub others : Waiter → ℕ → List Waiter
others w me = if w.task == me then [] else w ∷ []

abbrev pub one_if : Option Waiter → List Waiter
one_if None = []
one_if (Some w) = w ∷ []

-- The first that waits for tokens of the bucket, if the one before it left.
abbrev pub next_of : Bool → List Waiter → ℕ → List Waiter
next_of was_first ws bucket = if was_first then one_if (find (λ w. w.bucket == bucket) ws) else []

-- The future at this place leaves the line, in a turn of the task `me`. Another task that waits there is owed a wake. So
-- is the first in the bucket's line from then on, if this one was the first.
abbrev pub LeavesAt : ℕ → Buckets → ℕ → Buckets → Type 0
LeavesAt i a me b =
    (w : Waiter) × (w ≡ slice_index_or a.waiters.items i w) × (b.waiters.items ≡ remove a.waiters.items i) × (b.due.items ≡ a.due.items ++ (others w me ++ next_of (is_first a.waiters.items w.bucket w.ticket) b.waiters.items w.bucket)) × (b.next ≡ a.next) × (b.limiter ≡ a.limiter)

abbrev pub GivesUpAt : Option ℕ → Buckets → ℕ → Buckets → Type 0
GivesUpAt None a me b = b ≡ a
GivesUpAt (Some i) a me b = LeavesAt i a me b

-- A future leaves the line, if it is there.
abbrev pub GivesUp : Buckets → ℕ → ℕ → Buckets → Type 0
GivesUp a ticket me b = GivesUpAt (place_of a.waiters.items ticket) a me b

-- A future that is in the line for this task stays there. Another one leaves the line, and joins it at its end.
abbrev pub Enters : Buckets → Option ℕ → ℕ → ℕ → Result ℕ AllocError → Buckets → Type 0
Enters a None bucket task r b = Joins a bucket task r b
Enters a (Some ticket) bucket task r b =
    MatchBool (is_there a.waiters.items ticket bucket task) ((r ≡ Ok ticket) × (b ≡ a)) ((m : Buckets) × GivesUp a ticket task m × Joins m bucket task r b)

-- A future asks for n tokens at a moment. It waits unless it is the first in the bucket's line.
abbrev pub Tries : Buckets → ℕ → ℕ → ℕ → ℕ → Result Take LimitError → Buckets → Type 0
Tries a nanos ticket bucket n r m = (is_first a.waiters.items bucket ticket ≡ true) × TriesAt (limits_of a.limiter) nanos bucket n r (limits_of m.limiter) × SameLine a m

abbrev pub Asks : Buckets → ℕ → ℕ → ℕ → ℕ → ℕ → Asked → Buckets → Type 0
Asks a nanos ticket bucket n me Waits b = (is_first a.waiters.items bucket ticket ≡ false) × (b ≡ a)
Asks a nanos ticket bucket n me Granted b = (m : Buckets) × Tries a nanos ticket bucket n (Ok take.Granted) m × GivesUp m ticket me b
Asks a nanos ticket bucket n me (Short tick) b = Tries a nanos ticket bucket n (Ok (take.Short tick)) b
Asks a nanos ticket bucket n me (Refused error) b = (m : Buckets) × Tries a nanos ticket bucket n (Err error) m × GivesUp m ticket me b

-- The first task that is owed a wake is handed out.
abbrev pub HandsOut : Buckets → Option ℕ → Buckets → Type 0
HandsOut a task b = Hands listed_in owed_by a task b × (b.waiters.items ≡ a.waiters.items) × (b.next ≡ a.next) × (b.limiter ≡ a.limiter)

-- A call with its answer.
pub data Event : Type 0 where
  added : (burst : ℕ) → (period : ℕ) → (answer : Result ℕ LimitError) → Event
  entered : (ticket : Option ℕ) → (bucket : ℕ) → (task : ℕ) → (answer : Result ℕ AllocError) → Event
  asked : (nanos : ℕ) → (ticket : ℕ) → (bucket : ℕ) → (n : ℕ) → (me : ℕ) → (answer : Asked) → Event
  gave_up : (ticket : ℕ) → (me : ℕ) → Event
  handed : (task : Option ℕ) → Event

abbrev pub Step : Buckets → Event → Buckets → Type 0
Step a (added burst period r) b = Adds a burst period r b
Step a (entered ticket bucket task r) b = Enters a ticket bucket task r b
Step a (asked nanos ticket bucket n me r) b = Asks a nanos ticket bucket n me r b
Step a (gave_up ticket me) b = GivesUp a ticket me b
Step a (handed task) b = HandsOut a task b
