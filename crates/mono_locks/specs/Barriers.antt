-- A barrier, and the effect of its calls.
use Rattle.std.specs.Prelude.{Bool, true, false, nat_lt, ◌≡◌, ◌<◌, ◌≤◌, ◌+◌, ◌-◌, if◌then◌else◌, ℕ, List, Option, Some, None}
use Rattle.mono_locks.specs.declared.queues.Asked.{Asked}
use Rattle.mono_locks.specs.declared.queues.Asked.TheVariants as asked
use Rattle.mono_locks.specs.declared.queues.Entry.{Entry}
use Rattle.mono_locks.specs.declared.barrier.Barrier.{Barrier}
use Rattle.mono_locks.specs.declared.barrier.BarrierWaitResult.{BarrierWaitResult}
use Rattle.mono_locks.specs.Queues.{Asks, Leaves, TakesBelow, lists_at, owed_below, tasks_of}

-- The tasks that are to be woken: those that waited when the barrier opened last.
abbrev pub owed_by : Barrier → List ℕ
owed_by a = owed_below false a.cleared a.queue

-- A place is a ticket.
abbrev pub listed_by : Barrier → List ℕ → ℕ → Bool
listed_by a = lists_at a.queue.waiters.items

abbrev pub waiting_in : Barrier → List ℕ
waiting_in a = tasks_of a.queue.waiters.items

-- The parties stay the same, and the barrier does not open.
abbrev pub StaysShut : Barrier → Barrier → Type 0
StaysShut a b = (b.parties ≡ a.parties) × (b.cleared ≡ a.cleared)

-- A future comes. If it is the last that was missing, it opens the barrier for all that wait, and none has come to the next
-- round. Else it waits, and has come.
abbrev pub Comes : Barrier → ℕ → Asked BarrierWaitResult → Barrier → Type 0
Comes a me (asked.Got r) b = (r.is_leader ≡ true) × (a.parties ≤ a.arrived + 1) × (b.arrived ≡ 0) × (b.cleared ≡ a.queue.next) × (b.queue ≡ a.queue) × (b.parties ≡ a.parties)
Comes a me asked.Waits b = ⊥
Comes a me (asked.Joined t) b = (a.arrived + 1 < a.parties) × (b.arrived ≡ a.arrived + 1) × Asks {G = BarrierWaitResult} a.queue None me 1 0 (asked.Joined t) b.queue × StaysShut a b
Comes a me asked.Memory b = (a.arrived + 1 < a.parties) × (b.arrived ≡ a.arrived) × Asks {G = BarrierWaitResult} a.queue None me 1 0 asked.Memory b.queue × StaysShut a b

-- A future that came asks. It goes on if the barrier opened since, and else waits. If there is no memory for a new place,
-- which it needs in another task, it does not count any more.
abbrev pub Stays : Barrier → ℕ → ℕ → Asked BarrierWaitResult → Barrier → Type 0
Stays a k me (asked.Got r) b = (r.is_leader ≡ false) × (k < a.cleared) × (b.arrived ≡ a.arrived) × Leaves a.queue (Some k) me 1 b.queue × StaysShut a b
Stays a k me asked.Waits b = (a.cleared ≤ k) × (b.arrived ≡ a.arrived) × Asks {G = BarrierWaitResult} a.queue (Some k) me 1 0 asked.Waits b.queue × StaysShut a b
Stays a k me (asked.Joined t) b = (a.cleared ≤ k) × (b.arrived ≡ a.arrived) × Asks {G = BarrierWaitResult} a.queue (Some k) me 1 0 (asked.Joined t) b.queue × StaysShut a b
Stays a k me asked.Memory b = (a.cleared ≤ k) × (b.arrived ≡ a.arrived - 1) × Asks {G = BarrierWaitResult} a.queue (Some k) me 1 0 asked.Memory b.queue × StaysShut a b

-- A future of this task comes, or asks after it came.
abbrev pub Arrives : Barrier → Option ℕ → ℕ → Asked BarrierWaitResult → Barrier → Type 0
Arrives a None me r b = Comes a me r b
Arrives a (Some k) me r b = Stays a k me r b

-- How many have come, without a future with this ticket.
abbrev pub arrived_without : Barrier → Option ℕ → ℕ
arrived_without a None = a.arrived
arrived_without a (Some k) = if nat_lt k a.cleared then a.arrived else a.arrived - 1

-- A future leaves the queue, in a turn of this task. It counts no more, unless the barrier opened since it came.
abbrev pub GivesUp : Barrier → Option ℕ → ℕ → Barrier → Type 0
GivesUp a ticket me b = (b.arrived ≡ arrived_without a ticket) × Leaves a.queue ticket me 1 b.queue × StaysShut a b

-- The first waiting task is woken, if it waited when the barrier opened last.
abbrev pub Pays : Barrier → Option Entry → Barrier → Type 0
Pays a first b = TakesBelow false a.cleared a.queue first b.queue × (b.arrived ≡ a.arrived) × StaysShut a b
