-- The calls of a barrier, each with its answer, and the wakes of the tasks that it owes.
use Rattle.std.specs.Prelude.{◌+◌, ℕ, List, [], ◌∷◌, Option, Some, None}
use Rattle.mono_locks.specs.declared.queues.Asked.{Asked}
use Rattle.mono_locks.specs.declared.queues.Asked.TheVariants as asked
use Rattle.mono_locks.specs.declared.queues.Entry.{Entry}
use Rattle.mono_locks.specs.declared.barrier.Barrier.{Barrier}
use Rattle.mono_locks.specs.declared.barrier.BarrierWaitResult.{BarrierWaitResult}
use Rattle.mono_locks.specs.Barriers.{Arrives, GivesUp, Pays}

pub data Event : Type 0 where
  waited : (ticket : Option ℕ) → (task : ℕ) → (answer : Asked BarrierWaitResult) → Event
  gave_up : (ticket : Option ℕ) → (task : ℕ) → Event
  served : (first : Option Entry) → Event

abbrev pub Step : Barrier → Event → Barrier → Type 0
Step a (waited ticket task r) b = Arrives a ticket task r b
Step a (gave_up ticket task) b = GivesUp a ticket task b
Step a (served first) b = Pays a first b

-- How many futures came with an answer: one opened the barrier or began to wait.
abbrev pub came_with : Asked BarrierWaitResult → ℕ
came_with (asked.Got r) = 1
came_with asked.Waits = 0
came_with (asked.Joined t) = 1
came_with asked.Memory = 0

-- How often an answer opened the barrier.
abbrev pub opened_with : Asked BarrierWaitResult → ℕ
opened_with (asked.Got r) = 1
opened_with asked.Waits = 0
opened_with (asked.Joined t) = 0
opened_with asked.Memory = 0

-- How many futures came with the call.
abbrev pub came_by : Event → ℕ
came_by (waited None task r) = came_with r
came_by (waited (Some k) task r) = 0
came_by (gave_up ticket task) = 0
came_by (served first) = 0

-- How many futures came.
abbrev pub came : List Event → ℕ
came [] = 0
came (e ∷ es) = came_by e + came es

-- How often the call opened the barrier.
abbrev pub opened_by : Event → ℕ
opened_by (waited None task r) = opened_with r
opened_by (waited (Some k) task r) = 0
opened_by (gave_up ticket task) = 0
opened_by (served first) = 0

-- How many futures must have come for an answer that opens a barrier of this many parties.
abbrev pub needed_with : ℕ → Asked BarrierWaitResult → ℕ
needed_with parties (asked.Got r) = parties
needed_with parties asked.Waits = 0
needed_with parties (asked.Joined t) = 0
needed_with parties asked.Memory = 0

-- How many futures must have come for the call.
abbrev pub needed_by : ℕ → Event → ℕ
needed_by parties (waited None task r) = needed_with parties r
needed_by parties (waited (Some k) task r) = 0
needed_by parties (gave_up ticket task) = 0
needed_by parties (served first) = 0

-- How many futures must have come for the openings: for each as many as the barrier has parties.
abbrev pub needed : ℕ → List Event → ℕ
needed parties [] = 0
needed parties (e ∷ es) = needed_by parties e + needed parties es

-- How often the barrier opened.
abbrev pub opened : List Event → ℕ
opened [] = 0
opened (e ∷ es) = opened_by e + opened es
