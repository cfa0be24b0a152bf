-- A queue of numbers as a ring: the neighbours of each number that has a seat, and the ends of the queue.
use Rattle.std.specs.Prelude.{◌≡◌, ◌≢◌, ◌⊎◌, ◌<◌, ◌-◌, ◌^◌, ℕ, Bool, true, ◌==◌, if◌then◌else◌, List, length, map, Option, Some, None, is_some}
use Rattle.mono_model.specs.Table.{value_at}
use Rattle.mono_wheel.specs.Lists.{IsIn}
use Rattle.mono_wheel.specs.Rings.{Chain, Distinct, walk}
use Rattle.mono_actor.specs.declared.queues.Seat.{Seat}

-- The numbers in the queue, the front first; whether each number has a seat; and for how many numbers there is memory.
pub record Queue : Type 0 where
  pub items : List ℕ
  pub seats : List Bool
  pub room : ℕ

-- The number of the end, which no seat has.
abbrev pub end_number : ℕ
end_number = 2 ^ 64 - 1

abbrev pub after_of : Option Seat → ℕ
after_of None = 0
after_of (Some seat) = seat.after

abbrev pub before_of : Option Seat → ℕ
before_of None = 0
before_of (Some seat) = seat.before

-- The neighbours of a number in the ring.
abbrev pub after_in : List (Option Seat) → Seat → ℕ → ℕ
after_in seats ends k = if k == end_number then ends.after else after_of (value_at seats k)

abbrev pub before_in : List (Option Seat) → Seat → ℕ → ℕ
before_in seats ends k = if k == end_number then ends.before else before_of (value_at seats k)

-- The numbers from the front to the end.
abbrev pub items_in : List (Option Seat) → Seat → List ℕ
items_in seats ends = walk (after_in seats ends) (length seats) (after_in seats ends end_number) end_number

-- The view of a queue in contracts.
abbrev pub seen : List (Option Seat) → Seat → ℕ → Queue
seen seats ends room = record { items = items_in seats ends; seats = map is_some seats; room = room }

-- The number has neighbours: it is the end, or has a seat.
abbrev pub HasPlace : List (Option Seat) → ℕ → Type 0
HasPlace seats k = (k ≡ end_number) ⊎ (is_some (value_at seats k) ≡ true)

-- The links lead through these numbers, each of which has a seat and occurs once.
pub record Ring (seats : List (Option Seat)) (ends : Seat) (items : List ℕ) : Type 0 where
  pub chain : Chain (after_in seats ends) (before_in seats ends) end_number items end_number
  pub distinct : Distinct items
  pub seated : (k : ℕ) → IsIn k items → is_some (value_at seats k) ≡ true
  pub few : length seats < 2 ^ 64

-- One number has another neighbour after it, and all else stays.
pub record SetsAfter (old new : List (Option Seat)) (old_ends new_ends : Seat) (number after : ℕ) : Type 0 where
  pub here : after_in new new_ends number ≡ after
  pub others : (k : ℕ) → k ≢ number → after_in new new_ends k ≡ after_in old old_ends k
  pub befores : (k : ℕ) → before_in new new_ends k ≡ before_in old old_ends k
  pub seats : map is_some new ≡ map is_some old

pub record SetsBefore (old new : List (Option Seat)) (old_ends new_ends : Seat) (number before : ℕ) : Type 0 where
  pub here : before_in new new_ends number ≡ before
  pub others : (k : ℕ) → k ≢ number → before_in new new_ends k ≡ before_in old old_ends k
  pub afters : (k : ℕ) → after_in new new_ends k ≡ after_in old old_ends k
  pub seats : map is_some new ≡ map is_some old

-- `after` now comes directly after `before`.
pub record Joined (old new : List (Option Seat)) (old_ends new_ends : Seat) (before after : ℕ) : Type 0 where
  pub after_here : after_in new new_ends before ≡ after
  pub after_others : (k : ℕ) → k ≢ before → after_in new new_ends k ≡ after_in old old_ends k
  pub before_here : before_in new new_ends after ≡ before
  pub before_others : (k : ℕ) → k ≢ after → before_in new new_ends k ≡ before_in old old_ends k
  pub seats : map is_some new ≡ map is_some old
