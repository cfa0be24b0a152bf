-- The lists of a wheel that hold its keys, and the invariant while the keys of one slot are registered anew.
use Rattle.std.specs.Prelude.{◌≡◌, ◌≢◌, ℕ, ◌+◌, ◌*◌, ◌/◌, ◌%◌, ◌<◌, ◌≤◌, ◌⊎◌, true, ◌==◌, if◌then◌else◌, List, [], ◌∷◌, length, map, Option, Some, None, slice_index_or, slice_set}
use Rattle.mono_wheel.specs.Start.{far_digit, slot_of, start, top_level, slot_count, pending_list, taken_list, list_count}
use Rattle.mono_wheel.specs.Lists.{Lists, IsIn, list_at, is_node, with_list, with_entry}
use Rattle.mono_wheel.specs.Counts.{Counted}
use Rattle.mono_wheel.specs.Model.{Timed, Fits, StandsBehind, timed_after, IsPending, Precedes, Wheel, AllFit, timed_at}
use Rattle.mono_wheel.specs.declared.entry.Entry.{Entry}

-- The list of the slot of a tick ahead, at its level.
abbrev pub place_of : ℕ → ℕ → ℕ
place_of elapsed registered = far_digit top_level elapsed registered * 64 + slot_of (far_digit top_level elapsed registered) registered

-- The list of a key: that of its slot, or the pending list.
abbrev pub place_in : ℕ → ℕ → ℕ
place_in elapsed registered = if registered == elapsed then pending_list else place_of elapsed registered

-- The lists of slots in the order of the slots' starts.
abbrev pub ranked : ℕ → ℕ → ℕ
ranked elapsed rank = rank / 64 * 64 + (slot_of (rank / 64) elapsed + 1 + rank % 64) % 64

-- The first list of a slot, in that order, that is not empty.
abbrev pub IsFirstOccupied : ℕ → Lists → Option ℕ → Type 0
IsFirstOccupied elapsed links None = (rank : ℕ) → rank < slot_count → list_at links (ranked elapsed rank) ≡ []
IsFirstOccupied elapsed links (Some list) =
    (rank : ℕ) × (rank < slot_count) × (list ≡ ranked elapsed rank) × (list_at links list ≢ []) × ((before : ℕ) → before < rank → list_at links (ranked elapsed before) ≡ [])

-- The ticks of an entry. A key that is in has a true tick above 0.
abbrev pub timed_of : Entry → Option Timed
timed_of entry = if entry.tick == 0 then None else Some record { tick = entry.tick; registered = entry.registered }

abbrev pub timed_in : List Entry → ℕ → Option Timed
timed_in entries key = slice_index_or (map timed_of entries) key None

-- The wheel that these lists, with the ticks of their nodes, represent.
abbrev pub wheel_of : ℕ → Counted → Wheel
wheel_of elapsed links = record { elapsed = elapsed; entries = map timed_of links.table.entries; reserved = links.table.nodes; lines = links.table.lists; moves = links.moves }

-- The key with these ticks is in this list.
abbrev pub StandsIn : ℕ → ℕ → Option Timed → Type 0
StandsIn elapsed list None = ⊥
StandsIn elapsed list (Some timed) = list ≡ place_in elapsed timed.registered

-- The lists hold exactly the keys that are in, each in the list of its ticks.
pub record Held (elapsed : ℕ) (entries : List Entry) (links : Lists) : Type 0 where
  pub lists : length links.lists ≡ list_count
  pub within : (key list : ℕ) → IsIn key (list_at links list) → StandsIn elapsed list (timed_in entries key)
  pub found : (key list : ℕ) → StandsIn elapsed list (timed_in entries key) → IsIn key (list_at links list)
  pub fits : (key : ℕ) → Fits elapsed (timed_in entries key)
  pub room : (key : ℕ) → is_node links key ≡ true → key < length entries

-- The slot of this list starts at this tick, and no slot with a key starts before.
pub record IsNextSlot (elapsed : ℕ) (entries : List Entry) (list begin : ℕ) : Type 0 where
  pub key : ℕ
  pub timed : Timed
  pub is : timed_in entries key ≡ Some timed
  pub ahead : elapsed < timed.registered
  pub place : list ≡ place_of elapsed timed.registered
  pub begins : begin ≡ start top_level elapsed timed.registered
  pub least : (other : ℕ) (ticks : Timed) → timed_in entries other ≡ Some ticks → elapsed < ticks.registered → begin ≤ start top_level elapsed ticks.registered

-- No key is in a slot.
abbrev pub NoSlots : ℕ → List Entry → Type 0
NoSlots elapsed entries = (key : ℕ) (timed : Timed) → timed_in entries key ≡ Some timed → elapsed < timed.registered → ⊥

-- No slot with a key starts at this tick or before.
abbrev pub NoSlotBy : ℕ → ℕ → List Entry → Type 0
NoSlotBy elapsed now entries = (key : ℕ) (timed : Timed) → timed_in entries key ≡ Some timed → elapsed < timed.registered → now < start top_level elapsed timed.registered

-- As Held, while the keys of the taken list still wait to be registered at their true ticks, and all others are placed
-- as of this tick.
pub record Cascading (elapsed : ℕ) (entries : List Entry) (links : Lists) : Type 0 where
  pub lists : length links.lists ≡ list_count
  pub within : (key list : ℕ) → list ≢ taken_list → IsIn key (list_at links list) → StandsIn elapsed list (timed_in entries key)
  pub found : (key list : ℕ) → (IsIn key (list_at links taken_list) → ⊥) → StandsIn elapsed list (timed_in entries key) → IsIn key (list_at links list)
  pub fits : (key : ℕ) → (IsIn key (list_at links taken_list) → ⊥) → Fits elapsed (timed_in entries key)
  pub waits : (key : ℕ) → IsIn key (list_at links taken_list) → (timed : Timed) × (timed_in entries key ≡ Some timed) × (elapsed ≤ timed.tick)
  pub room : (key : ℕ) → is_node links key ≡ true → key < length entries

-- The ticks of a key after it was registered at its true tick.
abbrev pub anew : Option Timed → Option Timed
anew None = None
anew (Some timed) = Some record { tick = timed.tick; registered = timed.tick }

-- `a` is to come out before `b`: it is later in the list, or `b` waits and `a` no longer does.
abbrev pub Leads : Lists → Lists → ℕ → ℕ → Type 0
Leads links links2 a b =
    ((line : ℕ) × StandsBehind (list_at links2 line) a b)
    ⊎ (IsIn a (list_at links taken_list) × (IsIn a (list_at links2 taken_list) → ⊥) × IsIn b (list_at links2 taken_list))

-- How far the registration of the waiting keys has come since these entries and lists.
pub record Cascaded (entries entries2 : List Entry) (links links2 : Lists) : Type 0 where
  -- A key that waits has waited before, and still has its ticks.
  pub waits : (key : ℕ) → IsIn key (list_at links2 taken_list) → IsIn key (list_at links taken_list) × (timed_in entries2 key ≡ timed_in entries key)
  -- A key that waited and no longer does is registered at its true tick.
  pub done : (key : ℕ) → IsIn key (list_at links taken_list) → (IsIn key (list_at links2 taken_list) → ⊥) → timed_in entries2 key ≡ anew (timed_in entries key)
  pub others : (key : ℕ) → (IsIn key (list_at links taken_list) → ⊥) → timed_in entries2 key ≡ timed_in entries key
  pub order : (a b line : ℕ) → StandsBehind (list_at links line) a b → timed_in entries a ≡ timed_in entries b → Leads links links2 a b
  pub nodes : links2.nodes ≡ links.nodes

abbrev pub entry_anew : Entry → Entry
entry_anew entry = record { tick = entry.tick; registered = entry.tick }

-- One key is registered at its true tick, as the first in its list.
pub record Registered (elapsed : ℕ) (entries entries2 : List Entry) (links links2 : Lists) (key : ℕ) : Type 0 where
  pub entry : Entry
  pub was : entry ≡ slice_index_or entries key entry
  pub entries_are : entries2 ≡ slice_set entries key (entry_anew entry)
  pub links_are : links2 ≡ with_entry (with_list links (place_in elapsed entry.tick) (key ∷ list_at links (place_in elapsed entry.tick))) key (entry_anew entry)

-- The clock of a wheel moved, no key came out, and no true tick was passed.
pub record Advanced (old new : Wheel) : Type 0 where
  pub fits : AllFit old
  pub later : old.elapsed ≤ new.elapsed
  pub ticks : (key : ℕ) → timed_at new key ≡ timed_after old.elapsed new.elapsed (timed_at old key)
  pub order : (a b : ℕ) → Precedes old a b → Precedes new a b
  pub reserved : new.reserved ≡ old.reserved

-- the outcome of taking out the first pending key
abbrev pub DueTaken : Wheel → Wheel → Option ℕ → Type 0
DueTaken old new None = (new ≡ old) × ((key : ℕ) → IsPending old key → ⊥)
DueTaken old new (Some key) =
    IsPending old key
    × ((other : ℕ) → Precedes old other key → ⊥)
    × (timed_at new key ≡ None)
    × ((other : ℕ) → other ≢ key → timed_at new other ≡ timed_at old other)
    × ((a b : ℕ) → a ≢ key → b ≢ key → Precedes old a b → Precedes new a b)
    × (new.elapsed ≡ old.elapsed)
    × (new.reserved ≡ old.reserved)
