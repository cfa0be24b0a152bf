-- One number for each level, with one bit for each slot, which says whether the slot's list has a node.
use Rattle.std.specs.Prelude.{◌≡◌, ◌≢◌, ℕ, ◌+◌, ◌*◌, ◌/◌, ◌%◌, ◌<◌, ◌↔◌, List, [], length, Option, Some, None, slice_index_or}
use Rattle.std.specs.Int.{bit_at}
use Rattle.mono_wheel.specs.Start.{list_count, slot_count}
use Rattle.mono_wheel.specs.Lists.{Lists, list_at}

-- The bit of the slot of this list, 0 or 1.
abbrev pub occupied_bit : List ℕ → ℕ → ℕ
occupied_bit levels list = bit_at (slice_index_or levels (list / 64) 0) (list % 64)

-- Only the bit of this slot may differ.
abbrev pub KeepsOthers : List ℕ → List ℕ → ℕ → Type 0
KeepsOthers old new list = (other : ℕ) → other < slot_count → other ≢ list → occupied_bit new other ≡ occupied_bit old other

-- The first slot of a level with its bit set, beginning after this slot and ending with it.
abbrev pub IsFirstAfter : List ℕ → ℕ → ℕ → Option ℕ → Type 0
IsFirstAfter levels level slot None = (offset : ℕ) → offset < 64 → occupied_bit levels (level * 64 + (slot + 1 + offset) % 64) ≡ 0
IsFirstAfter levels level slot (Some found) =
    (offset : ℕ) × (offset < 64) × (found ≡ (slot + 1 + offset) % 64) × (occupied_bit levels (level * 64 + found) ≡ 1)
    × ((before : ℕ) → before < offset → occupied_bit levels (level * 64 + (slot + 1 + before) % 64) ≡ 0)

-- The lists are those of a wheel, and the bit of a slot is 0 if and only if its list is empty.
pub record Marks (levels : List ℕ) (links : Lists) : Type 0 where
  pub lists : length links.lists ≡ list_count
  pub exact : (list : ℕ) → list < slot_count → (occupied_bit levels list ≡ 0) ↔ (list_at links list ≡ [])
