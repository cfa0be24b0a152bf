-- A list with room for more items, some of it held for items that must find room.
use Rattle.std.specs.Prelude.{◌≤◌, ◌+◌, ℕ, List, length}

pub record Roomy (T : Type 0) : Type 0 where
  pub items : List T
  pub capacity : ℕ
  -- for how many more items room is held
  pub held : ℕ

-- there is room for this number of items in addition to the held room
abbrev pub HasRoomFor : {T : Type 0} → Roomy T → ℕ → Type 0
HasRoomFor list n = length list.items + n + list.held ≤ list.capacity
