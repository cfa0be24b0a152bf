-- The lists of a wheel, with counts of the nodes that entered or left one of them.
use Rattle.std.specs.Prelude.{ℕ, ◌==◌, if◌then◌else◌}
use Rattle.mono_wheel.specs.Lists.{Lists}
use Rattle.mono_wheel.specs.Start.{pending_list}

-- How often a node entered or left a list.
pub record Moves : Type 0 where
  -- The list of a slot, or the list of a slot's nodes that wait to be registered anew.
  pub slots : ℕ
  -- Any list, also the pending list.
  pub all : ℕ

abbrev pub no_moves : Moves
no_moves = record { slots = 0; all = 0 }

-- By how much a node that enters or leaves this list raises the moves of slots.
abbrev pub slot_move : ℕ → ℕ
slot_move list = if list == pending_list then 0 else 1

pub record Counted : Type 0 where
  pub table : Lists
  pub moves : Moves
