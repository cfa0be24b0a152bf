-- Values by number that may be taken out and put back.
use Rattle.std.specs.Prelude.{◌≡◌, ℕ, Bool, true, false, List, map, slice_index_or, Option, Some, None}
use Rattle.mono_model.specs.Table.{Table}
use Rattle.mono_table.specs.declared.slots.Slot.{Slot}
use Rattle.mono_table.specs.declared.slots.Slot.TheVariants.{Kept, Lent}

-- For each number that was given out its value and the note that is kept with it, or none if it is taken out or
-- removed; whether it is taken out; and the value that is reserved for the next number, with its note.
pub record Seen (V W : Type 0) : Type 0 where
  pub items : List (Option V)
  pub notes : List (Option W)
  pub lent : List Bool
  pub reserved : Option V
  pub reserved_note : Option W

module _ {V W : Type 0} where
  -- Whether the number was given out and its value is taken out.
  abbrev pub lent_at : Seen V W → ℕ → Bool
  lent_at seen number = slice_index_or seen.lent number false

  -- The same values with the same notes, and the same numbers taken out.
  pub record SameSlots (old new : Seen V W) : Type 0 where
    pub items : new.items ≡ old.items
    pub notes : new.notes ≡ old.notes
    pub lent : new.lent ≡ old.lent

  abbrev pub value_of : Slot V W → Option V
  value_of (Kept value beside) = Some value
  value_of Lent = None

  abbrev pub value_in : Option (Slot V W) → Option V
  value_in None = None
  value_in (Some slot) = value_of slot

  abbrev pub note_of : Slot V W → Option W
  note_of (Kept value beside) = beside
  note_of Lent = None

  abbrev pub note_in : Option (Slot V W) → Option W
  note_in None = None
  note_in (Some slot) = note_of slot

  abbrev pub is_lent : Slot V W → Bool
  is_lent (Kept value beside) = false
  is_lent Lent = true

  abbrev pub lent_in : Option (Slot V W) → Bool
  lent_in None = false
  lent_in (Some slot) = is_lent slot

  abbrev pub items_of : Table (Slot V W) → List (Option V)
  items_of table = map value_in table

  abbrev pub lent_of : Table (Slot V W) → List Bool
  lent_of table = map lent_in table

  abbrev pub notes_of : Table (Slot V W) → List (Option W)
  notes_of table = map note_in table

  -- The slots that lie in a table, and in the place of its next number.
  abbrev pub seen_of : Table (Slot V W) → Option (Slot V W) → Seen V W
  seen_of table reserved =
      record { items = items_of table; notes = notes_of table; lent = lent_of table; reserved = value_in reserved; reserved_note = note_in reserved }
