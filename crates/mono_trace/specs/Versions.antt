-- A value with its version when its changes were last kept, so that they can be taken back.
use Rattle.std.specs.Prelude.{◌-◌, List, [], ◌∷◌, Option, Some, length, slice_set, take}
use Rattle.mono_trace.specs.declared.places.Change.{Change}
use Rattle.mono_trace.specs.declared.places.Change.TheVariants.{Added, Had}

pub record Versions (A : Type 0) : Type 0 where
  pub now : A
  pub before : A

-- The value without changes.
abbrev pub kept : {A : Type 0} → A → Versions A
kept x = record { now = x; before = x }

-- The value changed to x; the change can be taken back.
abbrev pub changed : {A : Type 0} → Versions A → A → Versions A
changed both x = record { now = x; before = both.before }

-- A table after one change is taken back, and after several are, the last first.
abbrev pub without_change : {V : Type 0} → Change V → List (Option V) → List (Option V)
without_change Added places = take (length places - 1) places
without_change (Had number value) places = slice_set places number (Some value)

abbrev pub undone : {V : Type 0} → List (Change V) → List (Option V) → List (Option V)
undone [] places = places
undone (change ∷ changes) places = without_change change (undone changes places)
