-- Drivers that expose what their clock shows, and that each reading is then one that a clock can show.
use Rattle.std.specs.Prelude.{⊤, ◌≡◌, ◌≤◌, ◌⊎◌, ℕ, List, [], ◌∷◌, Some}
use Rattle.mono_model.specs.Ticks.{max_nanos}
use Rattle.mono_rt.specs.DriverReadings.{Told, Course, Tells}
use Rattle.mono_rt.specs.declared.parts.journals.Entry.{Entry}
use Rattle.example_checks.specs.WholeCalls.{InRange}

-- each of these is at most the greatest instant
abbrev pub AllInRange : List ℕ → Type 0
AllInRange [] = ⊤
AllInRange (n ∷ values) = (n ≤ max_nanos) × AllInRange values

-- The driver exposes its time, or its readings to come, and none is above the greatest instant.
abbrev pub ShowsInstants : Told → Type 0
ShowsInstants d = ((t : ℕ) × ((d.time ≡ Some t) × (t ≤ max_nanos))) ⊎ ((values : List ℕ) × ((d.readings ≡ Some values) × AllInRange values))

-- The readings that such a driver tells are in range, whatever its calls answer.
abbrev pub ShownReadingsAreInRange : Type 0
ShownReadingsAreInRange = (old new : Told) (before after : Course) (part : List Entry) → ShowsInstants old → Tells old before part new after → InRange part
