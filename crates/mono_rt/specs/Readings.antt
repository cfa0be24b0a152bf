-- The readings of a journal: those of a list, in order, or the sums of the parks. And the number of its submits.
use Rattle.std.specs.Prelude.{⊤, ◌≡◌, ℕ, ◌+◌, ◌*◌, min, Bool, true, false, if◌then◌else◌, List, [], ◌∷◌, ◌++◌, Some, None}
use Rattle.mono_model.specs.Ticks.{max_nanos}
use Rattle.mono_machine.specs.declared.events.Event.{Event}
use Rattle.mono_machine.specs.declared.events.Event.TheVariants as event
use Rattle.mono_rt.specs.declared.parts.journals.Entry.{Entry}
use Rattle.mono_rt.specs.declared.parts.journals.Entry.TheVariants.{Ran, Now, Park}

abbrev pub reading_in : Event → List ℕ
reading_in (event.Act act) = []
reading_in (event.Turn steps end) = []
reading_in (event.Clock n) = n ∷ []
reading_in (event.Remote t) = []
reading_in event.Drain = []

-- the values that the clock read, in order: before a turn, before a park, and at a clock step
abbrev pub readings_in : List Entry → List ℕ
readings_in [] = []
readings_in (Ran e r ∷ part) = reading_in e ++ readings_in part
readings_in (Now n ∷ part) = n ∷ readings_in part
readings_in (Park wait ∷ part) = readings_in part

-- the number of submits: one before each drain that follows no park
abbrev pub hand_ins_from : Bool → List Entry → ℕ
hand_ins_from is_parked [] = 0
hand_ins_from is_parked (Ran (event.Act a) r ∷ part) = hand_ins_from is_parked part
hand_ins_from is_parked (Ran (event.Turn steps e) r ∷ part) = hand_ins_from is_parked part
hand_ins_from is_parked (Ran (event.Clock n) r ∷ part) = hand_ins_from is_parked part
hand_ins_from is_parked (Ran (event.Remote t) r ∷ part) = hand_ins_from is_parked part
hand_ins_from is_parked (Ran event.Drain r ∷ part) = (if is_parked then 0 else 1) + hand_ins_from false part
hand_ins_from is_parked (Now n ∷ part) = hand_ins_from is_parked part
hand_ins_from is_parked (Park wait ∷ part) = hand_ins_from true part

abbrev pub hand_ins_in : List Entry → ℕ
hand_ins_in part = hand_ins_from false part

-- these values are, in order, the first of those readings, the last one repeated
abbrev pub AreFirst : List ℕ → List ℕ → Type 0
AreFirst [] readings = ⊤
AreFirst (n ∷ values) [] = ⊥
AreFirst (n ∷ values) (x ∷ []) = (n ≡ x) × AreFirst values (x ∷ [])
AreFirst (n ∷ values) (x ∷ y ∷ readings) = (n ≡ x) × AreFirst values (y ∷ readings)

-- the time a number of milliseconds after a start, at most the greatest
abbrev pub time_after : ℕ → ℕ → ℕ
time_after start millis = min (start + millis * 1000000) max_nanos

abbrev pub IsSumAt : Event → ℕ → ℕ → Type 0
IsSumAt (event.Act act) start millis = ⊤
IsSumAt (event.Turn steps end) start millis = ⊤
IsSumAt (event.Clock n) start millis = n ≡ time_after start millis
IsSumAt (event.Remote t) start millis = ⊤
IsSumAt event.Drain start millis = ⊤

-- After this number of milliseconds of parks: each reading is the start and the milliseconds of the parks before it.
abbrev pub AreSums : ℕ → ℕ → List Entry → Type 0
AreSums start millis [] = ⊤
AreSums start millis (Ran e r ∷ part) = IsSumAt e start millis × AreSums start millis part
AreSums start millis (Now n ∷ part) = (n ≡ time_after start millis) × AreSums start millis part
AreSums start millis (Park None ∷ part) = AreSums start millis part
AreSums start millis (Park (Some v) ∷ part) = AreSums start (millis + v) part
