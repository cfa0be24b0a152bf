-- How a journal relates to the machine.
use Rattle.std.specs.Prelude.{◌≡◌, ℕ, Bool, true, false, List, [], ◌∷◌, ◌++◌, ◌-◌, ◌≤◌, Option, Some, None}
use Rattle.mono_model.specs.Ticks.{down, max_nanos}
use Rattle.mono_time.specs.SlotRegistration.{FirstSlot}
use Rattle.mono_time.specs.Timers.{registered_of}
use Rattle.mono_time.specs.Registrations.{registered_after}
use Rattle.mono_machine.specs.Machine.{Machine}
use Rattle.mono_machine.specs.Steps.{Step}
use Rattle.mono_machine.specs.declared.events.Event.{Event}
use Rattle.mono_machine.specs.declared.events.Report.{Report}
use Rattle.mono_blocking.specs.JobSpawns.{Seen}
use Rattle.mono_rt.specs.Refinement.{hosting_of, MatchesValid}
use Rattle.mono_rt.specs.HeldRoom.{HasRoomFor}
use Rattle.mono_rt.specs.declared.parts.state.Parts.{Parts}
use Rattle.mono_rt.specs.declared.parts.journals.Entry.{Entry}
use Rattle.mono_rt.specs.declared.parts.journals.Entry.TheVariants.{Ran, Now, Park}
use Rattle.mono_rt.specs.declared.parts.journals.Journal.{Journal}

-- the events of the entries, with their reports
abbrev pub events_in : List Entry → List Event
events_in [] = []
events_in (Ran event report ∷ part) = event ∷ events_in part
events_in (Now n ∷ part) = events_in part
events_in (Park v ∷ part) = events_in part

abbrev pub reports_in : List Entry → List Report
reports_in [] = []
reports_in (Ran event report ∷ part) = report ∷ reports_in part
reports_in (Now n ∷ part) = reports_in part
reports_in (Park v ∷ part) = reports_in part

-- these entries lead from the one machine to the other: each event is a step
abbrev pub Follows : Machine → List Entry → Machine → Type 0
Follows old [] new = new ≡ old
Follows old (Ran event report ∷ part) new = (mid : Machine) × Step old event report mid × Follows mid part new
Follows old (Now n ∷ part) new = Follows old part new
Follows old (Park v ∷ part) new = Follows old part new

-- The driver is parked, from the last reading of the clock, until the wheel's next expiration. That is the least start
-- of a slot over the registered ticks, less the reading in whole milliseconds, at least 0.
abbrev pub WaitsForNext : Machine → (ℕ → Option ℕ) → Option ℕ → ℕ → Type 0
WaitsForNext m ticks None v = ⊥
WaitsForNext m ticks (Some now) v = (next : ℕ) × (FirstSlot m.sleeps.greatest ticks next × (v ≡ next - down now))

-- The entries change the registered ticks of the sleeps as the wheel's model specifies for each event. Each park with
-- an end is until the next expiration over the ticks at that moment. The first argument is the last reading of the
-- clock.
abbrev pub Registers : Option ℕ → Machine → (ℕ → Option ℕ) → List Entry → Machine → (ℕ → Option ℕ) → Type 0
Registers reading old ticks [] new left = (new ≡ old) × ((s : ℕ) → left s ≡ ticks s)
Registers reading old ticks (Ran event report ∷ part) new left = (mid : Machine) × Step old event report mid × Registers reading mid (λ s. registered_after event old s (ticks s)) part new left
Registers reading old ticks (Now n ∷ part) new left = Registers (Some n) old ticks part new left
Registers reading old ticks (Park None ∷ part) new left = Registers reading old ticks part new left
Registers reading old ticks (Park (Some v) ∷ part) new left = WaitsForNext old ticks reading v × Registers reading old ticks part new left

-- For each machine that the parts refined, the entries by which the history grew are a run to a machine that they
-- refine now. They lead from the registered ticks before to those now, and each park is until the next expiration.
pub record Went {O P : Type 0} (number : O → ℕ) (c d : Parts O (Seen P)) (j k : Journal) (old : Machine) : Type 0 where
  pub part : List Entry
  pub new : Machine
  pub grew : k.history.entries ≡ j.history.entries ++ part
  pub follows : Follows old part new
  pub registers : Registers None old (registered_of c.timers) part new (registered_of d.timers)
  pub matches : MatchesValid number hosting_of d new

pub record Goes {O P : Type 0} (number : O → ℕ) (c d : Parts O (Seen P)) (j k : Journal) : Type 0 where
  pub went : (old : Machine) → MatchesValid number hosting_of c old → Went number c d j k old

-- The same, and the new entries are in a relation: between the machine before, with these and any entries after them,
-- and the machine after, with the latter.
pub record Did {O P : Type 0} (number : O → ℕ) (R : Machine → List Entry → Machine → List Entry → Type 0) (c d : Parts O (Seen P)) (j k : Journal) (old : Machine) : Type 0 where
  pub went : Went number c d j k old
  pub is : (rest : List Entry) → R old (went.part ++ rest) went.new rest

pub record Does {O P : Type 0} (number : O → ℕ) (R : Machine → List Entry → Machine → List Entry → Type 0) (c d : Parts O (Seen P)) (j k : Journal) : Type 0 where
  pub did : (old : Machine) → MatchesValid number hosting_of c old → Did number R c d j k old

-- some entries, which lead from the one machine to the other
abbrev pub Led : Machine → List Entry → Machine → List Entry → Type 0
Led old part new rest = (xs : List Entry) × ((part ≡ xs ++ rest) × Follows old xs new)

-- nothing was done
abbrev pub Stays : Machine → List Entry → Machine → List Entry → Type 0
Stays old part new rest = (part ≡ rest) × (new ≡ old)

-- one event
abbrev pub IsStep : Event → Report → Machine → List Entry → Machine → List Entry → Type 0
IsStep event report old part new rest = (part ≡ Ran event report ∷ rest) × Step old event report new

-- the clock was read, and showed an instant
abbrev pub IsReading : Machine → List Entry → Machine → List Entry → Type 0
IsReading old part new rest = (n : ℕ) × ((part ≡ Now n ∷ rest) × ((new ≡ old) × (n ≤ max_nanos)))

-- the clock was read, and showed this
abbrev pub ReadsAt : ℕ → Machine → List Entry → Machine → List Entry → Type 0
ReadsAt n old part new rest = (part ≡ Now n ∷ rest) × (new ≡ old)

-- The entries in memory, by whether the journal is full now: no more than before, or one more entry at the end.
abbrev pub IsKept : Bool → List Entry → Bool → List Entry → Entry → Type 0
IsKept was old true new entry = new ≡ old
IsKept was old false new entry = (was ≡ false) × (new ≡ old ++ entry ∷ [])

-- there is room for this number of entries in addition to the held room
abbrev pub HasPlaces : Journal → ℕ → Type 0
HasPlaces j n = HasRoomFor j.entries n
