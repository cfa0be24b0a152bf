-- The lines of an input, and which of them are events.
use Rattle.std.specs.Prelude.{◌≡◌, ℕ, ◌+◌, Bool, true, false, ◌==◌, if◌then◌else◌, List, [], ◌∷◌, ◌++◌, length}
use Rattle.mono_machine.specs.declared.events.Event.{Event}
use Rattle.mono_text.specs.LineText.{event_text, FitsEvent}

-- the bytes before a line feed, or those after the last line feed
pub record Line : Type 0 where
  pub bytes : List ℕ
  pub is_ended : Bool

abbrev pub onto_first : ℕ → List Line → List Line
onto_first b [] = record { bytes = b ∷ []; is_ended = false } ∷ []
onto_first b (l ∷ ls) = record { bytes = b ∷ l.bytes; is_ended = l.is_ended } ∷ ls

abbrev pub lines : List ℕ → List Line
lines [] = []
lines (b ∷ bs) = if b == 10 then record { bytes = []; is_ended = true } ∷ lines bs else onto_first b (lines bs)

-- the line spells the event
pub record IsEventLine (e : Event) (line : Line) : Type 0 where
  pub fits : FitsEvent e
  pub text : line.bytes ≡ event_text e
  pub is_ended : line.is_ended ≡ true

-- the lines spell these values, one each; the relation defines the values of a line
abbrev pub AreLines : {A : Type 0} → (A → Line → Type 0) → List A → List Line → Type 0
AreLines Says [] [] = Unit {0}
AreLines Says (x ∷ xs) (l ∷ ls) = Says x l × AreLines Says xs ls
AreLines Says [] (l ∷ ls) = ⊥
AreLines Says (x ∷ xs) [] = ⊥

-- Line n, counted from 1, is the first that spells no value.
abbrev pub IsFirstWrong : {A : Type 0} → (A → Line → Type 0) → List Line → ℕ → Type 0
IsFirstWrong {A} Says ls n =
    (values : List A) × (good : List Line) × (bad : Line) × (rest : List Line)
    × (ls ≡ good ++ bad ∷ rest) × AreLines Says values good × (n ≡ length good + 1)
    × ((x : A) → Says x bad → ⊥)

-- the lines spell these events, one each
abbrev pub AreEventLines : List Event → List Line → Type 0
AreEventLines events ls = AreLines IsEventLine events ls

-- Line n, counted from 1, is the first that spells no event.
abbrev pub IsFirstBad : List Line → ℕ → Type 0
IsFirstBad ls n = IsFirstWrong IsEventLine ls n

-- the bytes begin with a line that spells the event, and rest follows it
abbrev pub BeginsWith : List ℕ → Event → List ℕ → Type 0
BeginsWith bytes e rest = (bytes ≡ event_text e ++ 10 ∷ rest) × FitsEvent e

-- the bytes begin with no line that spells an event
abbrev pub BeginsWithNone : List ℕ → Type 0
BeginsWithNone bytes = (e : Event) (rest : List ℕ) → BeginsWith bytes e rest → ⊥

-- they begin with the line of at most one event
abbrev pub OneEvent : Type 0
OneEvent = (bytes : List ℕ) (e other : Event) (rest behind : List ℕ) → BeginsWith bytes e rest → BeginsWith bytes other behind → (e ≡ other) × (rest ≡ behind)
