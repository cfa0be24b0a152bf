-- What the lines of an input ask: which requests each core gets, and which lines are refused.
use Rattle.std.specs.Prelude.{◌≡◌, ◌==◌, ◌+◌, ℕ, Bool, true, false, if◌then◌else◌, List, [], ◌∷◌, ◌++◌, map, Option, Some, None}
use Rattle.std.specs.List.{range_with_len}
use Rattle.mono_text.specs.Lines.{Line, lines}
use Rattle.lease_core.specs.declared.requests.Request.{Request}
use Rattle.lease_core.specs.Routes.{core_of}
use Rattle.lease_lines.specs.Lines.{Spells, SpellsNone}

-- What a line asks: the request that it spells, with the line's number, or nothing. A line that no line feed ends asks nothing.
abbrev pub Asks : ℕ → Line → Option Request → Type 0
Asks n line (Some request) = (line.is_ended ≡ true) × Spells n line.bytes request
Asks n line None = line.is_ended ≡ true → SpellsNone line.bytes

-- What the lines ask, one each. The first line has the number n.
abbrev pub Ask : ℕ → List Line → List (Option Request) → Type 0
Ask n [] [] = Unit {0}
Ask n (line ∷ rest) (what ∷ asked) = Asks n line what × Ask (n + 1) rest asked
Ask n [] (what ∷ asked) = ⊥
Ask n (line ∷ rest) [] = ⊥

-- The requests of the keys of core k, in order.
abbrev pub routed : ℕ → ℕ → List (Option Request) → List Request
routed k cores [] = []
routed k cores (None ∷ asked) = routed k cores asked
routed k cores (Some request ∷ asked) = if core_of request.key cores == k then request ∷ routed k cores asked else routed k cores asked

-- The requests of each core, from core 0 on.
abbrev pub all_routed : ℕ → List (Option Request) → List (List Request)
all_routed cores asked = map (λ k. routed k cores asked) (range_with_len 0 cores)

-- The numbers of the lines that ask nothing. The first line has the number n.
abbrev pub refused : ℕ → List (Option Request) → List ℕ
refused n [] = []
refused n (None ∷ asked) = n ∷ refused (n + 1) asked
refused n (Some request ∷ asked) = refused (n + 1) asked

-- The bytes have no line feed.
abbrev pub HasNoFeed : List ℕ → Type 0
HasNoFeed [] = Unit {0}
HasNoFeed (b ∷ bytes) = ((b == 10) ≡ false) × HasNoFeed bytes

-- What follows these bytes begins a new line.
abbrev pub EndsLines : List ℕ → Type 0
EndsLines bytes = (rest : List ℕ) → lines (bytes ++ rest) ≡ lines bytes ++ lines rest
