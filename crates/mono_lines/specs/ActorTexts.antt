-- The text of calls on actors. Each has one spelling.
use Rattle.std.specs.Prelude.{◌^◌, ◌<◌, ℕ, Bool, true, false, List, [], ◌∷◌, ◌++◌, codes, decimal}
use Rattle.mono_lines.specs.declared.actor.words.Handed.{Handed}
use Rattle.mono_lines.specs.declared.actor.words.ActorLine.{ActorLine}
use Rattle.mono_lines.specs.declared.actor.words.ActorLine.TheVariants as line

abbrev pub handed_text : Handed → List ℕ
handed_text handed = decimal handed.to ++ codes " " ++ decimal handed.message

abbrev pub stop_text : Bool → List ℕ
stop_text true = codes "stop"
stop_text false = codes "stay"

-- Each message that the actor sends and then how its turn ends, each after a semicolon and a blank.
abbrev pub parts_text : List Handed → Bool → List ℕ
parts_text [] stop = codes "; " ++ stop_text stop
parts_text (handed ∷ sends) stop = codes "; send " ++ handed_text handed ++ parts_text sends stop

abbrev pub line_text : ActorLine → List ℕ
line_text line.Actor = codes "actor"
line_text (line.Send from to message) = codes "send " ++ decimal from ++ codes " " ++ decimal to ++ codes " " ++ decimal message
line_text (line.Timeout actor ms) = codes "timeout " ++ decimal actor ++ codes " " ++ decimal ms
line_text (line.Clock n) = codes "clock " ++ decimal n
line_text (line.Turn sends stop) = codes "turn" ++ parts_text sends stop

-- ---- the calls that have a line: numbers below 2 ^ 64, and nanoseconds below 2 ^ 128

abbrev pub FitsHanded : Handed → Type 0
FitsHanded handed = (handed.to < 2 ^ 64) × (handed.message < 2 ^ 64)

abbrev pub FitSends : List Handed → Type 0
FitSends [] = Unit {0}
FitSends (handed ∷ sends) = FitsHanded handed × FitSends sends

abbrev pub FitsLine : ActorLine → Type 0
FitsLine line.Actor = Unit {0}
FitsLine (line.Send from to message) = (from < 2 ^ 64) × (to < 2 ^ 64) × (message < 2 ^ 64)
FitsLine (line.Timeout actor ms) = (actor < 2 ^ 64) × (ms < 2 ^ 64)
FitsLine (line.Clock n) = n < 2 ^ 128
FitsLine (line.Turn sends stop) = FitSends sends
