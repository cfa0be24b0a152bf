-- The part of a script that was read, and how it may continue.
use Rattle.std.specs.Prelude.{◌≡◌, ◌<◌, ◌≤◌, ◌^◌, ℕ, List, [], ◌∷◌, ◌++◌, length, map, flat_map, Option, Some, None, codes}
use Rattle.mono_machine.specs.declared.events.Limits.{Limits}
use Rattle.mono_text.specs.LineText.{FitLimits}
use Rattle.mono_text.specs.Lines.{Line, lines}
use Rattle.mono_run.specs.Script.{Kind, Script, MayStand, AllMayStand, AreSoundKinds}
use Rattle.mono_run.specs.ScriptText.{body_text, kind_texts, limits_text, ended, task_lines, Spells, IsFirstBad}
use Rattle.mono_run.specs.LineOrder.{done_text}
use Rattle.mono_run.specs.declared.scripts.body.BodyLine.{BodyLine}
use Rattle.mono_run.specs.declared.parser.reader.ScriptRead.{ScriptRead}
use Rattle.mono_run.specs.declared.parser.reader.ScriptRead.TheVariants as read

-- the limits, whole kinds, and the lines of one more kind whose end was not read yet
pub record Front : Type 0 where
  pub limits : Limits
  pub kinds : List Kind
  pub inside : Option (List BodyLine)

abbrev pub front : Limits → List Kind → Option (List BodyLine) → Front
front x ks inside = record { limits = x; kinds = ks; inside = inside }

abbrev pub begun : Limits → Front
begun x = front x [] None

abbrev pub inside_texts : Option (List BodyLine) → List (List ℕ)
inside_texts None = []
inside_texts (Some bs) = codes "task" ∷ map body_text bs

-- the texts of its lines
abbrev pub texts_of : Front → List (List ℕ)
texts_of f = limits_text f.limits ∷ (flat_map kind_texts f.kinds ++ inside_texts f.inside)

-- The line leads the front to another one: it opens a kind, is one more body line of it, or ends it.
pub data Continues (kinds : ℕ) (f : Front) (text : List ℕ) (g : Front) : Type 0 where
  opens : f.inside ≡ None → text ≡ codes "task" → length f.kinds < 64 → g ≡ front f.limits f.kinds (Some []) → Continues kinds f text g
  goes_on : (bs : List BodyLine) → (c : BodyLine) → f.inside ≡ Some bs → text ≡ body_text c → MayStand kinds bs c → length bs < 127 → g ≡ front f.limits f.kinds (Some (bs ++ c ∷ [])) → Continues kinds f text g
  closes : (bs : List BodyLine) → (o : ℕ) → f.inside ≡ Some bs → text ≡ done_text o → o < 2 ^ 64 → g ≡ front f.limits (f.kinds ++ record { body = bs; output = o } ∷ []) None → Continues kinds f text g

-- the line leads the front to no other
abbrev pub ContinuesNever : ℕ → Front → List ℕ → Type 0
ContinuesNever kinds f text = (g : Front) → Continues kinds f text g → ⊥

abbrev pub IsSoundInside : ℕ → ℕ → Option (List BodyLine) → Type 0
IsSoundInside kinds count None = count ≤ 64
IsSoundInside kinds count (Some bs) = (count < 64) × (length bs ≤ 127) × AllMayStand kinds [] bs

-- all lines that were read are sound
pub record IsSoundFront (kinds : ℕ) (f : Front) : Type 0 where
  pub limits : FitLimits f.limits
  pub each : AreSoundKinds kinds f.kinds
  pub inside : IsSoundInside kinds (length f.kinds) f.inside

abbrev pub script_of : Front → Script
script_of f = record { limits = f.limits; kinds = f.kinds }

-- The result of reading an input: the script that it spells, or the number of its first bad line.
abbrev pub IsRead : List ℕ → ScriptRead → Type 0
IsRead input (read.Script s) = Spells input s
IsRead input (read.BadLine n) = IsFirstBad input n
