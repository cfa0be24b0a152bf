-- How scripts are written, which lines are a script, and which line of others is the first bad one.
use Rattle.std.specs.Prelude.{◌≡◌, ℕ, ◌+◌, ◌&&◌, ◌==◌, Bool, true, false, if◌then◌else◌, List, [], ◌∷◌, ◌++◌, map, flat_map, codes, decimal}
use Rattle.mono_machine.specs.declared.events.Limits.{Limits}
use Rattle.mono_text.specs.Lines.{Line, lines}
use Rattle.mono_run.specs.Beginnings.{IsFirstOut}
use Rattle.mono_run.specs.Script.{Kind, Script, IsSound}
use Rattle.mono_run.specs.declared.scripts.body.BodyLine.{BodyLine}
use Rattle.mono_run.specs.declared.scripts.body.BodyLine.TheVariants as body

abbrev pub body_text : BodyLine → List ℕ
body_text (body.Spawn k) = codes "spawn " ++ decimal k
body_text (body.Join i) = codes "join " ++ decimal i
body_text (body.Detach i) = codes "detach " ++ decimal i
body_text (body.AwaitSleep n) = codes "await-sleep " ++ decimal n
body_text (body.Block o) = codes "block " ++ decimal o
body_text (body.AwaitJob i) = codes "await-job " ++ decimal i
body_text (body.DropJob i) = codes "drop-job " ++ decimal i
body_text body.Yield = codes "yield"

abbrev pub limits_text : Limits → List ℕ
limits_text l = codes "limits " ++ decimal l.tasks ++ codes " " ++ decimal l.jobs ++ codes " " ++ decimal l.sleeps

-- the texts of a kind's lines
abbrev pub kind_texts : Kind → List (List ℕ)
kind_texts k = codes "task" ∷ map body_text k.body ++ (codes "done " ++ decimal k.output) ∷ []

abbrev pub script_texts : Script → List (List ℕ)
script_texts s = limits_text s.limits ∷ flat_map kind_texts s.kinds

abbrev pub ended : List ℕ → Line
ended text = record { bytes = text; is_ended = true }

abbrev pub same_text : List ℕ → List ℕ → Bool
same_text [] [] = true
same_text [] (y ∷ ys) = false
same_text (x ∷ xs) [] = false
same_text (x ∷ xs) (y ∷ ys) = (x == y) && same_text xs ys

-- how many lines are exactly `task`
abbrev pub task_lines : List Line → ℕ
task_lines [] = 0
task_lines (l ∷ ls) = (if l.is_ended && same_text l.bytes (codes "task") then 1 else 0) + task_lines ls

-- The lines are a script whose lines may name the kinds below this number.
abbrev pub IsScript : ℕ → List Line → Type 0
IsScript kinds ls = (s : Script) × IsSound kinds s × (ls ≡ map ended (script_texts s))

-- The input spells the script.
pub record Spells (input : List ℕ) (s : Script) : Type 0 where
  pub sound : IsSound (task_lines (lines input)) s
  pub text : lines input ≡ map ended (script_texts s)

-- Line n of the input is the first that is bad or missing.
abbrev pub IsFirstBad : List ℕ → ℕ → Type 0
IsFirstBad input n = IsFirstOut (IsScript (task_lines (lines input))) (lines input) n
