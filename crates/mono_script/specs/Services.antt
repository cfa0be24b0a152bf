-- A command whose lines are the calls on a value, and which answers each by a line.
use Rattle.std.specs.Prelude.{◌≡◌, ℕ, true, List, Option, Some, None}
use Rattle.mono_text.specs.Lines.{lines, AreLines, IsFirstWrong}
use Rattle.mono_text.specs.Services.{Says, IsServed}
use Rattle.mono_text.specs.declared.services.Served.{Served}
use Rattle.mono_text.specs.declared.services.Served.TheVariants as served
use Rattle.mono_script.specs.declared.ends.Status.{Status}
use Rattle.mono_script.specs.declared.ends.Status.TheVariants as status
use Rattle.mono_script.specs.Endings.{Meaning, bad_line_text}

-- Each line is a call, as `text` writes it and within the bounds of `Fits`. The answers are those of a run from
-- `start`, each step of which `Answers` allows.
abbrev pub serving : {S A : Type 0} → (A → List ℕ) → (A → Type 0) → (S → A → List ℕ → S → Type 0) → S → Meaning
serving {S} {A} text Fits Answers start = record {
  reads = true;
  workers = None;
  IsGood = λ input. (calls : List A) × AreLines (Says text Fits) calls (lines input);
  IsFirstBad = λ input n. IsFirstWrong (Says text Fits) (lines input) n;
  Answers = λ input s output. (s ≡ status.Done) × IsServed text Fits Answers start input output;
}

-- the result of serving, as a status and its bytes
abbrev pub IsToldAs : Served → Status → List ℕ → Type 0
IsToldAs (served.BadLine n) s output = (s ≡ status.BadLine) × (output ≡ bad_line_text n)
IsToldAs (served.Output bytes) s output = (s ≡ status.Done) × (output ≡ bytes.items)

-- the line that is named with it
abbrev pub IsLineOf : Served → Option ℕ → Type 0
IsLineOf (served.BadLine n) line = line ≡ Some n
IsLineOf (served.Output bytes) line = line ≡ None
