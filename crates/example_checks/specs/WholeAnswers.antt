-- The journal of calls of block_on as text, and the answer of the check of a whole journal to it.
use Rattle.std.specs.Prelude.{◌≡◌, ◌⊎◌, ℕ, Bool, List, [], ◌∷◌, ◌++◌, map, Result, Ok, Err}
use Rattle.mono_machine.specs.Machine.{Machine, start_machine}
use Rattle.mono_machine.specs.declared.events.Limits.{Limits}
use Rattle.mono_machine.specs.declared.events.Blocking.{Blocking}
use Rattle.mono_text.specs.Lines.{lines}
use Rattle.mono_lines.specs.Journal.{AreJournalLines, IsWholeAnswer}
use Rattle.mono_lines.specs.declared.trace.checks.Answer.{Answer}
use Rattle.mono_lines.specs.declared.trace.checks.Answer.TheVariants as answer
use Rattle.mono_lines.specs.declared.trace.journal.JournalLine.{JournalLine}
use Rattle.mono_lines.specs.declared.trace.journal.JournalLine.TheVariants as line
use Rattle.mono_rt.specs.declared.parts.errors.RunError.{RunError}
use Rattle.mono_rt.specs.declared.parts.journals.Entry.{Entry}
use Rattle.mono_rt.specs.declared.parts.journals.Entry.TheVariants.{Ran, Now, Park}
use Rattle.example_checks.specs.WholeCalls.{Call, Calls}

-- the line of an entry
abbrev pub line_of : Entry → JournalLine
line_of (Ran e r) = line.Ran e r
line_of (Now n) = line.Now n
line_of (Park wait) = line.Park wait

-- the line of the last call's output, if it answered Ok
abbrev pub output_line : Result ℕ RunError → List JournalLine
output_line (Ok output) = line.Main output ∷ []
output_line (Err e) = []

abbrev pub last_line : List Call → List JournalLine
last_line [] = []
last_line (call ∷ []) = output_line call.answer
last_line (call ∷ next ∷ calls) = last_line (next ∷ calls)

-- The input spells these entries, with or without the line of the last call's output at the end.
pub record Spells (calls : List Call) (part : List Entry) (input : List ℕ) : Type 0 where
  pub said : List JournalLine
  pub are_lines : AreJournalLines said (lines input)
  pub is : (said ≡ map line_of part) ⊎ (said ≡ map line_of part ++ last_line calls)

-- The only answer to the text of a journal that calls leave on a new runtime is yes.
abbrev pub WholeAnswersAreYes : Type 0
WholeAnswersAreYes =
    (limits : Limits) (strategy : Blocking) (has_timers : Bool) (calls : List Call) (part : List Entry) (new : Machine) (input : List ℕ) (told : Answer)
    → Calls has_timers calls (start_machine limits strategy) part new [] → Spells calls part input
    → IsWholeAnswer limits strategy input told → told ≡ answer.Yes

-- The answer to the text is yes if calls left its journal.
abbrev pub IsYesIfLeft : Limits → Blocking → List ℕ → Answer → Type 0
IsYesIfLeft limits strategy input told =
    (has_timers : Bool) (calls : List Call) (part : List Entry) (new : Machine)
    → Calls has_timers calls (start_machine limits strategy) part new [] → Spells calls part input → told ≡ answer.Yes
