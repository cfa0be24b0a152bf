-- The lines of a journal, and the answer of a check of them.
use Rattle.std.specs.Prelude.{◌≡◌, ◌^◌, ◌<◌, ◌+◌, ℕ, zero, suc, true, List, [], ◌∷◌, ◌++◌, map, Option, Some, IfSome, codes, decimal}
use Rattle.mono_machine.specs.Machine.{start_machine}
use Rattle.mono_machine.specs.declared.events.Limits.{Limits}
use Rattle.mono_machine.specs.declared.events.Blocking.{Blocking}
use Rattle.mono_machine.specs.declared.events.Event.{Event}
use Rattle.mono_machine.specs.declared.events.Report.{Report}
use Rattle.mono_text.specs.LineText.{event_text, report_text, number_text, FitsEvent}
use Rattle.mono_text.specs.Lines.{Line, lines, AreLines, IsFirstWrong}
use Rattle.mono_trace.specs.Order.{pair_mark, misplaced, IsOrdered}
use Rattle.mono_trace.specs.Verdicts.{Checked, MayAnswerAt}
use Rattle.mono_trace.specs.declared.marks.Mark.{Mark}
use Rattle.mono_trace.specs.declared.marks.Mark.TheVariants as mark
use Rattle.mono_trace.specs.declared.marks.Stage.{Stage}
use Rattle.mono_trace.specs.declared.Verdict.TheVariants.{Yes, No}
use Rattle.mono_lines.specs.PrintableReports.{FitsReport, FitsAny}
use Rattle.mono_lines.specs.declared.trace.journal.JournalLine.{JournalLine}
use Rattle.mono_lines.specs.declared.trace.journal.JournalLine.TheVariants.{Ran, Now, Park, Main}
use Rattle.mono_lines.specs.declared.trace.checks.Answer.{Answer}
use Rattle.mono_lines.specs.declared.trace.checks.Answer.TheVariants as answer
use Rattle.mono_lines.specs.declared.trace.checks.Cause.{Cause}
use Rattle.mono_lines.specs.declared.trace.checks.Cause.TheVariants as cause
use Rattle.mono_lines.specs.declared.trace.checks.Failure.{Failure}

-- ---- lines

abbrev pub journal_text : JournalLine → List ℕ
journal_text (Ran e r) = event_text e ++ codes " -> " ++ report_text r
journal_text (Now n) = codes "now " ++ decimal n
journal_text (Park millis) = codes "park" ++ number_text millis
journal_text (Main o) = codes "main " ++ decimal o

abbrev pub FitsJournal : JournalLine → Type 0
FitsJournal (Ran e r) = FitsEvent e × FitsReport r
FitsJournal (Now n) = n < 2 ^ 128
FitsJournal (Park millis) = FitsAny millis
FitsJournal (Main o) = o < 2 ^ 64

-- The line has this content.
pub record IsJournalLine (said : JournalLine) (line : Line) : Type 0 where
  pub fits : FitsJournal said
  pub text : line.bytes ≡ journal_text said
  pub is_ended : line.is_ended ≡ true

-- The lines have these contents, one each.
abbrev pub AreJournalLines : List JournalLine → List Line → Type 0
AreJournalLines said ls = AreLines IsJournalLine said ls

-- Line n, counted from 1, is the first that is no line of a journal.
abbrev pub IsFirstBad : List Line → ℕ → Type 0
IsFirstBad ls n = IsFirstWrong IsJournalLine ls n

-- The bytes begin with a line of this content, followed by the rest.
abbrev pub BeginsWith : List ℕ → JournalLine → List ℕ → Type 0
BeginsWith bytes said rest = (bytes ≡ journal_text said ++ 10 ∷ rest) × FitsJournal said

-- The bytes begin with no line of a journal.
abbrev pub BeginsWithNone : List ℕ → Type 0
BeginsWithNone bytes = (said : JournalLine) (rest : List ℕ) → BeginsWith bytes said rest → ⊥

-- They begin with at most one line of a journal.
abbrev pub OneLine : Type 0
OneLine = (bytes : List ℕ) (said other : JournalLine) (rest behind : List ℕ) → BeginsWith bytes said rest → BeginsWith bytes other behind → (said ≡ other) × (rest ≡ behind)

-- They begin with the line of at most one report.
abbrev pub OneReport : Type 0
OneReport = (bytes : List ℕ) (r other : Report) (rest behind : List ℕ) → FitsReport r → FitsReport other
    → bytes ≡ report_text r ++ 10 ∷ rest → bytes ≡ report_text other ++ 10 ∷ behind → (r ≡ other) × (rest ≡ behind)

-- ---- the pairs of events and reports; the other lines are passed over

abbrev pub events_in : List JournalLine → List Event
events_in [] = []
events_in (Ran e r ∷ said) = e ∷ events_in said
events_in (Now n ∷ said) = events_in said
events_in (Park millis ∷ said) = events_in said
events_in (Main o ∷ said) = events_in said

abbrev pub reports_in : List JournalLine → List Report
reports_in [] = []
reports_in (Ran e r ∷ said) = r ∷ reports_in said
reports_in (Now n ∷ said) = reports_in said
reports_in (Park millis ∷ said) = reports_in said
reports_in (Main o ∷ said) = reports_in said

-- The line of the pair at a place, counted from 1 over all lines; the places of pairs are counted from 0.
abbrev pub line_of_pair : List JournalLine → ℕ → ℕ
line_of_pair [] place = 0
line_of_pair (Ran e r ∷ said) zero = 1
line_of_pair (Ran e r ∷ said) (suc place) = line_of_pair said place + 1
line_of_pair (Now n ∷ said) place = line_of_pair said place + 1
line_of_pair (Park millis ∷ said) place = line_of_pair said place + 1
line_of_pair (Main o ∷ said) place = line_of_pair said place + 1

-- ---- the order of the lines

abbrev pub mark_of : JournalLine → Mark
mark_of (Ran e r) = pair_mark e r
mark_of (Now n) = mark.Now n
mark_of (Park millis) = mark.Park millis
mark_of (Main o) = mark.Main o

-- ---- what a check answers

-- Each line is one of a journal, and its reports are those of a run of its events.
pub record IsPassed (limits : Limits) (strategy : Blocking) (input : List ℕ) : Type 0 where
  pub said : List JournalLine
  pub are_lines : AreJournalLines said (lines input)
  pub verdict : Checked limits strategy (events_in said) (reports_in said) Yes

-- The pair in line n is the first that no step allows. A report that is found is one that the machine could give there.
pub record FailsInPair (limits : Limits) (strategy : Blocking) (said : List JournalLine) (n : ℕ) (found : Option Report) : Type 0 where
  pub place : ℕ
  pub verdict : Checked limits strategy (events_in said) (reports_in said) (No place)
  pub line : n ≡ line_of_pair said place
  pub answers : IfSome found (λ r. MayAnswerAt place (start_machine limits strategy) (events_in said) (reports_in said) r)

-- Only a pair can fail.
abbrev pub Fails : Limits → Blocking → List JournalLine → ℕ → Cause → Type 0
Fails limits strategy said n (cause.Pair found) = FailsInPair limits strategy said n found
Fails limits strategy said n (cause.Order stage) = ⊥

-- Each line is one of a journal, and one of them fails so.
pub record FailsAtLine (limits : Limits) (strategy : Blocking) (input : List ℕ) (failure : Failure) : Type 0 where
  pub said : List JournalLine
  pub are_lines : AreJournalLines said (lines input)
  pub fails : Fails limits strategy said failure.line failure.cause

abbrev pub IsAnswer : Limits → Blocking → List ℕ → Answer → Type 0
IsAnswer limits strategy input (answer.BadLine n) = IsFirstBad (lines input) n
IsAnswer limits strategy input answer.Yes = IsPassed limits strategy input
IsAnswer limits strategy input (answer.No failure) = FailsAtLine limits strategy input failure

-- ---- what a check of a whole journal answers

-- It is a run, and its lines are in the order of whole calls of block_on.
pub record IsWhole (limits : Limits) (strategy : Blocking) (input : List ℕ) : Type 0 where
  pub said : List JournalLine
  pub are_lines : AreJournalLines said (lines input)
  pub verdict : Checked limits strategy (events_in said) (reports_in said) Yes
  pub ordered : IsOrdered (map mark_of said)

-- The reports are those of a run, and line n is the first that is out of order, behind this stage.
pub record FailsInOrder (limits : Limits) (strategy : Blocking) (said : List JournalLine) (n : ℕ) (stage : Stage) : Type 0 where
  pub verdict : Checked limits strategy (events_in said) (reports_in said) Yes
  pub first : misplaced (map mark_of said) ≡ Some (n, stage)

abbrev pub FailsWhole : Limits → Blocking → List JournalLine → ℕ → Cause → Type 0
FailsWhole limits strategy said n (cause.Pair found) = FailsInPair limits strategy said n found
FailsWhole limits strategy said n (cause.Order stage) = FailsInOrder limits strategy said n stage

-- Each line is one of a journal, and one of them fails so.
pub record FailsWholeAtLine (limits : Limits) (strategy : Blocking) (input : List ℕ) (failure : Failure) : Type 0 where
  pub said : List JournalLine
  pub are_lines : AreJournalLines said (lines input)
  pub fails : FailsWhole limits strategy said failure.line failure.cause

abbrev pub IsWholeAnswer : Limits → Blocking → List ℕ → Answer → Type 0
IsWholeAnswer limits strategy input (answer.BadLine n) = IsFirstBad (lines input) n
IsWholeAnswer limits strategy input answer.Yes = IsWhole limits strategy input
IsWholeAnswer limits strategy input (answer.No failure) = FailsWholeAtLine limits strategy input failure
