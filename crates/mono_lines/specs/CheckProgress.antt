-- The progress of a check: the pairs so far are a run, which ends here, or one was no step.
use Rattle.std.specs.Prelude.{◌≡◌, ◌≤◌, ◌+◌, ◌*◌, ◌^◌, ℕ, Bool, true, List, [], ◌∷◌, ◌++◌, length, map, Option, Some, None, IfSome}
use Rattle.mono_machine.specs.Machine.{Machine, start_machine}
use Rattle.mono_machine.specs.Steps.{Run}
use Rattle.mono_machine.specs.declared.events.Event.{Event}
use Rattle.mono_machine.specs.declared.events.Report.{Report}
use Rattle.mono_machine.specs.declared.events.Limits.{Limits}
use Rattle.mono_machine.specs.declared.events.Blocking.{Blocking}
use Rattle.mono_text.specs.Lines.{lines}
use Rattle.mono_trace.specs.OrderProgress.{Follows}
use Rattle.mono_trace.specs.Verdicts.{IsNoStep, MayAnswer}
use Rattle.mono_trace.specs.declared.marks.Mark.{Mark}
use Rattle.mono_trace.specs.declared.orders.Order.{Order}
use Rattle.mono_lines.specs.Journal.{events_in, reports_in, mark_of, AreJournalLines, IsFirstBad}
use Rattle.mono_lines.specs.declared.trace.checks.Checked.{Checked}
use Rattle.mono_lines.specs.declared.trace.checks.Failed.{Failed}
use Rattle.mono_lines.specs.declared.trace.checks.Reading.{Reading}
use Rattle.mono_lines.specs.declared.trace.checks.Reading.TheVariants as reading
use Rattle.mono_lines.specs.declared.trace.journal.JournalLine.{JournalLine}
use Rattle.mono_lines.specs.declared.trace.journal.JournalLine.TheVariants.{Ran}

-- The lines before line n are those of a run, and the pair in line n is no step from the machine at the end of that
-- run. A report that is found is one that this machine could give.
pub record FailsIn (start : Machine) (said : List JournalLine) (n : ℕ) (found : Option Report) : Type 0 where
  pub front : List JournalLine
  pub event : Event
  pub report : Report
  pub rest : List JournalLine
  pub mid : Machine
  pub is : said ≡ front ++ Ran event report ∷ rest
  pub run : Run start (events_in front) (reports_in front) mid
  pub no_step : IsNoStep mid event report
  pub line : n ≡ length front + 1
  pub answers : IfSome found (λ r. MayAnswer mid event r)

abbrev pub StandsAt : Machine → List JournalLine → Option Failed → Machine → Type 0
StandsAt start said None m = Run start (events_in said) (reports_in said) m
StandsAt start said (Some f) m = FailsIn start said f.line f.answer

-- One more line, which is line n, leads on from the progress of the lines before it.
abbrev pub LeadsOn : ℕ → JournalLine → Option Failed → Machine → Option Failed → Machine → Type 0
LeadsOn n x failed m after new = (start : Machine) (said : List JournalLine) → n ≡ length said + 1 → StandsAt start said failed m → StandsAt start (said ++ x ∷ []) after new

-- In a check of a whole journal one more line, which is line n, goes on in the order of the lines.
abbrev pub KeepsOrder : Bool → ℕ → JournalLine → Order → Order → Type 0
KeepsOrder whole n x old new = whole ≡ true → (marks : List Mark) → n ≡ length marks + 1 → Follows marks old → Follows (marks ++ mark_of x ∷ []) new

-- At most 2 ^ 63 arms for each of the lines so far.
abbrev pub HasFewArms : ℕ → Machine → Type 0
HasFewArms count m = m.sleeps.arm_count ≤ count * 2 ^ 63

-- All lines were read, and each is one of a journal.
pub record HasRead (whole : Bool) (limits : Limits) (strategy : Blocking) (input : List ℕ) (checked : Checked) : Type 0 where
  pub said : List JournalLine
  pub are_lines : AreJournalLines said (lines input)
  pub last : Machine
  pub stands : StandsAt (start_machine limits strategy) said checked.failed last
  pub follows : whole ≡ true → Follows (map mark_of said) checked.order
  pub counted : checked.next ≡ length said + 1

abbrev pub IsReading : Bool → Limits → Blocking → List ℕ → Reading → Type 0
IsReading whole limits strategy input (reading.BadLine n) = IsFirstBad (lines input) n
IsReading whole limits strategy input (reading.All checked) = HasRead whole limits strategy input checked
