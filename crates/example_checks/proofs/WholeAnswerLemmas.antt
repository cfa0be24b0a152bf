-- The check of a whole journal answers yes to the text of each journal that calls of block_on leave.
use Rattle.std.proofs.Common.{◌≡◌, ◌⊎◌, inl, inr, ℕ, ◌+◌, zero, suc, List, [], ◌∷◌, ◌++◌, length, map, Some, None, Option, Ok, Err, Result, refl, ap, sym, subst, ◌∙◌}
use Rattle.std.proofs.lemmas.List.{append-nil, map-append}
use Rattle.mono_machine.specs.Machine.{Machine, start_machine}
use Rattle.mono_machine.specs.declared.events.Event.{Event}
use Rattle.mono_machine.specs.declared.events.Report.{Report}
use Rattle.mono_machine.specs.declared.events.Limits.{Limits}
use Rattle.mono_machine.specs.declared.events.Blocking.{Blocking}
use Rattle.mono_text.specs.Lines.{Line, lines, AreLines}
use Rattle.mono_trace.specs.Order.{IsOrdered, misplaced}
use Rattle.mono_trace.specs.Verdicts.{IsRun, Checked}
use Rattle.mono_trace.specs.declared.marks.Mark.{Mark}
use Rattle.mono_trace.specs.declared.Verdict.{Verdict}
use Rattle.mono_trace.specs.declared.Verdict.TheVariants as verdict
use Rattle.mono_trace.proofs.VerdictLemmas.{runs_are_passed}
use Rattle.mono_lines.specs.Journal as text
use Rattle.mono_lines.specs.Journal.{IsJournalLine, AreJournalLines, IsFirstBad, FailsInPair, FailsInOrder, FailsWhole, FailsWholeAtLine, IsWholeAnswer}
use Rattle.mono_lines.specs.declared.trace.checks.Answer.{Answer}
use Rattle.mono_lines.specs.declared.trace.checks.Answer.TheVariants as answer
use Rattle.mono_lines.specs.declared.trace.checks.Cause.{Cause}
use Rattle.mono_lines.specs.declared.trace.checks.Cause.TheVariants as cause
use Rattle.mono_lines.specs.declared.trace.checks.Failure.{Failure}
use Rattle.mono_lines.specs.declared.trace.journal.JournalLine.{JournalLine}
use Rattle.mono_lines.specs.declared.trace.journal.JournalLine.TheVariants as line
use Rattle.mono_lines.proofs.JournalLineLemmas.{one_line}
use Rattle.mono_rt.specs.Journals.{events_in, reports_in}
use Rattle.mono_rt.specs.declared.parts.errors.RunError.{RunError}
use Rattle.mono_rt.specs.declared.parts.journals.Entry.{Entry}
use Rattle.mono_rt.specs.declared.parts.journals.Entry.TheVariants.{Ran, Now, Park}
use Rattle.example_checks.specs.WholeCalls.{Call, Calls, mark_of, output_mark, last_mark, IsWholeJournal}
use Rattle.example_checks.specs.WholeAnswers.{line_of, output_line, last_line, Spells, WholeAnswersAreYes}
use Rattle.example_checks.proofs.WholeCallLemmas.{whole_calls_pass}

-- ---- lines spell one list of contents

journal_once : (x y : JournalLine) (l : Line) → IsJournalLine x l → IsJournalLine y l → x ≡ y
journal_once x y l p q = (one_line (l.bytes ++ 10 ∷ []) x y [] [] (ap (λ t. t ++ 10 ∷ []) p.text, p.fits) (ap (λ t. t ++ 10 ∷ []) q.text, q.fits)).0

lines_once : (xs ys : List JournalLine) (ls : List Line) → AreJournalLines xs ls → AreJournalLines ys ls → xs ≡ ys
lines_once [] [] [] p q = refl
lines_once (x ∷ xs) (y ∷ ys) (l ∷ ls) p q = ap (λ z. z ∷ xs) (journal_once x y l p.0 q.0) ∙ ap (λ zs. y ∷ zs) (lines_once xs ys ls p.1 q.1)
lines_once [] (y ∷ ys) [] p q = absurd q
lines_once (x ∷ xs) ys [] p q = absurd p
lines_once [] ys (l ∷ ls) p q = absurd p
lines_once (x ∷ xs) [] (l ∷ ls) p q = absurd q

-- a line that spells nothing is none of them
none_bad : (xs values : List JournalLine) (good : List Line) (bad : Line) (rest : List Line) → AreJournalLines xs (good ++ bad ∷ rest) → AreJournalLines values good → ((x : JournalLine) → IsJournalLine x bad → ⊥) → ⊥
none_bad [] values [] bad rest p q none = absurd p
none_bad (x ∷ xs) values [] bad rest p q none = none x p.0
none_bad [] values (l ∷ good) bad rest p q none = absurd p
none_bad (x ∷ xs) [] (l ∷ good) bad rest p q none = absurd q
none_bad (x ∷ xs) (v ∷ values) (l ∷ good) bad rest p q none = none_bad xs values good bad rest p.1 q.1 none

-- ---- the lines of entries

marks_same : (part : List Entry) → map text.mark_of (map line_of part) ≡ map mark_of part
marks_same [] = refl
marks_same (Ran e r ∷ part) = ap (λ ms. mark_of (Ran e r) ∷ ms) (marks_same part)
marks_same (Now n ∷ part) = ap (λ ms. mark_of (Now n) ∷ ms) (marks_same part)
marks_same (Park wait ∷ part) = ap (λ ms. mark_of (Park wait) ∷ ms) (marks_same part)

output_same : (told : Result ℕ RunError) → map text.mark_of (output_line told) ≡ output_mark told
output_same (Ok output) = refl
output_same (Err e) = refl

last_same : (calls : List Call) → map text.mark_of (last_line calls) ≡ last_mark calls
last_same [] = refl
last_same (c ∷ []) = output_same c.answer
last_same (c ∷ next ∷ calls) = last_same (next ∷ calls)

-- lines without a pair
abbrev HasNoPair : List JournalLine → Type 0
HasNoPair tail = (text.events_in tail ≡ []) × (text.reports_in tail ≡ [])

output_pairs : (told : Result ℕ RunError) → HasNoPair (output_line told)
output_pairs (Ok output) = (refl, refl)
output_pairs (Err e) = (refl, refl)

last_pairs : (calls : List Call) → HasNoPair (last_line calls)
last_pairs [] = (refl, refl)
last_pairs (c ∷ []) = output_pairs c.answer
last_pairs (c ∷ next ∷ calls) = last_pairs (next ∷ calls)

events_same : (part : List Entry) (tail : List JournalLine) → HasNoPair tail → text.events_in (map line_of part ++ tail) ≡ events_in part
events_same [] tail none = none.0
events_same (Ran e r ∷ part) tail none = ap (λ es. e ∷ es) (events_same part tail none)
events_same (Now n ∷ part) tail none = events_same part tail none
events_same (Park wait ∷ part) tail none = events_same part tail none

reports_same : (part : List Entry) (tail : List JournalLine) → HasNoPair tail → text.reports_in (map line_of part ++ tail) ≡ reports_in part
reports_same [] tail none = none.1
reports_same (Ran e r ∷ part) tail none = ap (λ rs. r ∷ rs) (reports_same part tail none)
reports_same (Now n ∷ part) tail none = reports_same part tail none
reports_same (Park wait ∷ part) tail none = reports_same part tail none

-- ---- a whole journal has one answer

record Whole (start : Machine) (said : List JournalLine) : Type 0 where
  run : IsRun start (text.events_in said) (text.reports_in said)
  ordered : IsOrdered (map text.mark_of said)

whole_with : (start : Machine) (part : List Entry) (tail : List JournalLine) (marks : List Mark) → HasNoPair tail → map text.mark_of tail ≡ marks → IsRun start (events_in part) (reports_in part) → IsOrdered (map mark_of part ++ marks) → Whole start (map line_of part ++ tail)
whole_with start part tail marks none same run ordered = record {
  run = subst (λ es. IsRun start es (text.reports_in (map line_of part ++ tail))) (sym (events_same part tail none)) (subst (λ rs. IsRun start (events_in part) rs) (sym (reports_same part tail none)) run);
  ordered = subst IsOrdered (sym (map-append text.mark_of (map line_of part) tail ∙ ap (λ ms. ms ++ map text.mark_of tail) (marks_same part) ∙ ap (λ ms. map mark_of part ++ ms) same)) ordered;
}

whole_lines : (start : Machine) (calls : List Call) (part : List Entry) (said : List JournalLine) → IsWholeJournal start calls part → (said ≡ map line_of part) ⊎ (said ≡ map line_of part ++ last_line calls) → Whole start said
whole_lines start calls part said whole (inl is) =
    let plain : Whole start (map line_of part ++ []) = whole_with start part [] [] (refl, refl) refl whole.run (subst IsOrdered (sym (append-nil (map mark_of part))) whole.ordered) in
    subst (Whole start) (append-nil (map line_of part) ∙ sym is) plain
whole_lines start calls part said whole (inr is) =
    subst (Whole start) (sym is) (whole_with start part (last_line calls) (last_mark calls) (last_pairs calls) (last_same calls) whole.run whole.ordered_with_output)

yes_no : (place : ℕ) → verdict.No place ≡ verdict.Yes → ⊥
yes_no place is = cc

none_some : {A : Type 0} (x : A) → None ≡ Some x → ⊥
none_some x is = cc

no_pair : (limits : Limits) (strategy : Blocking) (said : List JournalLine) (n : ℕ) (found : Option Report) → Whole (start_machine limits strategy) said → FailsInPair limits strategy said n found → ⊥
no_pair limits strategy said n found whole fails =
    yes_no fails.place (runs_are_passed (text.events_in said) (text.reports_in said) (start_machine limits strategy) whole.run.0 (verdict.No fails.place) whole.run.1 fails.verdict)

no_cause : (limits : Limits) (strategy : Blocking) (said : List JournalLine) (n : ℕ) (c : Cause) → Whole (start_machine limits strategy) said → FailsWhole limits strategy said n c → ⊥
no_cause limits strategy said n (cause.Pair found) whole fails = no_pair limits strategy said n found whole fails
no_cause limits strategy said n (cause.Order stage) whole fails = none_some (n, stage) (sym whole.ordered ∙ fails.first)

one_answer : (limits : Limits) (strategy : Blocking) (input : List ℕ) (said : List JournalLine) (told : Answer) → AreJournalLines said (lines input) → Whole (start_machine limits strategy) said → IsWholeAnswer limits strategy input told → told ≡ answer.Yes
one_answer limits strategy input said (answer.BadLine n) are whole (values, good, bad, rest, split, each, counted, none) =
    absurd (none_bad said values good bad rest (subst (AreJournalLines said) split are) each none)
one_answer limits strategy input said answer.Yes are whole is = refl
one_answer limits strategy input said (answer.No failure) are whole fails =
    let same : fails.said ≡ said = lines_once fails.said said (lines input) fails.are_lines are in
    absurd (no_cause limits strategy said failure.line failure.cause whole (subst (λ xs. FailsWhole limits strategy xs failure.line failure.cause) same fails.fails))

pub whole_answers_are_yes : WholeAnswersAreYes
whole_answers_are_yes limits strategy has_timers calls part new input told are spells answered =
    let whole : IsWholeJournal (start_machine limits strategy) calls part = whole_calls_pass limits strategy has_timers calls part new are in
    one_answer limits strategy input spells.said told spells.are_lines (whole_lines (start_machine limits strategy) calls part spells.said whole spells.is) answered
