-- The output of a check of a journal whose one report is wrong.
use Rattle.std.proofs.Common.{◌≡◌, ℕ, zero, suc, ◌^◌, ◌-◌, ◌<◌, List, [], ◌∷◌, Option, Some, codes, lit≤, lit<, refl, ap, subst, ◌∙◌, arith}
use Rattle.mono_machine.specs.Machine.{Machine, start_machine}
use Rattle.mono_machine.specs.declared.events.Limits.{Limits}
use Rattle.mono_machine.specs.declared.events.Blocking.TheVariants as blocking
use Rattle.mono_machine.specs.declared.events.Act.TheVariants as act
use Rattle.mono_machine.specs.declared.events.Event.TheVariants as event
use Rattle.mono_machine.specs.declared.events.Reply.TheVariants as reply
use Rattle.mono_machine.specs.declared.events.Report.{Report}
use Rattle.mono_machine.specs.declared.events.Report.TheVariants as report
use Rattle.mono_text.specs.Lines.{lines}
use Rattle.mono_trace.specs.Verdicts.{FailsAt, IsRun}
use Rattle.mono_lines.specs.Journal.{IsJournalLine, AreJournalLines, IsPassed, Fails, FailsAtLine, events_in, reports_in, line_of_pair}
use Rattle.mono_lines.specs.declared.trace.checks.Cause.{Cause}
use Rattle.mono_lines.specs.declared.trace.checks.Cause.TheVariants as cause
use Rattle.mono_lines.specs.declared.trace.checks.Failure.{Failure}
use Rattle.mono_lines.specs.declared.trace.journal.JournalLine.{JournalLine}
use Rattle.mono_lines.specs.declared.trace.journal.JournalLine.TheVariants.{Ran}
use Rattle.mono_script.specs.declared.command.Command.TheVariants as command
use Rattle.mono_script.specs.declared.ends.Status.TheVariants as status
use Rattle.mono_script.specs.Checks.{checking, no_line}
use Rattle.mono_script.specs.Command.{IsCommand}
use Rattle.mono_script.specs.TopCall.{view_of}
use Rattle.example_checks.specs.Outputs.{line, Gives, Ended}
use Rattle.example_checks.proofs.NumberTextLemmas.{one_text, sixteen_text}
use Rattle.example_checks.proofs.LineLemmas.{lines_once, journal_once}
use Rattle.example_checks.proofs.OutputLemmas.{IsOnly, gives}

abbrev limits : Limits
limits = record { tasks = 16; jobs = 16; sleeps = 16 }

abbrev pub words : List (List ℕ)
words = codes "check" ∷ codes "attached" ∷ codes "16" ∷ codes "16" ∷ codes "16" ∷ []

abbrev pub input : List ℕ
input = line (codes "spawn -> task 1")

abbrev pub output : List ℕ
output = line (codes "no 1")

is_command : IsCommand words (command.Check limits blocking.Attached)
is_command = record { text = rw sixteen_text refl; fit = record { tasks = lit< tt; jobs = lit< tt; sleeps = lit< tt } }

abbrev said : List JournalLine
said = Ran (event.Act act.Spawn) (report.Reply (reply.Task 1)) ∷ []

good : AreJournalLines said (lines input)
good = (record { fits = (tt, lit< tt); text = rw one_text refl; is_ended = refl }, tt)

same_lines : (other : List JournalLine) → AreJournalLines other (lines input) → other ≡ said
same_lines other are = lines_once IsJournalLine journal_once other said (lines input) are good

abbrev start : Machine
start = start_machine limits blocking.Attached

abbrev task_in : Report → ℕ
task_in (report.Reply (reply.Task t)) = t
task_in r = 0

-- the first task has number 0
no_run : IsRun start (events_in said) (reports_in said) → ⊥
no_run (last, (mid, step, rest)) =
    let other : ◌≡◌ {A = ℕ} 1 0 = ap task_in step.0 in
    omega (arith, other)

not_passed : IsPassed limits blocking.Attached input → ⊥
not_passed passed =
    let same : passed.said ≡ said = same_lines passed.said passed.are_lines in
    no_run (subst (λ xs. IsRun start (events_in xs) (reports_in xs)) same passed.verdict)

by_place : (n place : ℕ) → FailsAt place start (events_in said) (reports_in said) → n ≡ line_of_pair said place → n ≡ 1
by_place n zero fails is = is
by_place n (suc zero) fails is = absurd fails.2
by_place n (suc (suc place)) fails is = absurd fails.2

by_cause : (n : ℕ) (c : Cause) → Fails limits blocking.Attached said n c → n ≡ 1
by_cause n (cause.Pair found) fails = by_place n fails.place fails.verdict fails.line
by_cause n (cause.Order stage) fails = absurd fails

first_line : (failure : Failure) → FailsAtLine limits blocking.Attached input failure → failure.line ≡ 1
first_line failure fails =
    let same : fails.said ≡ said = same_lines fails.said fails.are_lines in
    by_cause failure.line failure.cause (subst (λ xs. Fails limits blocking.Attached xs failure.line failure.cause) same fails.fails)

only : IsOnly (checking limits blocking.Attached) input status.NotARun output
only status.Done text (passed, is) = absurd (not_passed passed)
only status.NotARun text (failure, fails, is) = (refl, is ∙ ap no_line (first_line failure fails) ∙ rw one_text refl)
only status.Usage text p = absurd p
only status.BadLine text p = absurd p
only status.ReadFault text p = absurd p
only status.WriteFault text p = absurd p
only status.OutOfMemory text p = absurd p
only status.TooLong text p = absurd p
only status.Turns text p = absurd p
only status.Capacity text p = absurd p

pub wrong_check_gives : (before after : Option (List ℕ)) (faults later code : ℕ) → faults < 2 ^ 64 - 1 → Ended words input before after faults later code → Gives 11 output before after code
wrong_check_gives before after faults later code few p =
    gives words p.0 (view_of (Some input) 0 before faults p.2.0) (view_of p.1 0 after later p.2.1) code (command.Check limits blocking.Attached) input output status.NotARun
    refl refl few p.2.2 is_command refl (lit≤ tt) (said, good) only (λ e. p.2.2.not_a_run e)
