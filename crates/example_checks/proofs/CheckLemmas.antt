-- The output of a check of a journal that is right.
use Rattle.std.proofs.Common.{◌≡◌, ℕ, zero, suc, ◌^◌, ◌-◌, ◌<◌, List, [], ◌∷◌, Option, Some, codes, lit≤, lit<, refl, subst}
use Rattle.mono_machine.specs.Machine.{Machine, start_machine}
use Rattle.mono_machine.specs.Acts.{act_outcome}
use Rattle.mono_machine.specs.declared.events.Limits.{Limits}
use Rattle.mono_machine.specs.declared.events.Blocking.TheVariants as blocking
use Rattle.mono_machine.specs.declared.events.Act.TheVariants as act
use Rattle.mono_machine.specs.declared.events.Event.TheVariants as event
use Rattle.mono_machine.specs.declared.events.Reply.TheVariants as reply
use Rattle.mono_machine.specs.declared.events.Report.TheVariants as report
use Rattle.mono_text.specs.Lines.{lines}
use Rattle.mono_trace.specs.Verdicts.{FailsAt}
use Rattle.mono_lines.specs.Journal.{IsJournalLine, AreJournalLines, Fails, FailsAtLine}
use Rattle.mono_lines.specs.declared.trace.checks.Cause.{Cause}
use Rattle.mono_lines.specs.declared.trace.checks.Cause.TheVariants as cause
use Rattle.mono_lines.specs.declared.trace.checks.Failure.{Failure}
use Rattle.mono_lines.specs.declared.trace.journal.JournalLine.{JournalLine}
use Rattle.mono_lines.specs.declared.trace.journal.JournalLine.TheVariants.{Ran}
use Rattle.mono_script.specs.declared.command.Command.TheVariants as command
use Rattle.mono_script.specs.declared.ends.Status.TheVariants as status
use Rattle.mono_script.specs.Checks.{checking}
use Rattle.mono_script.specs.Command.{IsCommand}
use Rattle.mono_script.specs.TopCall.{view_of}
use Rattle.example_checks.specs.Outputs.{line, Gives, Ended}
use Rattle.example_checks.proofs.NumberTextLemmas.{zero_text, sixteen_text}
use Rattle.example_checks.proofs.LineLemmas.{lines_once, journal_once}
use Rattle.example_checks.proofs.OutputLemmas.{IsOnly, gives}

abbrev limits : Limits
limits = record { tasks = 16; jobs = 16; sleeps = 16 }

abbrev pub words : List (List ℕ)
words = codes "check" ∷ codes "attached" ∷ codes "16" ∷ codes "16" ∷ codes "16" ∷ []

abbrev pub input : List ℕ
input = line (codes "spawn -> task 0")

abbrev pub output : List ℕ
output = line (codes "yes")

is_command : IsCommand words (command.Check limits blocking.Attached)
is_command = record { text = rw sixteen_text refl; fit = record { tasks = lit< tt; jobs = lit< tt; sleeps = lit< tt } }

abbrev said : List JournalLine
said = Ran (event.Act act.Spawn) (report.Reply (reply.Task 0)) ∷ []

good : AreJournalLines said (lines input)
good = (record { fits = (tt, lit< tt); text = rw zero_text refl; is_ended = refl }, tt)

abbrev start : Machine
start = start_machine limits blocking.Attached

no_place : (place : ℕ) → FailsAt place start (event.Act act.Spawn ∷ []) (report.Reply (reply.Task 0) ∷ []) → ⊥
no_place zero fails = fails (act_outcome act.Spawn start).machine (refl, refl)
no_place (suc zero) fails = fails.2
no_place (suc (suc place)) fails = fails.2

no_cause : (n : ℕ) (c : Cause) → Fails limits blocking.Attached said n c → ⊥
no_cause n (cause.Pair found) fails = no_place fails.place fails.verdict
no_cause n (cause.Order stage) fails = fails

no_failure : (failure : Failure) → FailsAtLine limits blocking.Attached input failure → ⊥
no_failure failure fails =
    let same : fails.said ≡ said = lines_once IsJournalLine journal_once fails.said said (lines input) fails.are_lines good in
    no_cause failure.line failure.cause (subst (λ xs. Fails limits blocking.Attached xs failure.line failure.cause) same fails.fails)

only : IsOnly (checking limits blocking.Attached) input status.Done output
only status.Done text (passed, is) = (refl, is)
only status.NotARun text (failure, fails, is) = absurd (no_failure failure fails)
only status.Usage text p = absurd p
only status.BadLine text p = absurd p
only status.ReadFault text p = absurd p
only status.WriteFault text p = absurd p
only status.OutOfMemory text p = absurd p
only status.TooLong text p = absurd p
only status.Turns text p = absurd p
only status.Capacity text p = absurd p

pub check_gives : (before after : Option (List ℕ)) (faults later code : ℕ) → faults < 2 ^ 64 - 1 → Ended words input before after faults later code → Gives 0 output before after code
check_gives before after faults later code few p =
    gives words p.0 (view_of (Some input) 0 before faults p.2.0) (view_of p.1 0 after later p.2.1) code (command.Check limits blocking.Attached) input output status.Done
    refl refl few p.2.2 is_command refl (lit≤ tt) (said, good) only (λ e. p.2.2.done e)
