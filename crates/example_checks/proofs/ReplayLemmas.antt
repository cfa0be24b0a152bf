-- The output of a replay of a spawn and a turn.
use Rattle.std.proofs.Common.{◌≡◌, ℕ, ◌^◌, ◌-◌, ◌<◌, List, [], ◌∷◌, ◌++◌, Option, Some, codes, lit≤, lit<, refl, ap, subst, ◌∙◌}
use Rattle.std.specs.Prelude.{flat_map}
use Rattle.mono_model.specs.declared.Ended.TheVariants as ended
use Rattle.mono_machine.specs.Machine.{Machine, start_machine}
use Rattle.mono_machine.specs.Acts.{act_outcome}
use Rattle.mono_machine.specs.Turns.{turn_report}
use Rattle.mono_machine.specs.Steps.{Run}
use Rattle.mono_machine.specs.declared.events.Limits.{Limits}
use Rattle.mono_machine.specs.declared.events.Blocking.TheVariants as blocking
use Rattle.mono_machine.specs.declared.events.Act.TheVariants as act
use Rattle.mono_machine.specs.declared.events.Query.TheVariants as query
use Rattle.mono_machine.specs.declared.events.TurnStep.{TurnStep}
use Rattle.mono_machine.specs.declared.events.TurnStep.TheVariants as step
use Rattle.mono_machine.specs.declared.events.End.TheVariants as end
use Rattle.mono_machine.specs.declared.events.Event.{Event}
use Rattle.mono_machine.specs.declared.events.Event.TheVariants as event
use Rattle.mono_machine.specs.declared.events.Reply.TheVariants as reply
use Rattle.mono_machine.specs.declared.events.Report.{Report}
use Rattle.mono_machine.specs.declared.events.Report.TheVariants as report
use Rattle.mono_text.specs.Lines.{lines, AreEventLines, IsEventLine}
use Rattle.mono_text.specs.LineText.{report_line}
use Rattle.mono_script.specs.declared.command.Command.TheVariants as command
use Rattle.mono_script.specs.declared.ends.Status.TheVariants as status
use Rattle.mono_script.specs.Command.{IsCommand}
use Rattle.mono_script.specs.Meanings.{replaying}
use Rattle.mono_script.specs.TopCall.{view_of}
use Rattle.example_checks.specs.Outputs.{line, Gives, Ended}
use Rattle.example_checks.proofs.NumberTextLemmas.{zero_text, seven_text, sixteen_text}
use Rattle.example_checks.proofs.LineLemmas.{lines_once, event_once}
use Rattle.example_checks.proofs.OutputLemmas.{IsOnly, gives}

abbrev pub limits : Limits
limits = record { tasks = 16; jobs = 16; sleeps = 16 }

abbrev pub words : List (List ℕ)
words = codes "replay" ∷ codes "attached" ∷ codes "16" ∷ codes "16" ∷ codes "16" ∷ []

abbrev pub input : List ℕ
input = line (codes "spawn") ++ line (codes "turn; sleep 0; poll 0; ready 7")

abbrev pub output : List ℕ
output = line (codes "task 0") ++ line (codes "turn 0; sleep 0; ready; done")

is_command : IsCommand words (command.Replay limits blocking.Attached)
is_command = record { text = rw sixteen_text refl; fit = record { tasks = lit< tt; jobs = lit< tt; sleeps = lit< tt } }

abbrev steps : List TurnStep
steps = step.Act (act.NewSleep 0) ∷ step.Query (query.Sleep 0) ∷ []

abbrev events : List Event
events = event.Act act.Spawn ∷ event.Turn steps (end.Ready 7) ∷ []

good : AreEventLines events (lines input)
good = (
  record { fits = tt; text = refl; is_ended = refl },
  (record { fits = ((lit< tt, (lit< tt, tt)), lit< tt); text = rw (zero_text, seven_text) refl; is_ended = refl }, tt),
)

abbrev reports : List Report
reports = report.Reply (reply.Task 0) ∷ report.Turn 0 (reply.Sleep 0 ∷ reply.Ready ∷ []) ended.Done ∷ []

abbrev start : Machine
start = start_machine limits blocking.Attached

one_run : (told : List Report) (last : Machine) → Run start events told last → told ≡ reports
one_run [] last r = absurd r
one_run (a ∷ []) last r = absurd r.2
one_run (a ∷ b ∷ c ∷ told) last r = absurd r.2.2
one_run (a ∷ b ∷ []) last r =
    let second : b ≡ turn_report steps (end.Ready 7) (act_outcome act.Spawn start).machine = subst (λ m. b ≡ turn_report steps (end.Ready 7) m) r.1.1 r.2.1.0 in
    ap (λ x. x ∷ b ∷ []) r.1.0 ∙ ap (λ y. report.Reply (reply.Task 0) ∷ y ∷ []) second

only : IsOnly (replaying limits blocking.Attached) input status.Done output
only s text (is, replayed) =
    let same : replayed.events ≡ events = lines_once IsEventLine event_once replayed.events events (lines input) replayed.are_lines good in
    let told : replayed.reports ≡ reports = one_run replayed.reports replayed.last (subst (λ es. Run start es replayed.reports replayed.last) same replayed.run) in
    (is, replayed.text ∙ ap (flat_map report_line) told ∙ rw zero_text refl)

pub replay_gives : (before after : Option (List ℕ)) (faults later code : ℕ) → faults < 2 ^ 64 - 1 → Ended words input before after faults later code → Gives 0 output before after code
replay_gives before after faults later code few p =
    gives words p.0 (view_of (Some input) 0 before faults p.2.0) (view_of p.1 0 after later p.2.1) code (command.Replay limits blocking.Attached) input output status.Done
    refl refl few p.2.2 is_command refl (lit≤ tt) (events, good) only (λ e. p.2.2.done e)
