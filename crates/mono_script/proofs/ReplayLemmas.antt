-- The answers of a service of events are the reports of a run.
use Rattle.std.proofs.Common.{◌≡◌, ℕ, List, [], ◌∷◌, ◌++◌, Option, Result, Ok, Err, IfOk, flat_map, refl, sym, ap, subst, ◌∙◌}
use Rattle.mono_machine.specs.declared.events.Event.{Event}
use Rattle.mono_machine.specs.declared.events.Report.{Report}
use Rattle.mono_machine.specs.declared.events.Limits.{Limits}
use Rattle.mono_machine.specs.declared.events.Blocking.{Blocking}
use Rattle.mono_machine.specs.Machine.{Machine, start_machine}
use Rattle.mono_machine.specs.Steps.{Run}
use Rattle.mono_replay.specs.Refinement.{Stands}
use Rattle.mono_text.specs.LineText.{event_text, FitsEvent, report_line}
use Rattle.mono_text.specs.Lines.{Line, lines, IsEventLine, AreLines, AreEventLines}
use Rattle.mono_text.specs.Services.{Says, AnswersAll, AnswersAs, Serves, answer_line}
use Rattle.mono_text.specs.declared.services.Served.{Served}
use Rattle.mono_text.specs.declared.services.Served.TheVariants as served
use Rattle.mono_text.proofs.ServiceLemmas.{serves_through}
use Rattle.mono_script.specs.declared.replay.ReplayLines.{ReplayLines}
use Rattle.mono_script.specs.declared.ends.Output.{Output}
use Rattle.mono_script.specs.declared.ends.Status.{Status}
use Rattle.mono_script.specs.declared.ends.Status.TheVariants as status
use Rattle.mono_script.specs.Answers.{IsAnswer}
use Rattle.mono_script.specs.Endings.{IsOutput, IsLine}
use Rattle.mono_script.specs.Follows.{ReportsAs}
use Rattle.mono_script.specs.Meanings.{replaying}
use Rattle.mono_script.specs.Services.{IsToldAs, IsLineOf}

abbrev LinesStand : ReplayLines → Machine → Type 0
LinesStand service m = Stands service.exec m

spells_event : (e : Event) (l : Line) → Says event_text FitsEvent e l → IsEventLine e l
spells_event e l says = record { fits = says.fits; text = says.text_is; is_ended = says.is_ended }

says_event : (e : Event) (l : Line) → IsEventLine e l → Says event_text FitsEvent e l
says_event e l is = record { fits = is.fits; text_is = is.text; is_ended = is.is_ended }

spell_events : (events : List Event) (ls : List Line) → AreLines (Says event_text FitsEvent) events ls → AreEventLines events ls
spell_events [] [] p = tt
spell_events (e ∷ events) (l ∷ ls) p = (spells_event e l p.0, spell_events events ls p.1)
spell_events [] (l ∷ ls) p = absurd p
spell_events (e ∷ events) [] p = absurd p

-- the reports of a run, and that their lines are these
run_of : (m : Machine) (events : List Event) (answers : List (List ℕ)) (last : Machine) → AnswersAll ReportsAs m events answers last
    → (reports : List Report) × Run m events reports last × (flat_map answer_line answers ≡ flat_map report_line reports)
run_of m [] [] last run = ([], run, refl)
run_of m [] (a ∷ answers) last run = absurd run
run_of m (e ∷ events) [] last run = absurd run
run_of m (e ∷ events) (a ∷ answers) last run =
    let rest = run_of run.0 events answers last run.2 in
    let r = run.1.0 in
    (r ∷ rest.0, (run.0, run.1.1, rest.1), ap (λ x. answer_line x ++ flat_map answer_line answers) run.1.2 ∙ ap (λ x. report_line r ++ x) rest.2)

is_answer : (limits : Limits) (strategy : Blocking) (input : List ℕ) (r : Served) → Serves event_text FitsEvent ReportsAs (start_machine limits strategy) input r → IsAnswer limits strategy input r
is_answer limits strategy input (served.BadLine n) (events, good, bad, rest, split, each, counted, none) =
    (events, good, bad, rest, split, spell_events events good each, counted, λ e is. none e (says_event e bad is))
is_answer limits strategy input (served.Output bytes) s =
    let run = run_of (start_machine limits strategy) s.calls s.answers s.last s.run in
    record { events = s.calls; reports = run.0; last = s.last; are_lines = spell_events s.calls (lines input) s.are_lines; run = run.1; text = s.output_is ∙ run.2 }

pub replay_served : {E : Type 0} (start : ReplayLines) (limits : Limits) (strategy : Blocking) (input : List ℕ) (r : Result Served E) → Stands start.exec (start_machine limits strategy)
    → IfOk r (λ r. Serves event_text FitsEvent (λ old c text new. AnswersAs Stands ReportsAs old.exec c text new.exec) start input r) → IfOk r (IsAnswer limits strategy input)
replay_served start limits strategy input (Ok r) stands s = is_answer limits strategy input r (serves_through LinesStand ReportsAs event_text FitsEvent start (start_machine limits strategy) input r stands s)
replay_served start limits strategy input (Err e) stands s = tt

-- an answer as a status and its bytes
as_output : (limits : Limits) (strategy : Blocking) (input : List ℕ) (r : Served) (s : Status) (output : List ℕ) → IsAnswer limits strategy input r → IsToldAs r s output → IsOutput (replaying limits strategy) input s output
as_output limits strategy input (served.BadLine n) s output is told = subst (λ x. IsOutput (replaying limits strategy) input x output) (sym told.0) (n, is, told.1)
as_output limits strategy input (served.Output bytes) s output is told = subst (λ x. IsOutput (replaying limits strategy) input x output) (sym told.0) (refl, rw told.1 is)

pub replay_output : {E : Type 0} (limits : Limits) (strategy : Blocking) (input : List ℕ) (r : Served) (made : Result Output E) → IsAnswer limits strategy input r
    → IfOk made (λ o. IsToldAs r o.status o.text.items) → IfOk made (λ o. IsOutput (replaying limits strategy) input o.status o.text.items)
replay_output limits strategy input r (Ok o) is told = as_output limits strategy input r o.status o.text.items is told
replay_output limits strategy input r (Err e) is told = tt

as_line : (limits : Limits) (strategy : Blocking) (input : List ℕ) (r : Served) (s : Status) (output : List ℕ) (line : Option ℕ) → IsAnswer limits strategy input r → IsToldAs r s output → IsLineOf r line
    → IsLine (replaying limits strategy) input s line
as_line limits strategy input (served.BadLine n) s output line answer told is =
    subst (λ x. IsLine (replaying limits strategy) input x line) (sym told.0) (subst (λ l. IsLine (replaying limits strategy) input status.BadLine l) (sym is) answer)
as_line limits strategy input (served.Output bytes) s output line answer told is = subst (λ x. IsLine (replaying limits strategy) input x line) (sym told.0) is

pub replay_line : {E : Type 0} (limits : Limits) (strategy : Blocking) (input : List ℕ) (r : Served) (made : Result Output E) → IsAnswer limits strategy input r
    → IfOk made (λ o. IsToldAs r o.status o.text.items) → IfOk made (λ o. IsLineOf r o.bad_line) → IfOk made (λ o. IsLine (replaying limits strategy) input o.status o.bad_line)
replay_line limits strategy input r (Ok o) answer told is = as_line limits strategy input r o.status o.text.items o.bad_line answer told is
replay_line limits strategy input r (Err e) answer told is = tt
