-- The verdict on a list of events with reports: they are a run of the machine, or no run from a place on.
use Rattle.std.specs.Prelude.{◌≡◌, ℕ, zero, suc, List, [], ◌∷◌}
use Rattle.mono_machine.specs.Machine.{Machine, start_machine}
use Rattle.mono_machine.specs.Steps.{Step, Run}
use Rattle.mono_machine.specs.declared.events.Event.{Event}
use Rattle.mono_machine.specs.declared.events.Report.{Report}
use Rattle.mono_machine.specs.declared.events.Limits.{Limits}
use Rattle.mono_machine.specs.declared.events.Blocking.{Blocking}
use Rattle.mono_trace.specs.declared.Verdict.{Verdict}
use Rattle.mono_trace.specs.declared.Verdict.TheVariants.{Yes, No}

-- No machine may follow.
abbrev pub IsNoStep : Machine → Event → Report → Type 0
IsNoStep old event answer = (new : Machine) → Step old event answer new → ⊥

-- The machine may take the event with this report.
abbrev pub MayAnswer : Machine → Event → Report → Type 0
MayAnswer old event answer = (new : Machine) × Step old event answer new

-- The reports are those of a run of the events.
abbrev pub IsRun : Machine → List Event → List Report → Type 0
IsRun old events answers = (new : Machine) × Run old events answers new

-- The pairs before the place are those of a run, and the pair at the place is no step from the machine at the end of
-- that run.
abbrev pub FailsAt : ℕ → Machine → List Event → List Report → Type 0
FailsAt zero old (event ∷ events) (answer ∷ answers) = IsNoStep old event answer
FailsAt (suc place) old (event ∷ events) (answer ∷ answers) = (mid : Machine) × Step old event answer mid × FailsAt place mid events answers
FailsAt place old [] answers = ⊥
FailsAt place old events [] = ⊥

-- Where the run of the pairs before the place ends, the machine may take the event at the place with this report.
abbrev pub MayAnswerAt : ℕ → Machine → List Event → List Report → Report → Type 0
MayAnswerAt zero old (event ∷ events) (answer ∷ answers) other = MayAnswer old event other
MayAnswerAt (suc place) old (event ∷ events) (answer ∷ answers) other = (mid : Machine) × Step old event answer mid × MayAnswerAt place mid events answers other
MayAnswerAt place old [] answers other = ⊥
MayAnswerAt place old events [] other = ⊥

abbrev pub IsVerdict : Machine → List Event → List Report → Verdict → Type 0
IsVerdict old events answers Yes = IsRun old events answers
IsVerdict old events answers (No place) = FailsAt place old events answers

-- The answer of a check, from the start machine.
abbrev pub Checked : Limits → Blocking → List Event → List Report → Verdict → Type 0
Checked limits strategy events answers verdict = IsVerdict (start_machine limits strategy) events answers verdict

-- Only one verdict is right. So the answer is yes if and only if there is a run, and no at a place if and only if it
-- fails there.
abbrev pub OneVerdict : Type 0
OneVerdict = (events : List Event) (answers : List Report) (old : Machine) (verdict other : Verdict) → IsVerdict old events answers verdict → IsVerdict old events answers other → verdict ≡ other

-- The answers of a run pass, for each choice that the machine leaves open.
abbrev pub RunsArePassed : Type 0
RunsArePassed = (events : List Event) (answers : List Report) (old new : Machine) (verdict : Verdict) → Run old events answers new → IsVerdict old events answers verdict → verdict ≡ Yes
