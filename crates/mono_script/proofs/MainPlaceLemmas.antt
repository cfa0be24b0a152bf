-- The status is 10 if and only if the script has no place for a task.
use Rattle.std.proofs.Common.{◌≡◌, ◌≢◌, ◌↔◌, ◌^◌, ◌≤◌, ◌++◌, ◌∷◌, ℕ, true, List, [], Option, Some, None, codes, length, refl, sym, ap, ◌∙◌, arith, append_assoc, lit≤}
use Rattle.std.specs.Prelude.{decimal}
use Rattle.mono_machine.specs.declared.events.Limits.{Limits}
use Rattle.mono_text.specs.Lines.{Line, lines}
use Rattle.mono_text.specs.Parser.{Read, number_at, word_at, when}
use Rattle.mono_text.specs.LineText.{FitLimits}
use Rattle.mono_text.proofs.DigitLemmas.{digits_again}
use Rattle.mono_run.specs.Script.{Script}
use Rattle.mono_run.specs.ScriptText.{Spells, limits_text}
use Rattle.mono_run.specs.declared.runs.RunEnd.{RunEnd}
use Rattle.mono_run.specs.declared.runs.RunEnd.TheVariants as ran
use Rattle.mono_run.proofs.MainPlaceLemmas.{full_at}
use Rattle.mono_script.specs.Endings.{Ends, IsInput, IsRead, status_code, max_input}
use Rattle.mono_script.specs.Meanings.{running, run_status}
use Rattle.mono_script.specs.declared.command.Command.TheVariants as command
use Rattle.mono_script.specs.declared.ends.Status.{Status}
use Rattle.mono_script.proofs.StatusLemmas.{sound, answer_to_good}

-- ---- an input spells one limit of tasks

abbrev number_in : Read ℕ → Option ℕ
number_in None = None
number_in (Some x) = Some x.0

abbrev tasks_at : List ℕ → Option ℕ
tasks_at bytes = when (word_at (codes "limits ") bytes) (λ r. number_in (number_at r)) None

tasks_again : (x : Limits) → FitLimits x → tasks_at (limits_text x) ≡ Some x.tasks
tasks_again x fit =
    let rest = codes " " ++ decimal x.jobs ++ codes " " ++ decimal x.sleeps in
    let same : limits_text x ≡ codes "limits " ++ (decimal x.tasks ++ rest) = grind (arith, append_assoc) in
    let read : number_at (decimal x.tasks ++ rest) ≡ Some (x.tasks, rest) = digits_again (2 ^ 64) x.tasks rest (lit≤ tt) fit.tasks refl in
    ap tasks_at same ∙ ap number_in read

abbrev first_bytes : List Line → List ℕ
first_bytes [] = []
first_bytes (l ∷ ls) = l.bytes

pub tasks_once : (input : List ℕ) (s t : Script) → Spells input s → Spells input t → s.limits.tasks ≡ t.limits.tasks
tasks_once input s t p q =
    let texts : limits_text s.limits ≡ limits_text t.limits = ap first_bytes (sym p.text ∙ q.text) in
    let same : ◌≡◌ {A = Option ℕ} (Some s.limits.tasks) (Some t.limits.tasks) = sym (tasks_again s.limits p.sound.limits) ∙ ap tasks_at texts ∙ tasks_again t.limits q.sound.limits in
    grind (arith, same)

-- ---- the status goes with how the run ended

ended_full : (e : RunEnd) (s : Status) → s ≡ run_status e → (status_code s ≡ 10 ↔ e ≡ ran.Capacity)
ended_full (ran.Output o) s is = (λ ten. absurd (omega (arith, ten, ap status_code is)), λ full. absurd (cc full))
ended_full ran.Turns s is = (λ ten. absurd (omega (arith, ten, ap status_code is)), λ full. absurd (cc full))
ended_full ran.Capacity s is = (λ ten. refl, λ full. ap status_code is)

pub full_where : (workers turns : ℕ) (readings left rest before after : Option (List ℕ)) (R W : Type 0) (input : List ℕ) (script : Script) (s : Status)
    → Ends (running workers turns readings) left rest before after R W s → IsInput true left input → length input ≤ max_input → Spells input script → IsRead (status_code s) → status_code s ≢ 5
    → (status_code s ≡ 10 ↔ script.limits.tasks ≡ 0)
full_where workers turns readings left rest before after R W input script s p told short spelled read wrote =
    let a = answer_to_good (running workers turns readings) (sound readings (command.Run workers turns)) left rest before after R W input s p told short (script, spelled) read wrote in
    let one = tasks_once input a.1.0 script a.1.1 spelled in
    let law = full_at a.1.0.limits turns a.1.2.0 a.0 a.1.2.2.run.ran in
    let code = ended_full a.1.2.0 s a.1.2.1 in
    (λ ten. sym one ∙ law.0 (code.0 ten), λ none. code.1 (law.1 (one ∙ none)))
