-- The output of a bucket that is made.
use Rattle.std.proofs.Common.{◌≡◌, ℕ, ◌^◌, ◌-◌, ◌<◌, List, [], ◌∷◌, Option, Some, codes, lit≤, lit<, refl, ap, subst, ◌∙◌}
use Rattle.std.specs.Prelude.{flat_map}
use Rattle.mono_text.specs.Lines.{lines, AreLines}
use Rattle.mono_text.specs.Services.{Says, AnswersAll, answer_line}
use Rattle.mono_limit.specs.Limiter.{Limits, no_limits}
use Rattle.mono_lines.specs.LimiterTexts.{call_text, FitsCall, StepsAs, answer_text}
use Rattle.mono_lines.specs.LimiterParser.{call_at}
use Rattle.mono_lines.specs.declared.limit.calls.LimiterCall.{LimiterCall}
use Rattle.mono_lines.specs.declared.limit.calls.LimiterCall.TheVariants as call
use Rattle.mono_lines.proofs.LimiterSpellingLemmas.{spells}
use Rattle.mono_script.specs.declared.command.Command.TheVariants as command
use Rattle.mono_script.specs.declared.ends.Status.TheVariants as status
use Rattle.mono_script.specs.Command.{IsCommand}
use Rattle.mono_script.specs.Meanings.{limiting}
use Rattle.mono_script.specs.TopCall.{view_of}
use Rattle.example_checks.specs.Outputs.{line, Gives, Ended}
use Rattle.example_checks.proofs.NumberTextLemmas.{zero_text, one_text}
use Rattle.example_checks.proofs.LineLemmas.{lines_once, call_once}
use Rattle.example_checks.proofs.OutputLemmas.{IsOnly, gives}

abbrev pub words : List (List ℕ)
words = codes "limiter" ∷ codes "1" ∷ codes "1" ∷ []

abbrev pub input : List ℕ
input = line (codes "bucket 1 1")

abbrev pub output : List ℕ
output = line (codes "bucket 0")

is_command : IsCommand words (command.Limiter 1 1)
is_command = record { text = rw one_text refl; fit = (lit< tt, lit< tt) }

abbrev calls : List LimiterCall
calls = call.Bucket 1 1 ∷ []

good : AreLines (Says call_text FitsCall) calls (lines input)
good = (record { fits = (lit< tt, lit< tt); text_is = rw one_text refl; is_ended = refl }, tt)

one_answer : (answers : List (List ℕ)) (last : Limits) → AnswersAll StepsAs (no_limits 1 1) calls answers last → answers ≡ codes "bucket 0" ∷ []
one_answer [] last r = absurd r
one_answer (a ∷ b ∷ answers) last r = absurd r.2
one_answer (a ∷ []) last r = ap (λ x. x ∷ []) (r.1.2 ∙ ap answer_text r.1.1.0 ∙ rw zero_text refl)

only : IsOnly (limiting 1 1) input status.Done output
only s text (is, served) =
    let same : served.calls ≡ calls = lines_once (Says call_text FitsCall) (call_once call_text FitsCall call_at spells) served.calls calls (lines input) served.are_lines good in
    let told : served.answers ≡ codes "bucket 0" ∷ [] = one_answer served.answers served.last (subst (λ cs. AnswersAll StepsAs (no_limits 1 1) cs served.answers served.last) same served.run) in
    (is, served.output_is ∙ ap (flat_map answer_line) told)

pub limiter_gives : (before after : Option (List ℕ)) (faults later code : ℕ) → faults < 2 ^ 64 - 1 → Ended words input before after faults later code → Gives 0 output before after code
limiter_gives before after faults later code few p =
    gives words p.0 (view_of (Some input) 0 before faults p.2.0) (view_of p.1 0 after later p.2.1) code (command.Limiter 1 1) input output status.Done
    refl refl few p.2.2 is_command refl (lit≤ tt) (calls, good) only (λ e. p.2.2.done e)
