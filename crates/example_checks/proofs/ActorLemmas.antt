-- The output of an actor that is made.
use Rattle.std.proofs.Common.{◌≡◌, ℕ, ◌^◌, ◌-◌, ◌<◌, List, [], ◌∷◌, Option, Some, codes, lit≤, lit<, refl, ap, subst, ◌∙◌}
use Rattle.std.specs.Prelude.{flat_map}
use Rattle.mono_text.specs.Lines.{lines, AreLines}
use Rattle.mono_text.specs.Services.{Says, AnswersAll, answer_line}
use Rattle.mono_actor.specs.Actors.{Actors, no_actors}
use Rattle.mono_actor.specs.Answers as answer
use Rattle.mono_lines.specs.ActorTexts.{line_text, FitsLine}
use Rattle.mono_lines.specs.ActorAnswers.{Answers}
use Rattle.mono_lines.specs.ActorParser.{call_at}
use Rattle.mono_lines.specs.declared.actor.words.ActorLine.{ActorLine}
use Rattle.mono_lines.specs.declared.actor.words.ActorLine.TheVariants as asked
use Rattle.mono_lines.proofs.ActorSpellingLemmas.{spells}
use Rattle.mono_script.specs.declared.command.Command.TheVariants as command
use Rattle.mono_script.specs.declared.ends.Status.TheVariants as status
use Rattle.mono_script.specs.Command.{IsCommand}
use Rattle.mono_script.specs.Meanings.{acting}
use Rattle.mono_script.specs.TopCall.{view_of}
use Rattle.example_checks.specs.Outputs.{line, Gives, Ended}
use Rattle.example_checks.proofs.NumberTextLemmas.{zero_text, one_text}
use Rattle.example_checks.proofs.LineLemmas.{lines_once, call_once}
use Rattle.example_checks.proofs.OutputLemmas.{IsOnly, gives}

abbrev pub words : List (List ℕ)
words = codes "actors" ∷ codes "1" ∷ codes "1" ∷ []

abbrev pub input : List ℕ
input = line (codes "actor")

abbrev pub output : List ℕ
output = line (codes "actor 0")

is_command : IsCommand words (command.Actors 1 1)
is_command = record { text = rw one_text refl; fit = (lit< tt, lit< tt) }

abbrev calls : List ActorLine
calls = asked.Actor ∷ []

good : AreLines (Says line_text FitsLine) calls (lines input)
good = (record { fits = tt; text_is = refl; is_ended = refl }, tt)

one_answer : (answers : List (List ℕ)) (last : Actors ℕ) → AnswersAll Answers (no_actors 1 1) calls answers last → answers ≡ codes "actor 0" ∷ []
one_answer [] last r = absurd r
one_answer (a ∷ b ∷ answers) last r = absurd r.2
one_answer (a ∷ []) last r =
    let first : r.1.first ≡ answer.Actor 0 = r.1.makes.0.0 in
    let none : r.1.others ≡ [] = r.1.makes.1 in
    ap (λ x. x ∷ []) (r.1.text_is ∙ rw (first, none, zero_text) refl)

only : IsOnly (acting 1 1) input status.Done output
only s text (is, served) =
    let same : served.calls ≡ calls = lines_once (Says line_text FitsLine) (call_once line_text FitsLine call_at spells) served.calls calls (lines input) served.are_lines good in
    let told : served.answers ≡ codes "actor 0" ∷ [] = one_answer served.answers served.last (subst (λ cs. AnswersAll Answers (no_actors 1 1) cs served.answers served.last) same served.run) in
    (is, served.output_is ∙ ap (flat_map answer_line) told)

pub actors_give : (before after : Option (List ℕ)) (faults later code : ℕ) → faults < 2 ^ 64 - 1 → Ended words input before after faults later code → Gives 0 output before after code
actors_give before after faults later code few p =
    gives words p.0 (view_of (Some input) 0 before faults p.2.0) (view_of p.1 0 after later p.2.1) code (command.Actors 1 1) input output status.Done
    refl refl few p.2.2 is_command refl (lit≤ tt) (calls, good) only (λ e. p.2.2.done e)
