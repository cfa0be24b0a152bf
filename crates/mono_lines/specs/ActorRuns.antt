-- The answers to all lines as a run of the actors' calls.
use Rattle.std.specs.Prelude.{◌≡◌, ℕ, List, [], ◌∷◌, ◌++◌, flat_map}
use Rattle.mono_text.specs.Services.{AnswersAll}
use Rattle.mono_actor.specs.Actors.{Actors}
use Rattle.mono_actor.specs.Calls.{Call}
use Rattle.mono_actor.specs.Calls as call
use Rattle.mono_actor.specs.Answers.{Answer}
use Rattle.mono_actor.specs.Answers as answer
use Rattle.mono_actor.specs.Steps.{Run}
use Rattle.mono_lines.specs.declared.actor.words.ActorLine.{ActorLine}
use Rattle.mono_lines.specs.declared.actor.words.ActorLine.TheVariants as line
use Rattle.mono_lines.specs.ActorAnswers.{answer_text, answer_part, turn_calls, Answers}

-- The calls that a line made, by its first answer.
abbrev pub calls_made : ActorLine → Answer ℕ → List (Call ℕ)
calls_made line.Actor first = call.Spawn ∷ []
calls_made (line.Send from to message) first = call.Send from to message ∷ []
calls_made (line.Timeout actor ms) first = call.Timeout actor ms ∷ []
calls_made (line.Clock n) first = call.Clock n ∷ []
calls_made (line.Turn sends stop) (answer.Turn me what) = call.Begin ∷ turn_calls me sends stop
calls_made (line.Turn sends stop) first = call.Begin ∷ []

-- Each line made its calls, and its text has their answers.
abbrev pub Tells : List ActorLine → List (List ℕ) → List (Call ℕ) → List (Answer ℕ) → Type 0
Tells [] [] calls answers = (calls ≡ []) × (answers ≡ [])
Tells (asked ∷ lines) (text ∷ texts) calls answers =
    (first : Answer ℕ) × (others : List (Answer ℕ)) × (later_calls : List (Call ℕ)) × (later : List (Answer ℕ))
    × (calls ≡ calls_made asked first ++ later_calls) × (answers ≡ first ∷ others ++ later)
    × (text ≡ answer_text first ++ flat_map answer_part others) × Tells lines texts later_calls later
Tells [] (text ∷ texts) calls answers = ⊥
Tells (asked ∷ lines) [] calls answers = ⊥

-- The answers to the lines are those of one run of the calls that the lines made.
abbrev pub AreOneRun : Type 0
AreOneRun = (old : Actors ℕ) (lines : List ActorLine) (texts : List (List ℕ)) (last : Actors ℕ) → AnswersAll Answers old lines texts last
    → (calls : List (Call ℕ)) × (answers : List (Answer ℕ)) × Run old calls answers last × Tells lines texts calls answers
