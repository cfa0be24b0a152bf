-- The result of the parts of a turn.
use Rattle.std.specs.Prelude.{◌≡◌, ℕ, List, ◌++◌, map, flat_map}
use Rattle.mono_actor.specs.Actors.{Actors}
use Rattle.mono_actor.specs.Answers.{Answer}
use Rattle.mono_actor.specs.Steps.{Run}
use Rattle.mono_lines.specs.declared.actor.words.Handed.{Handed}
use Rattle.mono_lines.specs.declared.actor.words.ActorLine.{ActorLine}
use Rattle.mono_lines.specs.ActorAnswers.{answer_part, send_from, Answers}

-- The actor sends all of these, and the answer to each is appended to the output.
pub record SendsAll (me : ℕ) (sends : List Handed) (old : Actors ℕ) (out : List ℕ) (new : Actors ℕ) (written : List ℕ) : Type 0 where
  pub answers : List (Answer ℕ)
  pub run : Run old (map (send_from me) sends) answers new
  pub text : written ≡ out ++ flat_map answer_part answers

-- A line is answered, and the answer's text is appended to the output.
pub record IsAnswered (old : Actors ℕ) (asked : ActorLine) (out : List ℕ) (new : Actors ℕ) (written : List ℕ) : Type 0 where
  pub text : List ℕ
  pub answers : Answers old asked text new
  pub behind : written ≡ out ++ text
