-- The answers to a line.
use Rattle.std.specs.Prelude.{◌≡◌, ℕ, Bool, List, [], ◌∷◌, ◌++◌, map, flat_map, codes, decimal}
use Rattle.mono_text.specs.LineText.{number_part}
use Rattle.mono_actor.specs.Actors.{Actors}
use Rattle.mono_actor.specs.Calls.{Call}
use Rattle.mono_actor.specs.Calls as call
use Rattle.mono_actor.specs.Answers.{Answer}
use Rattle.mono_actor.specs.Answers as answer
use Rattle.mono_actor.specs.Steps.{Step, Run}
use Rattle.mono_actor.specs.declared.answers.ActorError.{ActorError}
use Rattle.mono_actor.specs.declared.answers.ActorError.TheVariants as error
use Rattle.mono_actor.specs.declared.answers.Sent.{Sent}
use Rattle.mono_actor.specs.declared.answers.Sent.TheVariants as sent
use Rattle.mono_actor.specs.declared.answers.Got.{Got}
use Rattle.mono_actor.specs.declared.answers.Got.TheVariants as got
use Rattle.mono_actor.specs.declared.answers.After.{After}
use Rattle.mono_actor.specs.declared.answers.After.TheVariants as after
use Rattle.mono_lines.specs.declared.actor.words.Handed.{Handed}
use Rattle.mono_lines.specs.declared.actor.words.ActorLine.{ActorLine}
use Rattle.mono_lines.specs.declared.actor.words.ActorLine.TheVariants as line

-- ---- how an answer is written

abbrev pub error_text : ActorError → List ℕ
error_text error.Memory = codes "memory"
error_text error.Idle = codes "idle"
error_text error.AtCapacity = codes "at-capacity"
error_text error.NoActor = codes "no-actor"

abbrev pub sent_text : Sent → List ℕ
sent_text sent.Queued = codes "queued"
sent_text sent.Waits = codes "waits"

abbrev pub got_text : Got ℕ → List ℕ
got_text (got.Message from message) = codes "from " ++ decimal from ++ codes " " ++ decimal message
got_text got.Timeout = codes "timeout"

abbrev pub after_text : After → List ℕ
after_text after.Idle = codes "idle"
after_text after.Again = codes "again"
after_text after.Stopped = codes "stopped"

abbrev pub answer_text : Answer ℕ → List ℕ
answer_text (answer.Actor a) = codes "actor " ++ decimal a
answer_text (answer.Posted what) = sent_text what
answer_text answer.Done = codes "ok"
answer_text (answer.Turn a what) = codes "turn " ++ decimal a ++ codes "; " ++ got_text what
answer_text (answer.Ended how) = after_text how
answer_text (answer.Due due) = codes "due" ++ flat_map number_part due
answer_text (answer.Refused error) = codes "refused " ++ error_text error
answer_text answer.Invalid = codes "refused invalid"

abbrev pub answer_part : Answer ℕ → List ℕ
answer_part a = codes "; " ++ answer_text a

-- ---- the answers to a line

abbrev pub send_from : ℕ → Handed → Call ℕ
send_from me handed = call.Send me handed.to handed.message

-- The calls of an actor's turn.
abbrev pub turn_calls : ℕ → List Handed → Bool → List (Call ℕ)
turn_calls me sends stop = map (send_from me) sends ++ call.End stop ∷ []

-- A turn that began continues with the actor's sends and its end. A turn that did not begin has no more calls.
abbrev pub GoesOn : List Handed → Bool → Actors ℕ → Answer ℕ → List (Answer ℕ) → Actors ℕ → Type 0
GoesOn sends stop mid (answer.Turn me what) others new = Run mid (turn_calls me sends stop) others new
GoesOn sends stop mid (answer.Refused error) others new = (others ≡ []) × (new ≡ mid)
GoesOn sends stop mid (answer.Actor a) others new = ⊥
GoesOn sends stop mid (answer.Posted what) others new = ⊥
GoesOn sends stop mid answer.Done others new = ⊥
GoesOn sends stop mid (answer.Ended how) others new = ⊥
GoesOn sends stop mid (answer.Due due) others new = ⊥
GoesOn sends stop mid answer.Invalid others new = ⊥

-- The line is one call; the line of a turn is its start, the sends and the end.
abbrev pub Makes : Actors ℕ → ActorLine → Answer ℕ → List (Answer ℕ) → Actors ℕ → Type 0
Makes old line.Actor first others new = Step old call.Spawn first new × (others ≡ [])
Makes old (line.Send from to message) first others new = Step old (call.Send from to message) first new × (others ≡ [])
Makes old (line.Timeout actor ms) first others new = Step old (call.Timeout actor ms) first new × (others ≡ [])
Makes old (line.Clock n) first others new = Step old (call.Clock n) first new × (others ≡ [])
Makes old (line.Turn sends stop) first others new = (mid : Actors ℕ) × Step old call.Begin first mid × GoesOn sends stop mid first others new

-- From old a line may get this text as its answer, and new is the result. The text has each answer, each further one
-- after a semicolon and a blank.
pub record Answers (old : Actors ℕ) (asked : ActorLine) (text : List ℕ) (new : Actors ℕ) : Type 0 where
  pub first : Answer ℕ
  pub others : List (Answer ℕ)
  pub makes : Makes old asked first others new
  pub text_is : text ≡ answer_text first ++ flat_map answer_part others
