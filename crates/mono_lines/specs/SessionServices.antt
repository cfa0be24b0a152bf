-- The sessions and the output after a line.
use Rattle.std.specs.Prelude.{◌≡◌, ◌≢◌, ℕ, List, ◌++◌, Result, Err}
use Rattle.mono_text.specs.Services.{AnswersAs, answer_line}
use Rattle.mono_session.specs.Answers.{Answer}
use Rattle.mono_session.specs.Refinement.{StandsFor}
use Rattle.mono_session.specs.declared.error.SessionError.{SessionError}
use Rattle.mono_session.specs.declared.error.SessionError.TheVariants as error
use Rattle.mono_session.specs.declared.keeper.Sessions.{Sessions}
use Rattle.mono_lines.specs.declared.session.calls.SessionCall.{SessionCall}
use Rattle.mono_lines.specs.SessionTexts.{StepsAs, answer_text}

-- The sessions answered a line's call, and the answer's line was appended to the output.
abbrev pub Tells : Sessions → SessionCall → List ℕ → List ℕ → Sessions → Type 0
Tells old c out written new = (answer : List ℕ) × AnswersAs StandsFor StepsAs old c answer new × (written ≡ out ++ answer_line answer)

-- The line of an answer was appended to the output.
abbrev pub Wrote : Answer → List ℕ → List ℕ → Type 0
Wrote a out written = written ≡ out ++ answer_line (answer_text a)

-- The same unless the call was out of memory.
abbrev pub WroteOf : {A : Type 0} → (Result A SessionError → Answer) → Result A SessionError → List ℕ → List ℕ → Type 0
WroteOf of told out written = (told ≢ Err error.Memory) × Wrote (of told) out written
