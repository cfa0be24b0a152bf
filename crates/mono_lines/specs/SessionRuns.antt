-- The answers to all lines as a run of the sessions' calls.
use Rattle.std.specs.Prelude.{◌≡◌, ℕ, List, map}
use Rattle.mono_text.specs.Services.{AnswersAll}
use Rattle.mono_session.specs.Keeper.{Keeper}
use Rattle.mono_session.specs.Answers.{Answer}
use Rattle.mono_session.specs.Steps.{Run}
use Rattle.mono_lines.specs.declared.session.calls.SessionCall.{SessionCall}
use Rattle.mono_lines.specs.SessionTexts.{call_of, answer_text, StepsAs}

-- The answers to the lines are those of one run of the lines' calls.
abbrev pub AreOneRun : Type 0
AreOneRun = (old : Keeper) (said : List SessionCall) (texts : List (List ℕ)) (last : Keeper) → AnswersAll StepsAs old said texts last
    → (answers : List Answer) × Run old (map call_of said) answers last × (texts ≡ map answer_text answers)
