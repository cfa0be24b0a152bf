-- The answers of the sessions' tables are those of their model.
use Rattle.std.proofs.Common.{◌≡◌, ◌≤◌, ◌<◌, ℕ, List, ◌++◌, codes, flat_map, refl, ap}
use Rattle.mono_model.specs.Due.{ListsDue}
use Rattle.mono_model.specs.Ticks.{max_nanos}
use Rattle.mono_text.specs.Services.{AnswersAs}
use Rattle.mono_text.specs.LineText.{number_part}
use Rattle.mono_session.specs.Keeper.{Keeper, with_greatest}
use Rattle.mono_session.specs.Answers as answer
use Rattle.mono_session.specs.Steps.{closing_value, greatest_at, without_all}
use Rattle.mono_session.specs.Refinement.{StandsFor}
use Rattle.mono_session.specs.declared.error.SessionError.TheVariants as error
use Rattle.mono_session.specs.declared.keeper.Sessions.{Sessions}
use Rattle.mono_lines.specs.declared.session.calls.SessionCall.TheVariants as line
use Rattle.mono_lines.specs.SessionTexts.{StepsAs, answer_text}
use Rattle.mono_lines.specs.SessionServices.{Tells, Wrote}

pub clock_refused : (old : Sessions) (n : ℕ) (out written : List ℕ) → max_nanos < n → Wrote (answer.Refused error.Invalid) out written
    → Tells old (line.Clock n) out written old
clock_refused old n out written above w =
    let is : AnswersAs StandsFor StepsAs old (line.Clock n) (answer_text (answer.Refused error.Invalid)) old = λ k stands.
    (k, (answer.Refused error.Invalid, (above, refl, refl), refl), stands) in
    (answer_text (answer.Refused error.Invalid), is, w)

pub clock_told : (old new : Sessions) (n : ℕ) (listed out written : List ℕ) → n ≤ max_nanos
    → ((k : Keeper) → StandsFor old k → (due : List ℕ) × (listed ≡ due) × ListsDue closing_value k.sessions (greatest_at k n) due
    × StandsFor new (without_all (with_greatest k (greatest_at k n)) due))
    → Wrote (answer.Closed listed) out written → Tells old (line.Clock n) out written new
clock_told old new n listed out written fits step w =
    let is : AnswersAs StandsFor StepsAs old (line.Clock n) (answer_text (answer.Closed listed)) new = λ k stands.
    let p = step k stands in
    (without_all (with_greatest k (greatest_at k n)) p.0, (answer.Closed p.0, (fits, p.2, refl), ap (λ x. codes "closed" ++ flat_map number_part x) p.1), p.3) in
    (answer_text (answer.Closed listed), is, w)
