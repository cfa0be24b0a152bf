-- A clock step and the line of its answer, and a step by the model that contracts see.
use Rattle.std.proofs.Common.{◌≡◌, ℕ, ◌<◌, List, [], ◌++◌, refl, sym, subst, OnOk, Result, Ok, Err}
use Rattle.mono_model.specs.Ticks.{max_nanos}
use Rattle.mono_text.specs.Services.{answer_line, AnswersAs}
use Rattle.mono_limit.specs.Limiter.{Limits}
use Rattle.mono_limit.specs.Limits.{limits_of, ListsInto}
use Rattle.mono_limit.specs.declared.limiter.Limiter.{Limiter}
use Rattle.mono_limit.specs.Steps.{ClockStep}
use Rattle.mono_limit.specs.Answers as answer
use Rattle.mono_limit.specs.declared.LimitError.TheVariants as error
use Rattle.mono_lines.specs.declared.limit.calls.LimiterCall.{LimiterCall}
use Rattle.mono_lines.specs.declared.limit.calls.LimiterCall.TheVariants as line
use Rattle.mono_lines.specs.LimiterTexts.{answer_text, ShowsLimits, StepsAs, StepInto}
use Rattle.mono_lines.proofs.ServiceLemmas.{on_ok}

pub past_the_last : {A E : Type 0} (r : Result A E) (old : Limits) (n : ℕ) (before after : List ℕ) → max_nanos < n
    → OnOk r (after ≡ before ++ answer_line (answer_text (answer.Refused error.Invalid))) → OnOk r (StepInto old (line.Clock n) before after old)
past_the_last (Ok x) old n before after late e = (answer_text (answer.Refused error.Invalid), (answer.Refused error.Invalid, (late, refl, refl), refl), e)
past_the_last (Err e) old n before after late f = tt

-- of a list that was empty, and is shown
pub listed : {A E : Type 0} (r : Result A E) (old new : Limits) (m n : ℕ) (empty due shown before after : List ℕ) → m ≡ n → empty ≡ []
    → ListsInto old m empty due new → shown ≡ due → OnOk r (after ≡ before ++ answer_line (answer_text (answer.Due shown))) → OnOk r (StepInto old (line.Clock n) before after new)
listed (Ok x) old new m n empty due shown before after at none lists same e =
    let is : shown ≡ lists.0 = rw (same, lists.1, none) refl in
    let step : ClockStep old n (answer.Due shown) new = subst (λ k. ClockStep old k (answer.Due shown) new) at (subst (λ d. ClockStep old m (answer.Due d) new) (sym is) lists.2) in
    (answer_text (answer.Due shown), (answer.Due shown, step, refl), e)
listed (Err error) old new m n empty due shown before after at none lists same e = tt

-- the answer to a call, by the model that contracts see
pub as_model : {E : Type 0} (r : Result (Unit {0}) E) (old new : Limiter) (c : LimiterCall) (before after : List ℕ) → OnOk r (StepInto (limits_of old) c before after (limits_of new))
    → OnOk r ((text : List ℕ) × AnswersAs ShowsLimits StepsAs old c text new × (after ≡ before ++ answer_line text))
as_model r old new c before after told = on_ok r (λ s. (s.0, (λ limits is. (limits_of new, subst (λ k. StepsAs k c s.0 (limits_of new)) is s.1, refl)), s.2)) told
