-- The words after the first word of a command.
use Rattle.std.specs.Prelude.{◌≡◌, ℕ, ◌<◌, ◌^◌, List, [], ◌∷◌, codes, decimal}
use Rattle.mono_machine.specs.declared.events.Limits.{Limits}
use Rattle.mono_machine.specs.declared.events.Blocking.{Blocking}
use Rattle.mono_machine.specs.declared.events.Blocking.TheVariants as blocking
use Rattle.mono_text.specs.LineText.{FitLimits}

abbrev pub strategy_text : Blocking → List ℕ
strategy_text blocking.Attached = codes "attached"
strategy_text blocking.ExecuteLocal = codes "local"
strategy_text blocking.Panic = codes "panic"

-- a word, and two numbers
abbrev pub two_words : List ℕ → ℕ → ℕ → List (List ℕ)
two_words name first second = name ∷ decimal first ∷ decimal second ∷ []

-- a word, a strategy and limits
abbrev pub limit_words : List ℕ → Limits → Blocking → List (List ℕ)
limit_words name limits strategy = name ∷ strategy_text strategy ∷ decimal limits.tasks ∷ decimal limits.jobs ∷ decimal limits.sleeps ∷ []

-- a word and a second one, a strategy and limits
abbrev pub flagged_words : List ℕ → List ℕ → Limits → Blocking → List (List ℕ)
flagged_words name flag limits strategy =
    name ∷ flag ∷ strategy_text strategy ∷ decimal limits.tasks ∷ decimal limits.jobs ∷ decimal limits.sleeps ∷ []

-- The words are this one and two numbers, which are within their bounds.
pub record SayTwo (name : List ℕ) (words : List (List ℕ)) (first second : ℕ) : Type 0 where
  pub text : words ≡ two_words name first second
  pub first_fits : first < 2 ^ 64
  pub second_fits : second < 2 ^ 64

-- The words are this one, a strategy and limits.
pub record SayLimits (name : List ℕ) (words : List (List ℕ)) (limits : Limits) (strategy : Blocking) : Type 0 where
  pub text : words ≡ limit_words name limits strategy
  pub fit : FitLimits limits

-- The words are these two, a strategy and limits.
pub record SayFlagged (name flag : List ℕ) (words : List (List ℕ)) (limits : Limits) (strategy : Blocking) : Type 0 where
  pub text : words ≡ flagged_words name flag limits strategy
  pub fit : FitLimits limits

-- ---- for the reader

-- The three words spell these limits.
pub record AreLimits (tasks jobs sleeps : List ℕ) (limits : Limits) : Type 0 where
  pub tasks_text : tasks ≡ decimal limits.tasks
  pub jobs_text : jobs ≡ decimal limits.jobs
  pub sleeps_text : sleeps ≡ decimal limits.sleeps
  pub fit : FitLimits limits
