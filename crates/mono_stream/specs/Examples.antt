-- A stream whose answers are given one by one.
use Rattle.std.specs.Prelude.{◌≡◌, ℕ, ⊤, List, [], ◌∷◌, Option, Some, None}
use Rattle.mono_model.specs.declared.poll.Poll.{Poll}
use Rattle.mono_model.specs.declared.poll.Poll.TheVariants.{Ready, Pending}

-- Each poll gives the next answer.
abbrev pub AnswersNext : List (Poll (Option ℕ)) → ⊤ → Poll (Option ℕ) → List (Poll (Option ℕ)) → ⊤ → Type 0
AnswersNext (answer ∷ answers) c r left d = (r ≡ answer) × (left ≡ answers)
AnswersNext [] c r left d = ⊥

-- Five, a wait, seven, and the end.
abbrev pub five_and_seven : List (Poll (Option ℕ))
five_and_seven = Ready (Some 5) ∷ Pending ∷ Ready (Some 7) ∷ Ready None ∷ []
