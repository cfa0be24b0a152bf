-- The output of a call, if memory and the sink last.
use Rattle.std.specs.Prelude.{◌≡◌, ◌⊎◌, ℕ, List, [], ◌∷◌, ◌++◌, Option, Some}
use Rattle.mono_text.specs.Environment.{HasWritten}
use Rattle.mono_script.specs.TopCall.{CarriesOut, view_of}

-- A line of a text.
abbrev pub line : List ℕ → List ℕ
line text = text ++ 10 ∷ []

-- A write failed, or memory ran out; or the call ended with this status, and the sink took this whole text.
abbrev pub Gives : ℕ → List ℕ → Option (List ℕ) → Option (List ℕ) → ℕ → Type 0
Gives status text before after code = (code ≡ 5) ⊎ ((code ≡ 6) ⊎ ((code ≡ status) × HasWritten before after text))

-- The top call carried out these words over this input, whose source never fails, and ended with this number. Before it
-- and after it the sink exposed these bytes and had these counts of faults.
abbrev pub Ended : List (List ℕ) → List ℕ → Option (List ℕ) → Option (List ℕ) → ℕ → ℕ → ℕ → Type 0
Ended words input before after faults later code =
    (readings left : Option (List ℕ)) × ((starts now : ℕ) × CarriesOut words readings (view_of (Some input) 0 before faults starts) (view_of left 0 after later now) code)
