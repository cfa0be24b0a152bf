-- The stages of a retry.
use Rattle.std.specs.Prelude.{ℕ, Bool, true, false}
use Rattle.mono_limit.specs.declared.attempts.Stage.{Stage}
use Rattle.mono_limit.specs.declared.attempts.Stage.TheVariants as stage

abbrev pub is_over : {F : Type 0} → Stage F → Bool
is_over stage.Due = false
is_over (stage.Trying attempt) = false
is_over stage.Resting = false
is_over stage.Over = true

-- The stage's place on the way from one attempt to the next.
abbrev pub place_of : {F : Type 0} → Stage F → ℕ
place_of stage.Due = 0
place_of (stage.Trying attempt) = 2
place_of stage.Resting = 1
place_of stage.Over = 0
