-- Definitions for a stream's answers.
use Rattle.std.specs.Prelude.{◌≡◌, ◌⊎◌, ⊤, ℕ, Bool, true, false, Option, Some, None}
use Rattle.mono_model.specs.declared.poll.Poll.{Poll}
use Rattle.mono_stream.specs.declared.for_each.Stop.{Stop}
use Rattle.mono_stream.specs.declared.for_each.Stop.TheVariants.{Ended, Waits, Many}
use Rattle.mono_model.specs.declared.poll.Poll.TheVariants.{Ready, Pending}

-- The fact holds unless the stream has ended.
abbrev pub UnlessEnded : {X : Type 0} → Poll (Option X) → Type 0 → Type 0
UnlessEnded (Ready (Some x)) P = P
UnlessEnded (Ready None) P = ⊤
UnlessEnded Pending P = P

-- The fact holds unless the handling stopped because the stream has ended.
abbrev pub UnlessStopped : Stop → Type 0 → Type 0
UnlessStopped Ended P = ⊤
UnlessStopped Waits P = P
UnlessStopped Many P = P

-- Whether this answer is the stream's end.
abbrev pub is_last : {X : Type 0} → Poll (Option X) → Bool
is_last (Ready (Some x)) = false
is_last (Ready None) = true
is_last Pending = false

-- A hint that bounds nothing, or one of these.
abbrev pub IsHint : (ℕ × Option ℕ → Type 0) → ℕ × Option ℕ → Type 0
IsHint hints hint = (hint ≡ (0, None)) ⊎ hints hint
