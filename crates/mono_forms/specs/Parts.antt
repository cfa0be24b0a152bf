-- A part of a form: a future with the closure for its answer, until it has answered.
use Rattle.std.specs.Prelude.{◌≡◌, Bool, true, false, Option, Some, None}
use Rattle.mono_task.specs.Members.{FutureOf}

-- Whether it may be polled.
abbrev pub MayPoll : {A C X : Type 0} → FutureOf A C X → A → Type 0
MayPoll future a = (future.is_spent a ≡ false) × future.can_poll a

module _ {A F : Type 0} where
  abbrev pub part_spent : (A → Bool) → Option (A × F) → Bool
  part_spent is_spent (Some p) = is_spent p.0
  part_spent is_spent None = true

  -- The future is given up, unless it has answered.
  abbrev pub PartCancels : {C : Type 0} → (A → C → C → Type 0) → Option (A × F) → C → C → Type 0
  PartCancels cancels (Some p) c d = cancels p.0 c d
  PartCancels cancels None c d = d ≡ c
