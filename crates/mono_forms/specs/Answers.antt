-- A ready answer.
use Rattle.std.specs.Prelude.{◌≡◌, Option, Some, None}
use Rattle.mono_model.specs.declared.poll.Poll.{Poll}
use Rattle.mono_model.specs.declared.poll.Poll.TheVariants.{Ready}

-- The poll returns the value, which is removed.
abbrev pub ReadyPolls : {T C : Type 0} → Option T → C → Poll T → Option T → C → Type 0
ReadyPolls (Some x) c r left d = (r ≡ Ready x) × (left ≡ None) × (d ≡ c)
ReadyPolls None c r left d = ⊥
