-- An arming for the examples: its tick and its arm number.
use Rattle.std.specs.Prelude.{ℕ, false, None}
use Rattle.mono_model.specs.Sleeps.{Arming}

abbrev pub arming : ℕ → ℕ → Arming
arming tick arm = record { tick = tick; arm = arm; is_moved = false; waker = None }
