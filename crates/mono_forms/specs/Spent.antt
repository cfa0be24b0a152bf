-- Whether a future with a limited time has answered. Such a future may not be polled.
use Rattle.std.specs.Prelude.{Bool}
use Rattle.mono_time.specs.NapTimeouts.{limit_spent}
use Rattle.mono_time.specs.declared.nap_timeouts.TimeoutFor.{TimeoutFor}

abbrev pub timeout_for_spent : {T : Type 0} → (T → Bool) → TimeoutFor T → Bool
timeout_for_spent is_spent f = limit_spent is_spent f.both
