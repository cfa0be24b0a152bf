-- The sleep of a retry that was made or refused.
use Rattle.std.specs.Prelude.{Result, Ok, Err}
use Rattle.mono_model.specs.declared.error.SleepError.{SleepError}
use Rattle.mono_time.specs.declared.sleeps.Sleep.{Sleep}
use Rattle.mono_limit.specs.declared.attempts.Retry.{Retry}
use Rattle.mono_limit.specs.declared.attempts.RetryRefused.{RetryRefused}

-- The sleep that was made, or why there is none.
abbrev pub sleep_in : {G F : Type 0} → Result (Retry G F) (RetryRefused G) → Result Sleep SleepError
sleep_in (Ok retry) = Ok retry.sleep
sleep_in (Err refused) = Err refused.cause
