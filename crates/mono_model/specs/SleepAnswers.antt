-- The answer of a call on a sleep, and the waker that a reset hands out.
use Rattle.std.specs.Prelude.{ℕ, ⊤, Bool, if◌then◌else◌, Option, None, Result, Ok, Err}
use Rattle.mono_model.specs.declared.poll.Poll.{Poll}
use Rattle.mono_model.specs.declared.poll.Poll.TheVariants.{Ready, Pending}
use Rattle.mono_model.specs.declared.error.Error.{Error}

abbrev pub poll_of : Bool → Poll ⊤
poll_of is_ready = if is_ready then Ready tt else Pending

-- An answer without the waker that it hands out, and that waker alone.
abbrev pub without_waker : Result (Option ℕ) Error → Result ⊤ Error
without_waker (Ok waker) = Ok tt
without_waker (Err error) = Err error

abbrev pub waker_in : Result (Option ℕ) Error → Option ℕ
waker_in (Ok waker) = waker
waker_in (Err error) = None
