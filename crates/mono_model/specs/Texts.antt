-- The names of the errors, and the bytes that are printed for each.
use Rattle.std.specs.Prelude.{ℕ, Bool, true, false, List, codes}
use Rattle.mono_model.specs.declared.error.Error.{Error}
use Rattle.mono_model.specs.declared.error.Error.TheVariants.{Shutdown, AtCapacity, Invalid}

abbrev pub text_of : Error → List ℕ
text_of Shutdown = codes "the timer is shutdown, must be called from the context of Monoio runtime"
text_of AtCapacity = codes "timer is at capacity and cannot create a new entry"
text_of Invalid = codes "timer duration exceeds maximum duration"

abbrev pub is_shutdown_error : Error → Bool
is_shutdown_error Shutdown = true
is_shutdown_error AtCapacity = false
is_shutdown_error Invalid = false

abbrev pub is_at_capacity_error : Error → Bool
is_at_capacity_error Shutdown = false
is_at_capacity_error AtCapacity = true
is_at_capacity_error Invalid = false

abbrev pub is_invalid_error : Error → Bool
is_invalid_error Shutdown = false
is_invalid_error AtCapacity = false
is_invalid_error Invalid = true
