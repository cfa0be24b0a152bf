-- The clock of the retries.
use Rattle.std.specs.Prelude.{ℕ}
use Rattle.mono_time.specs.Timers.{sleeps_of}
use Rattle.mono_limit.specs.declared.retries.Retries.{Retries}

-- The greatest tick of the clock so far.
abbrev pub greatest_of : Retries → ℕ
greatest_of retries = (sleeps_of retries.timers).greatest
