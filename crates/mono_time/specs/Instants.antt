-- Instants as numbers.
use Rattle.std.specs.Prelude.{ℕ}
use Rattle.mono_time.specs.declared.instant.Instant.{Instant}

-- How many nanoseconds an instant is after the clock's zero.
abbrev pub nanos_of : Instant → ℕ
nanos_of t = t.nanos
