-- The deadlines of an interval.
use Rattle.std.specs.Prelude.{ℕ, ◌+◌, ◌-◌, ◌%◌, if◌then◌else◌, nat_le}
use Rattle.mono_time.specs.declared.missed_ticks.MissedTickBehavior.{MissedTickBehavior}
use Rattle.mono_time.specs.declared.missed_ticks.MissedTickBehavior.TheVariants.{Burst, Delay, Skip}

-- The deadline after a missed one: T is the deadline, P the period, n the clock.
abbrev pub after_missed : MissedTickBehavior → ℕ → ℕ → ℕ → ℕ
after_missed Burst deadline period now = deadline + period
after_missed Delay deadline period now = now + period
after_missed Skip deadline period now = now + period - (now - deadline) % period

-- The deadline after this one. A tick is missed if the clock is more than 5 ms past its deadline.
abbrev pub next_deadline : MissedTickBehavior → ℕ → ℕ → ℕ → ℕ
next_deadline behavior deadline period now = if nat_le now (deadline + 5000000) then deadline + period else after_missed behavior deadline period now
