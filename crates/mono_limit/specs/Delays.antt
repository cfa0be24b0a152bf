-- The delay from one attempt to the next.
use Rattle.std.specs.Prelude.{ℕ, ◌-◌, ◌*◌, ◌^◌, min}

-- The number of ticks after failure k, counted from 1: it doubles each time, up to the cap.
abbrev pub delay : ℕ → ℕ → ℕ → ℕ
delay base cap k = min cap (base * 2 ^ (k - 1))
