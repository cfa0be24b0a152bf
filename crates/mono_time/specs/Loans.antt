-- The final value of a timeout, if a reference to its future was handed out.
use Rattle.std.specs.Borrow.{Lends, Fml, RattleType, MutBor}
use Rattle.mono_time.specs.contracts.timeouts.Timeout.{the_row}
use Rattle.mono_time.specs.declared.timeouts.Timeout.{Timeout}

-- The timeout ends with the last value of its future under r, and with its delay.
abbrev pub LendsValue : (T : RattleType) → MutBor (Timeout T.Denot) → MutBor T.Denot → Fml
LendsValue T t r = Lends (the_row T) T t r (λ x. record { value = x; delay = t.now.delay })
