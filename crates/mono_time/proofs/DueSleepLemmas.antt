-- The clock in a step at which sleeps fire, and that the timers stay.
use Rattle.std.proofs.Common.{◌≡◌, ℕ, max, ap, ◌∙◌, arith}
use Rattle.mono_model.specs.Ticks.{down}
use Rattle.mono_model.specs.Sleeps.{Sleeps, with_greatest}
use Rattle.mono_model.specs.SleepActs as sleep
use Rattle.mono_time.specs.Sleeps as table
use Rattle.mono_time.specs.Refinement.{StandsForSleeps, Keeps}
use Rattle.mono_time.specs.Timers.{sleeps_of}
use Rattle.mono_time.specs.declared.timers.Timers.{Timers}

max_again : (g d : ℕ) → max (max g d) d ≡ max g d
max_again g d = omega arith

-- a clock that shows the same again
pub same_clock : (sleeps : Sleeps) (n s : ℕ) → sleep.at_clock (sleep.fired (sleep.at_clock sleeps n) s) n ≡ sleep.fired (sleep.at_clock sleeps n) s
same_clock sleeps n s = ap (with_greatest (sleep.fired (sleep.at_clock sleeps n) s)) (max_again sleeps.greatest (down n))

-- the timers are there in a clock step as before
pub keeps_none : (old new : Timers) (sleeps : Sleeps) (n : ℕ) → Keeps old sleeps → sleeps_of new ≡ table.at_clock_tick (sleeps_of old) n → StandsForSleeps new (sleep.at_clock sleeps n) → Keeps new (sleep.at_clock sleeps n)
keeps_none old new sleeps n st is stands = record { stands = stands; is_enabled = ap (λ x. x.is_enabled) is ∙ st.is_enabled }

pub keeps_some : (old new : Timers) (sleeps : Sleeps) (n s : ℕ) → Keeps old sleeps → sleeps_of new ≡ table.with_fired_sleep (table.at_clock_tick (sleeps_of old) n) s → StandsForSleeps new (sleep.fired (sleep.at_clock sleeps n) s) → Keeps new (sleep.fired (sleep.at_clock sleeps n) s)
keeps_some old new sleeps n s st is stands = record { stands = stands; is_enabled = ap (λ x. x.is_enabled) is ∙ st.is_enabled }
