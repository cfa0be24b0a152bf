-- The task that waits for a sleep, and the tick for which it waits.
use Rattle.std.proofs.Common.{◌≡◌, Option, Some, None, refl, ap, sym, ◌∙◌}
use Rattle.mono_wheel.specs.Model.{Timed, tick_of}
use Rattle.mono_time.specs.Entries.{kept_in, tick_in, waker_in_state}
use Rattle.mono_time.specs.Timers.{wait_in, with_tick}
use Rattle.mono_time.specs.declared.entry.State.{State}
use Rattle.mono_time.specs.declared.entry.State.TheVariants.{Fresh, Unwatched, Armed, Elapsed}

tick-in : (timed : Option Timed) → tick_in timed ≡ tick_of timed
tick-in None = refl
tick-in (Some timed) = refl

pub wait-kept : (timed : Option Timed) (state : State) → wait_in (kept_in timed state) ≡ with_tick (tick_of timed) (waker_in_state state)
wait-kept timed (Fresh tick) = refl
wait-kept timed Unwatched = refl
wait-kept timed (Armed task) = ap (λ n. with_tick n (Some task)) (tick-in timed)
wait-kept timed Elapsed = refl
