use Rattle.std.proofs.Common.{◌≡◌, ◌≤◌, ◌++◌, ℕ, List}
use Rattle.std.specs.Prelude.{◌+◌, vec_len, vec_capacity}
use Rattle.mono_model.specs.Sleeps.{Sleeps}
use Rattle.mono_model.specs.SleepActs as sleep
use Rattle.mono_model.specs.FireOrder.{FireInTurn}
use Rattle.mono_time.specs.Instants.{nanos_of}
use Rattle.mono_time.specs.Sleeps.{armed_count}
use Rattle.mono_time.specs.Timers.{sleeps_of}
use Rattle.mono_machine.specs.Steps.{all_fired, wakers_of}
use Rattle.mono_time.specs.Refinement.{Keeps}
use Rattle.mono_time.proofs.ClockMoveLemmas.{Passed}
use Rattle.mono_time.proofs.due_sleeps.take_due.Given as goal

-- There is room for this number of further entries.
abbrev pub HasRoom : ℕ → ℕ → ℕ → Type 0
HasRoom more length capacity = more + length ≤ capacity

-- The sleeps that fire in turn from here on fire after those that have fired.
abbrev pub invariant-loop-s : goal.invariant-loop-s
invariant-loop-s g l = HasRoom (armed_count (sleeps_of l.timers)) (vec_len l.due.fired) (vec_capacity l.due.fired) × HasRoom (armed_count (sleeps_of l.timers)) (vec_len l.due.wakers) (vec_capacity l.due.wakers) × ((sleeps : Sleeps) → Keeps l.fn.timers sleeps → (before : Sleeps) × Keeps l.timers before
    × (sleep.at_clock before (nanos_of l.now) ≡ all_fired (sleep.at_clock sleeps (nanos_of l.now)) l.due.fired.items)
    × (l.due.wakers.items ≡ wakers_of (sleep.at_clock sleeps (nanos_of l.now)) l.due.fired.items)
    × ((more : List ℕ) → FireInTurn (all_fired (sleep.at_clock sleeps (nanos_of l.now)) l.due.fired.items).table (all_fired (sleep.at_clock sleeps (nanos_of l.now)) l.due.fired.items).greatest more
    → FireInTurn (sleep.at_clock sleeps (nanos_of l.now)).table (sleep.at_clock sleeps (nanos_of l.now)).greatest (l.due.fired.items ++ more)))
    × Passed l.fn.timers l.timers

abbrev pub decreases-loop-s : goal.decreases-loop-s
decreases-loop-s g l = armed_count (sleeps_of l.timers)
