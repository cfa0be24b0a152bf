-- The view of a trace's parts, and the result of trying an event with a report on them.
use Rattle.std.specs.Prelude.{◌≡◌, ◌&&◌, ◌+◌, ℕ, Bool, true, false, List, [], ◌∷◌, Option, Some, None}
use Rattle.mono_model.specs.Table.{Table, value_at, with_value}
use Rattle.mono_model.specs.Tasks.{Tasks}
use Rattle.mono_model.specs.Jobs.{Jobs}
use Rattle.mono_model.specs.Sleeps.{Sleeps, Sleep, elapsed}
use Rattle.mono_machine.specs.Machine.{Machine}
use Rattle.mono_machine.specs.Steps.{Step}
use Rattle.mono_machine.specs.declared.events.Blocking.{Blocking}
use Rattle.mono_machine.specs.declared.events.Event.{Event}
use Rattle.mono_machine.specs.declared.events.Report.{Report}
use Rattle.mono_trace.specs.Versions.{Versions}
use Rattle.mono_trace.specs.Verdicts.{IsNoStep}
use Rattle.mono_trace.specs.Traces.{may_follow_value, tick_after_value, arms_after_value}

abbrev pub machine_in : Tasks ℕ → Jobs → Sleeps → List ℕ → Blocking → Machine
machine_in tasks jobs sleeps inbox strategy = record { tasks = tasks; jobs = jobs; sleeps = sleeps; inbox = inbox; strategy = strategy }

-- The answer is the expected one and the machine has made its step, or it is another. In that case the changes can be
-- taken back.
abbrev pub Told : Report → Report → Machine → Versions Machine → Versions Machine → Bool → Type 0
Told answer expected after old new true = (answer ≡ expected) × (new.now ≡ after)
Told answer expected after old new false = (answer ≡ expected → ⊥) × (new.before ≡ old.before)

-- The same for any event: the machine may take it with this answer and has, or it may not.
abbrev pub Tried : Event → Report → Versions Machine → Versions Machine → Bool → Type 0
Tried event answer old new true = Step old.now event answer new.now
Tried event answer old new false = IsNoStep old.now event answer × (new.before ≡ old.before)

-- Each in turn may follow, and then has fired.
abbrev pub are_in_turn : Table Sleep → ℕ → ℕ → ℕ → List ℕ → Bool
are_in_turn table g tick arms [] = true
are_in_turn table g tick arms (s ∷ fired) =
    may_follow_value g tick arms (value_at table s) && are_in_turn (with_value table s elapsed) g (tick_after_value tick (value_at table s)) (arms_after_value tick arms (value_at table s)) fired

-- The least arm number that may follow.
abbrev pub least_after : Option ℕ → ℕ
least_after None = 0
least_after (Some arm) = arm + 1
