-- The answer of one step of a trace, and the machine that the trace views then.
use Rattle.std.specs.Prelude.{◌≡◌, ◌↔◌, ℕ, ◌+◌, Bool, true, false, not, ◌==◌, ◌&&◌, ◌||◌, if◌then◌else◌, List, [], ◌∷◌, Option, Some, None, Result, Ok, Err, nat_lt, nat_le}
use Rattle.mono_model.specs.Table.{Table, value_at}
use Rattle.mono_model.specs.Sleeps.{Sleep, Arming, fresh, armed, elapsed, MayFire}
use Rattle.mono_machine.specs.Machine.{Machine}
use Rattle.mono_machine.specs.Steps.{Step}
use Rattle.mono_machine.specs.declared.events.Event.{Event}
use Rattle.mono_machine.specs.declared.events.Report.{Report}
use Rattle.mono_trace.specs.Verdicts.{IsNoStep}

-- A trace is a view of one machine, with its arm numbers: `stands_for` is a function of the trace. At yes the view
-- becomes the machine after the step, and at no it stays. An out-of-memory error promises nothing.
module _ {T A : Type 0} (stands_for : T → Machine) where
  abbrev pub Checks : T → Event → Report → Result Bool A → T → Type 0
  Checks old event answer (Ok true) new = Step (stands_for old) event answer (stands_for new)
  Checks old event answer (Ok false) new = IsNoStep (stands_for old) event answer × (stands_for new ≡ stands_for old)
  Checks old event answer (Err error) new = Unit {0}

-- The test of a list of sleeps. Along the list the test keeps the tick of the last sleep, and the least arm number that
-- may follow at this tick if the arming was not moved.
abbrev pub may_follow : ℕ → ℕ → Arming → Bool
may_follow tick arms a = nat_lt tick a.tick || ((a.tick == tick) && (a.is_moved || nat_le arms a.arm))

abbrev pub arms_after : ℕ → ℕ → Arming → ℕ
arms_after tick arms a = if a.is_moved then (if a.tick == tick then arms else 0) else a.arm + 1

abbrev pub may_follow_value : ℕ → ℕ → ℕ → Option Sleep → Bool
may_follow_value g tick arms None = false
may_follow_value g tick arms (Some (fresh nanos)) = false
may_follow_value g tick arms (Some (armed a)) = nat_le a.tick g && may_follow tick arms a
may_follow_value g tick arms (Some elapsed) = false

abbrev pub tick_after_value : ℕ → Option Sleep → ℕ
tick_after_value tick None = tick
tick_after_value tick (Some (fresh nanos)) = tick
tick_after_value tick (Some (armed a)) = a.tick
tick_after_value tick (Some elapsed) = tick

abbrev pub arms_after_value : ℕ → ℕ → Option Sleep → ℕ
arms_after_value tick arms None = arms
arms_after_value tick arms (Some (fresh nanos)) = arms
arms_after_value tick arms (Some (armed a)) = arms_after tick arms a
arms_after_value tick arms (Some elapsed) = arms

abbrev pub are_in_order : Table Sleep → ℕ → ℕ → ℕ → List ℕ → Bool
are_in_order table g tick arms [] = true
are_in_order table g tick arms (s ∷ fired) =
    may_follow_value g tick arms (value_at table s) && are_in_order table g (tick_after_value tick (value_at table s)) (arms_after_value tick arms (value_at table s)) fired

abbrev pub is_listed : List ℕ → ℕ → Bool
is_listed [] s = false
is_listed (x ∷ xs) s = (x == s) || is_listed xs s

abbrev pub are_once : List ℕ → Bool
are_once [] = true
are_once (x ∷ xs) = not (is_listed xs x) && are_once xs

abbrev pub is_due : ℕ → Option Sleep → Bool
is_due g None = false
is_due g (Some (fresh nanos)) = false
is_due g (Some (armed a)) = nat_le a.tick g
is_due g (Some elapsed) = false

-- Whether the list has each due sleep of a table whose first place has the number i.
abbrev pub are_all_listed : ℕ → List ℕ → ℕ → Table Sleep → Bool
are_all_listed g fired i [] = true
are_all_listed g fired i (x ∷ xs) = (not (is_due g x) || is_listed fired i) && are_all_listed g fired (i + 1) xs

abbrev pub is_allowed : Table Sleep → ℕ → List ℕ → Bool
is_allowed table g fired = are_once fired && (are_in_order table g 0 0 fired && are_all_listed g fired 0 table)

-- A list passes the test if and only if a clock step may list it.
abbrev pub AllowsExactly : Type 0
AllowsExactly = (table : Table Sleep) (g : ℕ) (fired : List ℕ) → (is_allowed table g fired ≡ true) ↔ MayFire table g fired
