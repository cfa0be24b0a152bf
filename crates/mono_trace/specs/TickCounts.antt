-- The number of a table's armed sleeps at each tick, in an ordered map that follows the table's changes.
use Rattle.std.specs.Prelude.{◌≡◌, ◌<◌, ◌≤◌, ◌+◌, ◌==◌, ℕ, zero, suc, List, Option, Some, None, sum_by}
use Rattle.std.specs.Ordering.{nat_cmp}
use Rattle.std.specs.BTreeMap.{BTreeMap, get}
use Rattle.mono_model.specs.Valid.{once_if}
use Rattle.mono_trace.specs.declared.sleeps.Sleep.{Sleep}
use Rattle.mono_trace.specs.declared.sleeps.Sleep.TheVariants as sleep
use Rattle.mono_trace.specs.declared.ticks.Ticks.{Ticks}

-- The tick of an armed sleep.
abbrev pub armed_tick : Option Sleep → Option ℕ
armed_tick None = None
armed_tick (Some (sleep.Fresh nanos)) = None
armed_tick (Some (sleep.Armed a)) = Some a.tick
armed_tick (Some sleep.Elapsed) = None

-- 1 at this tick, if it is any, and 0 at all others.
abbrev pub once_at : Option ℕ → ℕ → ℕ
once_at None t = 0
once_at (Some tick) t = once_if (tick == t)

-- The number of the table's sleeps that are armed at a tick.
abbrev pub armed_count : List (Option Sleep) → ℕ → ℕ
armed_count places t = sum_by (λ v. once_at (armed_tick v) t) places

-- ---- how many there are at each tick, as a function

abbrev pub none_at : ℕ → ℕ
none_at t = 0

abbrev pub AreAlike : (ℕ → ℕ) → (ℕ → ℕ) → Type 0
AreAlike f g = (t : ℕ) → f t ≡ g t

-- One more at this tick.
abbrev pub one_more : (ℕ → ℕ) → ℕ → ℕ → ℕ
one_more f tick t = f t + once_if (tick == t)

-- One more at this tick, if it is any.
abbrev pub more_at : (ℕ → ℕ) → Option ℕ → ℕ → ℕ
more_at f tick t = f t + once_at tick t

-- One more at each tick of a list, for each of its occurrences.
abbrev pub all_more : (ℕ → ℕ) → List ℕ → ℕ → ℕ
all_more f ticks t = f t + sum_by (λ tick. once_if (tick == t)) ticks

abbrev pub AreNoneUpTo : ℕ → (ℕ → ℕ) → Type 0
AreNoneUpTo greatest f = (t : ℕ) → t ≤ greatest → f t ≡ 0

abbrev pub IsOneUpTo : ℕ → (ℕ → ℕ) → Type 0
IsOneUpTo greatest f = (t : ℕ) × (t ≤ greatest) × (0 < f t)

-- ---- the map

abbrev pub some_if_any : ℕ → Option ℕ
some_if_any zero = None
some_if_any (suc n) = Some (suc n)

-- The map has the number at each tick, and no entry if that is zero.
abbrev pub AreCounts : (ℕ → ℕ) → BTreeMap ℕ ℕ → Type 0
AreCounts f counts = (t : ℕ) → get nat_cmp counts t ≡ some_if_any (f t)

-- The map would have the numbers with one more at each tick of the list.
abbrev pub AreCountsBut : (ℕ → ℕ) → List ℕ → BTreeMap ℕ ℕ → Type 0
AreCountsBut f left counts = (g : ℕ → ℕ) × AreCounts g counts × AreAlike f (all_more g left)

-- The map has the present numbers. The ticks that were left and taken since give the numbers before.
abbrev pub AreTicks : (ℕ → ℕ) → (ℕ → ℕ) → Ticks → Type 0
AreTicks now before ticks = AreCounts now ticks.counts × AreAlike (all_more before ticks.taken.items) (all_more now ticks.left.items)
