-- How often the keys of a wheel will still be taken from a slot.
use Rattle.std.specs.Prelude.{◌≡◌, ℕ, ◌+◌, ◌-◌, ◌/◌, ◌==◌, if◌then◌else◌, List, [], ◌∷◌, Option, Some, None}
use Rattle.mono_wheel.specs.Start.{takes_from, level_count, top_level, reach}
use Rattle.mono_wheel.specs.Model.{Timed, Wheel, timed_at}

-- At most how often a key is taken from a slot, if it is registered this far ahead.
abbrev pub most_takes : ℕ → ℕ
most_takes distance = level_count + distance / reach

-- How often the key will still be taken from a slot.
abbrev pub takes : ℕ → Option Timed → ℕ
takes elapsed None = 0
takes elapsed (Some timed) = if timed.tick == elapsed then 0 else takes_from (timed.tick - elapsed) top_level elapsed timed.registered timed.tick

abbrev pub credit_of : ℕ → List (Option Timed) → ℕ
credit_of elapsed [] = 0
credit_of elapsed (entry ∷ rest) = takes elapsed entry + credit_of elapsed rest

-- How often the keys of a wheel will still be taken from a slot.
abbrev pub credit : Wheel → ℕ
credit wheel = credit_of wheel.elapsed wheel.entries

-- By how much a reset of a key with these ticks may raise the credit: not at all if the tick is equal.
abbrev pub reset_raise : ℕ → Option Timed → ℕ → ℕ
reset_raise elapsed None tick = 0
reset_raise elapsed (Some timed) tick = if timed.tick == tick then 0 else most_takes (tick - elapsed)

-- The credit changed by that of this key alone.
abbrev pub CreditFollows : Wheel → Wheel → ℕ → Type 0
CreditFollows old new key = credit new + takes old.elapsed (timed_at old key) ≡ credit old + takes old.elapsed (timed_at new key)
