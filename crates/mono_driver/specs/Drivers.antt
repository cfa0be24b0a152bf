-- The values that clocks and drivers expose, and the effect of their calls on them.
use Rattle.std.specs.Prelude.{◌≡◌, ◌<◌, ◌≤◌, ◌⊎◌, ℕ, ◌+◌, ◌-◌, ◌^◌, min, ⊤, Bool, true, false, List, [], ◌∷◌, Option, Some, None, Result, Ok, Err, IsOk}
use Rattle.mono_model.specs.Ticks.{max_nanos}
use Rattle.mono_driver.specs.declared.driver.DriverFault.{DriverFault}

-- A clock that exposes its readings to come returns the first, which is then removed unless it is the last. There is
-- always one.
abbrev pub Reads : Option (List ℕ) → ℕ → Option (List ℕ) → Type 0
Reads None n new = new ≡ None
Reads (Some []) n new = ⊥
Reads (Some (x ∷ [])) n new = (n ≡ x) × (new ≡ Some (x ∷ []))
Reads (Some (x ∷ y ∷ rest)) n new = (n ≡ x) × (new ≡ Some (y ∷ rest))

-- A clock that exposes its time reads it.
abbrev pub ReadsTime : Option ℕ → ℕ → Type 0
ReadsTime None n = ⊤
ReadsTime (Some t) n = n ≡ t

-- Whether a count is higher than before; a count that cannot rise counts as risen.
abbrev pub HasRisen : ℕ → ℕ → Type 0
HasRisen before now = (before < now) ⊎ (2 ^ 64 - 1 ≤ before)

-- A call fails if and only if the count of faults rises in it.
abbrev pub Faults : Result ⊤ DriverFault → ℕ → ℕ → Type 0
Faults (Ok x) before now = now ≡ before
Faults (Err e) before now = (before ≤ now) × HasRisen before now

-- A driver that cannot fail answers Ok; its count of faults stays, and so does the fact that it cannot fail.
abbrev pub IsSure : Bool → Result ⊤ DriverFault → ℕ → ℕ → Bool → Type 0
IsSure true result before now tells = ⊤
IsSure false result before now tells = IsOk result × (now ≡ before) × (tells ≡ false)

-- The count after one more park, at most 2 ^ 64 - 1.
abbrev pub one_more : ℕ → ℕ
one_more n = min (n + 1) (2 ^ 64 - 1)

-- The time after a park of `d` nanoseconds, which may have failed.
abbrev pub moved : Option ℕ → ℕ → Result ⊤ DriverFault → Option ℕ
moved None d r = None
moved (Some t) d (Ok x) = Some (min (t + d) max_nanos)
moved (Some t) d (Err e) = Some t
