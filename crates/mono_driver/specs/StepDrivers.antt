-- A driver that never waits, as numbers, and its state after each of its calls.
use Rattle.std.specs.Prelude.{ℕ, ◌+◌, ◌-◌, ◌^◌, ◌==◌, min, Bool, true, false, if◌then◌else◌, List, [], ◌∷◌, ⊤, Result, Ok, Err}
use Rattle.std.specs.List.{list_any}
use Rattle.mono_model.specs.Ticks.{max_nanos}
use Rattle.mono_driver.specs.Drivers.{one_more}
use Rattle.mono_driver.specs.declared.driver.DriverFault.{DriverFault}

-- The state of a step driver: its time in nanoseconds, its calls of `submit`, `park` and `park_timeout`, and its
-- faults. The further fields are its parks, its submits, and the calls that fail, counted from 0.
pub record Stepped : Type 0 where
  pub time : ℕ
  pub calls : ℕ
  pub faults : ℕ
  pub parks : ℕ
  pub submits : ℕ
  pub failing : List ℕ

abbrev pub start_with : List ℕ → Stepped
start_with failing = record { time = 0; calls = 0; faults = 0; parks = 0; submits = 0; failing = failing }

-- Whether any call is listed.
abbrev pub has_any : List ℕ → Bool
has_any [] = false
has_any (k ∷ ks) = true

-- Whether a call is listed.
abbrev pub is_listed : List ℕ → ℕ → Bool
is_listed failing call = list_any (λ k. k == call) failing

-- Whether the next call fails: it is listed.
abbrev pub next_fails : Stepped → Bool
next_fails d = is_listed d.failing d.calls

-- The driver after one more call, which failed or not; its counts have upper limits.
abbrev pub counted : Bool → Stepped → Stepped
counted fails d = record d { calls = min (d.calls + 1) (2 ^ 128 - 1); faults = if fails then one_more d.faults else d.faults }

abbrev pub called : Stepped → Stepped
called d = counted (next_fails d) d

-- after a submit
abbrev pub handed_in : Stepped → Stepped
handed_in d = record (called d) { submits = one_more d.submits }

abbrev pub parked : Stepped → Stepped
parked d = record (called d) { parks = one_more d.parks }

-- The driver after a park of `nanos` nanoseconds, which moves the time unless it failed.
abbrev pub slept : Stepped → ℕ → Stepped
slept d nanos = record (parked d) { time = if next_fails d then d.time else min (d.time + nanos) max_nanos }

-- Whether a call answers a fault if and only if the flag is true.
abbrev pub FailsIf : Bool → Result ⊤ DriverFault → Type 0
FailsIf true (Ok x) = ⊥
FailsIf true (Err e) = ⊤
FailsIf false (Ok x) = ⊤
FailsIf false (Err e) = ⊥

-- a listed call answers a fault, and this holds too; any other answers what the driver does
abbrev pub FailsAt : Bool → Result ⊤ DriverFault → Type 0 → Type 0
FailsAt true (Ok x) Same = ⊥
FailsAt true (Err e) Same = Same
FailsAt false r Same = ⊤
