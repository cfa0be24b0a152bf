-- How a call changes the driver's count of faults, by its answer.
use Rattle.std.specs.Prelude.{◌≡◌, ℕ, Bool, true, false, Result, Ok, Err}
use Rattle.mono_driver.specs.Drivers.{HasRisen}
use Rattle.mono_rt.specs.declared.parts.errors.RunError.{RunError}
use Rattle.mono_rt.specs.declared.parts.errors.RunError.TheVariants as error

-- The answer is Driver if and only if the count rose.
abbrev pub FaultsOn : RunError → ℕ → ℕ → Type 0
FaultsOn error.Driver before now = HasRisen before now
FaultsOn error.Turns before now = now ≡ before
FaultsOn error.AtCapacity before now = now ≡ before
FaultsOn error.Memory before now = now ≡ before

abbrev pub FaultsBy : {A : Type 0} → Result A RunError → ℕ → ℕ → Type 0
FaultsBy (Ok x) before now = now ≡ before
FaultsBy (Err e) before now = FaultsOn e before now

-- a call of the driver, by whether it failed
abbrev pub RisesIf : Bool → ℕ → ℕ → Type 0
RisesIf true before now = HasRisen before now
RisesIf false before now = now ≡ before

abbrev pub FaultsParked : Result Bool RunError → ℕ → ℕ → Type 0
FaultsParked (Ok has_failed) before now = RisesIf has_failed before now
FaultsParked (Err e) before now = now ≡ before
