-- The driver's count of faults, piece by piece.
use Rattle.std.proofs.Common.{◌≡◌, ℕ, Bool, true, false, Ok, Err, sym, subst}
use Rattle.std.specs.Prelude.{⊤, Result, is_err}
use Rattle.mono_driver.specs.Drivers.{Faults, HasRisen}
use Rattle.mono_driver.specs.declared.driver.DriverFault.{DriverFault}
use Rattle.mono_rt.specs.SpawnErrors.{OnCapacity}
use Rattle.mono_rt.specs.Faults.{FaultsOn, FaultsParked, RisesIf}
use Rattle.mono_rt.specs.Rounds.{broken_after}
use Rattle.mono_rt.specs.declared.parts.errors.RunError.{RunError}
use Rattle.mono_rt.specs.declared.parts.errors.RunError.TheVariants as error

-- a call of the driver, by whether it failed
pub rises_by : (r : Result ⊤ DriverFault) (b : Bool) (x y : ℕ) → b ≡ is_err r → Faults r x y → RisesIf b x y
rises_by (Ok z) b x y is faults = subst (λ v. RisesIf v x y) (sym is) faults
rises_by (Err e) b x y is faults = subst (λ v. RisesIf v x y) (sym is) faults.1

-- a call that keeps the count precedes it, or follows it
pub rises_after : (b : Bool) (x y z : ℕ) → y ≡ x → RisesIf b y z → RisesIf b x z
rises_after b x y z same rises = subst (λ n. RisesIf b n z) same rises

pub rises_before : (b : Bool) (x y z : ℕ) → RisesIf b x y → z ≡ y → RisesIf b x z
rises_before b x y z rises same = subst (λ n. RisesIf b x n) (sym same) rises

pub faults_after : (e : RunError) (x y z : ℕ) → y ≡ x → FaultsOn e y z → FaultsOn e x z
faults_after e x y z same faults = subst (λ n. FaultsOn e n z) same faults

-- a call that failed, and then a call that keeps the count
pub risen_before : (x y z : ℕ) → HasRisen x y → z ≡ y → HasRisen x z
risen_before x y z risen same = subst (λ n. HasRisen x n) (sym same) risen

-- a wait that ran out of memory after its park
pub broken_faults : (b : Bool) (x y : ℕ) → RisesIf b x y → FaultsParked (broken_after b) x y
broken_faults true x y is = is
broken_faults false x y is = is

-- a main task that was not made
pub capacity_faults : (P : Type 0) (e : RunError) (x y : ℕ) → OnCapacity e P → y ≡ x → FaultsOn e x y
capacity_faults P error.Memory x y is same = same
capacity_faults P error.AtCapacity x y is same = same
capacity_faults P error.Driver x y is same = absurd is
capacity_faults P error.Turns x y is same = absurd is
