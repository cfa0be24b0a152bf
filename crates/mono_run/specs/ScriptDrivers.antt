-- What a script's driver exposes: the readings and the time of the driver that it contains.
use Rattle.std.specs.Prelude.{ℕ, Bool, false, List, Option, Some, None}
use Rattle.mono_driver.specs.StepDrivers.{has_any}
use Rattle.mono_run.specs.declared.drivers.ScriptDriver.{ScriptDriver}
use Rattle.mono_run.specs.declared.drivers.ScriptDriver.TheVariants as driver

abbrev pub readings_of : {C : Type 0} → (C → Option (List ℕ)) → ScriptDriver C → Option (List ℕ)
readings_of readings (driver.Steps d) = None
readings_of readings (driver.Threads d) = readings d.clock

abbrev pub time_of : {C : Type 0} → ScriptDriver C → Option ℕ
time_of (driver.Steps d) = Some d.time
time_of (driver.Threads d) = None

abbrev pub faults_of : {C : Type 0} → ScriptDriver C → ℕ
faults_of (driver.Steps d) = d.faults
faults_of (driver.Threads d) = 0

abbrev pub parks_of : {C : Type 0} → ScriptDriver C → ℕ
parks_of (driver.Steps d) = d.parks
parks_of (driver.Threads d) = d.parks

abbrev pub submits_of : {C : Type 0} → ScriptDriver C → ℕ
submits_of (driver.Steps d) = d.submits
submits_of (driver.Threads d) = d.submits

abbrev pub can_fail_of : {C : Type 0} → ScriptDriver C → Bool
can_fail_of (driver.Steps d) = has_any d.failing
can_fail_of (driver.Threads d) = false
