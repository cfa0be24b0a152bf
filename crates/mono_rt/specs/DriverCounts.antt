-- How the entries of a history change the driver's counts of parks and submits.
use Rattle.std.specs.Prelude.{◌≡◌, ℕ, ◌+◌, ◌-◌, ◌^◌, min, Bool, List, ◌++◌}
use Rattle.mono_driver.specs.Drivers.{one_more}
use Rattle.mono_rt.specs.Budgets.{parks_in}
use Rattle.mono_rt.specs.DriverReadings.{Told, IsHandedIn}
use Rattle.mono_rt.specs.declared.parts.journals.Entry.{Entry}
use Rattle.mono_rt.specs.declared.parts.journals.Journal.{Journal}

-- The count of parks rose by the parks in the entries by which the history grew, at most to 2^64 - 1.
pub record ParksCounted (old new : Told) (j k : Journal) : Type 0 where
  pub part : List Entry
  pub grew : k.history.entries ≡ j.history.entries ++ part
  pub parks : new.parks ≡ min (old.parks + parks_in part) (2 ^ 64 - 1)

-- One submit was made, which failed or not, and no park.
pub record HandsInOnce (old new : Told) : Type 0 where
  pub has_failed : Bool
  pub handed : IsHandedIn has_failed old new

-- One park was made, and no submit.
pub record ParksOnce (old new : Told) : Type 0 where
  pub parks : new.parks ≡ one_more old.parks
  pub submits : new.submits ≡ old.submits
