-- How a driver relates to the entries of a journal: each reading of the clock is the driver's.
use Rattle.std.specs.Prelude.{⊤, ◌≡◌, ◌⊎◌, ℕ, ◌+◌, ◌*◌, min, Bool, true, false, List, [], ◌∷◌, ◌++◌, Option, Some, None, Result, Ok, Err}
use Rattle.mono_model.specs.Ticks.{max_nanos}
use Rattle.mono_driver.specs.Drivers.{Reads, ReadsTime, one_more}
use Rattle.mono_rt.specs.Faults.{RisesIf}
use Rattle.mono_machine.specs.declared.events.Event.{Event}
use Rattle.mono_machine.specs.declared.events.Event.TheVariants as event
use Rattle.mono_rt.specs.declared.parts.errors.RunError.{RunError}
use Rattle.mono_rt.specs.declared.parts.errors.RunError.TheVariants as error
use Rattle.mono_rt.specs.declared.parts.journals.Entry.{Entry}
use Rattle.mono_rt.specs.declared.parts.journals.Entry.TheVariants.{Ran, Now, Park}
use Rattle.mono_rt.specs.declared.parts.journals.Journal.{Journal}

-- What a driver exposes: its readings to come, in nanoseconds, its time, and its counts of parks, submits and faults. The
-- first two are optional. The last field is whether a call may fail.
pub record Told : Type 0 where
  pub readings : Option (List ℕ)
  pub time : Option ℕ
  pub parks : ℕ
  pub submits : ℕ
  pub faults : ℕ
  pub can_fail : Bool

abbrev pub telling : Option (List ℕ) → Option ℕ → ℕ → ℕ → ℕ → Bool → Told
telling readings time parks submits faults can_fail = record { readings = readings; time = time; parks = parks; submits = submits; faults = faults; can_fail = can_fail }

-- The state of the calls to the driver. None failed; or it was parked, and the inbox is to be drained; or its last call
-- failed, after which it is neither parked nor read for a turn.
pub data Course : Type 0 where
  going : Course
  parked : Course
  failed : Course

-- The clock is read: the first of the readings that the driver exposes, which is then removed unless it is the last,
-- and the time that it exposes.
pub record IsRead (n : ℕ) (old new : Told) : Type 0 where
  pub reads : Reads old.readings n new.readings
  pub reads_time : ReadsTime old.time n
  pub time : new.time ≡ old.time
  pub parks : new.parks ≡ old.parks
  pub submits : new.submits ≡ old.submits
  pub faults : new.faults ≡ old.faults
  pub can_fail : new.can_fail ≡ old.can_fail

-- a call of a driver that cannot fail does not fail, and the driver still cannot
abbrev pub IsSureIf : Bool → Bool → Bool → Type 0
IsSureIf true has_failed tells = ⊤
IsSureIf false has_failed tells = (has_failed ≡ false) × (tells ≡ false)

-- the time after a park for at most this number of milliseconds; a failed park leaves it, and so does a park without an
-- end
abbrev pub parked_time : Bool → Option ℕ → Option ℕ → Option ℕ
parked_time has_failed wait None = None
parked_time true wait (Some t) = Some t
parked_time false None (Some t) = Some t
parked_time false (Some v) (Some t) = Some (min (t + v * 1000000) max_nanos)

-- the driver is parked once, and that fails or not
pub record IsParked (wait : Option ℕ) (has_failed : Bool) (old new : Told) : Type 0 where
  pub readings : new.readings ≡ old.readings
  pub time : new.time ≡ parked_time has_failed wait old.time
  pub parks : new.parks ≡ one_more old.parks
  pub submits : new.submits ≡ old.submits
  pub faults : RisesIf has_failed old.faults new.faults
  pub sure : IsSureIf old.can_fail has_failed new.can_fail

-- one submit, which fails or not
pub record IsHandedIn (has_failed : Bool) (old new : Told) : Type 0 where
  pub readings : new.readings ≡ old.readings
  pub time : new.time ≡ old.time
  pub parks : new.parks ≡ old.parks
  pub submits : new.submits ≡ one_more old.submits
  pub faults : RisesIf has_failed old.faults new.faults
  pub sure : IsSureIf old.can_fail has_failed new.can_fail

abbrev pub after_park : Bool → Course
after_park true = failed
after_park false = parked

-- the course after a submit, and after a wait
abbrev pub after_call : Bool → Course
after_call true = failed
after_call false = going

-- A drain that follows no park has one submit before it. A drain after a park is no call of the driver.
abbrev pub IsDrained : Course → Told → Course → Told → Type 0
IsDrained going old next new = (has_failed : Bool) × (IsHandedIn has_failed old new × (next ≡ after_call has_failed))
IsDrained parked old next new = (new ≡ old) × (next ≡ going)
IsDrained failed old next new = (new ≡ old) × (next ≡ failed)

-- the effect of an event on the driver: a clock step reads it
abbrev pub IsMet : Event → Told → Course → Told → Course → Type 0
IsMet (event.Act act) old before new after = (new ≡ old) × (after ≡ before)
IsMet (event.Turn steps end) old before new after = (new ≡ old) × (after ≡ before)
IsMet (event.Clock n) old before new after = IsRead n old new × (after ≡ before)
IsMet (event.Remote t) old before new after = (new ≡ old) × (after ≡ before)
IsMet event.Drain old before new after = IsDrained before old after new

-- These entries lead from the driver's readings, time and course to those after them.
abbrev pub Tells : Told → Course → List Entry → Told → Course → Type 0
Tells old before [] new after = (new ≡ old) × (after ≡ before)
Tells old before (Ran e r ∷ part) new after = (mid : Told) × ((next : Course) × (IsMet e old before mid next × Tells mid next part new after))
Tells old before (Now n ∷ part) new after = (before ≡ going) × ((mid : Told) × (IsRead n old mid × Tells mid going part new after))
Tells old before (Park wait ∷ part) new after = (before ≡ going) × ((mid : Told) × ((has_failed : Bool) × (IsParked wait has_failed old mid × Tells mid (after_park has_failed) part new after)))

-- By the error, the course and the driver after the last entry, and the driver now. The last call of the driver failed if
-- and only if the error is Driver. If memory ran out, there may be one submit more, whose drain did not come.
abbrev pub EndsBy : RunError → Course → Told → Told → Type 0
EndsBy error.Turns course last new = (course ≡ going) × (new ≡ last)
EndsBy error.AtCapacity course last new = (course ≡ going) × (new ≡ last)
EndsBy error.Driver course last new = ((course ≡ failed) × (new ≡ last)) ⊎ ((course ≡ going) × IsHandedIn true last new)
EndsBy error.Memory course last new = ((course ≡ failed → ⊥) × (new ≡ last)) ⊎ ((course ≡ going) × IsHandedIn false last new)

-- If the answer is good, no call of the driver failed.
abbrev pub EndsSo : {A : Type 0} → Result A RunError → Course → Told → Told → Type 0
EndsSo (Ok x) course last new = (course ≡ going) × (new ≡ last)
EndsSo (Err e) course last new = EndsBy e course last new

-- the course stays
abbrev pub Still : Course → Course → Type 0
Still before after = after ≡ before

-- the course after a park, by whether it failed; if memory ran out, the driver was not parked
abbrev pub EndsParked : Result Bool RunError → Course → Type 0
EndsParked (Ok has_failed) course = course ≡ after_park has_failed
EndsParked (Err e) course = course ≡ going

-- the course after a park, a drain and, with timers, a clock step, by whether the park failed; if memory ran out, it did
-- not
abbrev pub EndsWaited : Result Bool RunError → Course → Type 0
EndsWaited (Ok has_failed) course = course ≡ after_call has_failed
EndsWaited (Err e) course = course ≡ failed → ⊥

-- the course after a drain; if memory ran out, nothing was drained
abbrev pub EndsDrained : {A : Type 0} → Result A RunError → Course → Told → Course → Told → Type 0
EndsDrained (Ok x) before old after new = IsDrained before old after new
EndsDrained (Err e) before old after new = (new ≡ old) × (after ≡ before)

-- The readings and parks by which the history grew are the driver's, and its course is then this.
pub record Telling (Ends : Course → Type 0) (old : Told) (before : Course) (j k : Journal) (new : Told) : Type 0 where
  pub tells : (part : List Entry) × ((after : Course) × ((k.history.entries ≡ j.history.entries ++ part) × (Ends after × Tells old before part new after)))

-- The same of a call with this answer.
pub record TellingSo {A : Type 0} (answer : Result A RunError) (old : Told) (j k : Journal) (new : Told) : Type 0 where
  pub last : Told
  pub telling : Telling (λ course. EndsSo answer course last new) old going j k last

-- The readings, parks and submits of a whole history are the driver's, in a call with this answer.
pub record IsTold {A : Type 0} (answer : Result A RunError) (old : Told) (part : List Entry) : Type 0 where
  pub last : Told
  pub after : Course
  pub new : Told
  pub ends : EndsSo answer after last new
  pub tells : Tells old going part last after
