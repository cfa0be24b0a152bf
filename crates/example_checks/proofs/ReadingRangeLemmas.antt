-- The readings of a driver that exposes them, or its time, are in range.
use Rattle.std.proofs.Common.{◌≡◌, ◌≤◌, ◌⊎◌, inl, inr, ◌+◌, ◌*◌, ℕ, Bool, true, false, List, [], ◌∷◌, Some, None, Option, refl, ap, sym, subst, ◌∙◌, arith}
use Rattle.std.specs.Prelude.{min}
use Rattle.mono_model.specs.Ticks.{max_nanos}
use Rattle.mono_driver.specs.Drivers.{Reads, ReadsTime}
use Rattle.mono_machine.specs.declared.events.Event.TheVariants as event
use Rattle.mono_rt.specs.DriverReadings.{Told, Course, going, Tells, after_park, parked_time}
use Rattle.mono_rt.specs.declared.parts.journals.Entry.{Entry}
use Rattle.mono_rt.specs.declared.parts.journals.Entry.TheVariants.{Ran, Now, Park}
use Rattle.mono_rt.proofs.DriverLemmas.{drained_reads, drained_time}
use Rattle.example_checks.specs.WholeCalls.{InRange}
use Rattle.example_checks.specs.ReadingRanges.{AllInRange, ShownReadingsAreInRange}

-- ---- a driver that exposes its time

read_below : (time : Option ℕ) (t n : ℕ) → time ≡ Some t → t ≤ max_nanos → ReadsTime time n → n ≤ max_nanos
read_below time t n at below is = subst (λ x. x ≤ max_nanos) (sym (subst (λ x. ReadsTime x n) at is)) below

min_below : (a most : ℕ) → min a most ≤ most
min_below a most = omega arith

parked_below : (f : Bool) (wait : Option ℕ) (t : ℕ) → t ≤ max_nanos → (u : ℕ) × ((parked_time f wait (Some t) ≡ Some u) × (u ≤ max_nanos))
parked_below true wait t below = (t, (refl, below))
parked_below false None t below = (t, (refl, below))
parked_below false (Some v) t below = (min (t + v * 1000000) max_nanos, (refl, min_below (t + v * 1000000) max_nanos))

by_time : (part : List Entry) (a b : Told) (p q : Course) (t : ℕ) → a.time ≡ Some t → t ≤ max_nanos → Tells a p part b q → InRange part
by_time [] a b p q t at below is = tt
by_time (Now n ∷ part) a b p q t at below (course, (mid, (read, rest))) = (read_below a.time t n at below read.reads_time, by_time part mid b going q t (read.time ∙ at) below rest)
by_time (Park wait ∷ part) a b p q t at below (course, (mid, (f, (is, rest)))) =
    let left = parked_below f wait t below in
    by_time part mid b (after_park f) q left.0 (is.time ∙ ap (parked_time f wait) at ∙ left.1.0) left.1.1 rest
by_time (Ran (event.Act act) r ∷ part) a b p q t at below (mid, (next, ((same, course), rest))) = by_time part mid b next q t (ap (λ x. x.time) same ∙ at) below rest
by_time (Ran (event.Turn steps e) r ∷ part) a b p q t at below (mid, (next, ((same, course), rest))) = by_time part mid b next q t (ap (λ x. x.time) same ∙ at) below rest
by_time (Ran (event.Remote u) r ∷ part) a b p q t at below (mid, (next, ((same, course), rest))) = by_time part mid b next q t (ap (λ x. x.time) same ∙ at) below rest
by_time (Ran event.Drain r ∷ part) a b p q t at below (mid, (next, (drained, rest))) = by_time part mid b next q t (drained_time p next a mid drained ∙ at) below rest
by_time (Ran (event.Clock n) r ∷ part) a b p q t at below (mid, (next, ((read, course), rest))) = by_time part mid b next q t (read.time ∙ at) below rest

-- ---- a driver that exposes its readings

first_below : (values : List ℕ) (n : ℕ) (left : Option (List ℕ)) → AllInRange values → Reads (Some values) n left → (rest : List ℕ) × ((left ≡ Some rest) × ((n ≤ max_nanos) × AllInRange rest))
first_below [] n left all is = absurd is
first_below (x ∷ []) n left all (is, same) = (x ∷ [], (same, (subst (λ y. y ≤ max_nanos) (sym is) all.0, all)))
first_below (x ∷ y ∷ rest) n left all (is, same) = (y ∷ rest, (same, (subst (λ z. z ≤ max_nanos) (sym is) all.0, all.1)))

by_readings : (part : List Entry) (a b : Told) (p q : Course) (values : List ℕ) → a.readings ≡ Some values → AllInRange values → Tells a p part b q → InRange part
by_readings [] a b p q values at all is = tt
by_readings (Now n ∷ part) a b p q values at all (course, (mid, (read, rest))) =
    let first = first_below values n mid.readings all (subst (λ x. Reads x n mid.readings) at read.reads) in
    (first.1.1.0, by_readings part mid b going q first.0 first.1.0 first.1.1.1 rest)
by_readings (Park wait ∷ part) a b p q values at all (course, (mid, (f, (is, rest)))) = by_readings part mid b (after_park f) q values (is.readings ∙ at) all rest
by_readings (Ran (event.Act act) r ∷ part) a b p q values at all (mid, (next, ((same, course), rest))) = by_readings part mid b next q values (ap (λ x. x.readings) same ∙ at) all rest
by_readings (Ran (event.Turn steps e) r ∷ part) a b p q values at all (mid, (next, ((same, course), rest))) = by_readings part mid b next q values (ap (λ x. x.readings) same ∙ at) all rest
by_readings (Ran (event.Remote u) r ∷ part) a b p q values at all (mid, (next, ((same, course), rest))) = by_readings part mid b next q values (ap (λ x. x.readings) same ∙ at) all rest
by_readings (Ran event.Drain r ∷ part) a b p q values at all (mid, (next, (drained, rest))) = by_readings part mid b next q values (drained_reads p next a mid drained ∙ at) all rest
by_readings (Ran (event.Clock n) r ∷ part) a b p q values at all (mid, (next, ((read, course), rest))) =
    let first = first_below values n mid.readings all (subst (λ x. Reads x n mid.readings) at read.reads) in
    by_readings part mid b next q first.0 first.1.0 first.1.1.1 rest

pub shown_readings_are_in_range : ShownReadingsAreInRange
shown_readings_are_in_range old new before after part (inl (t, (at, below))) tells = by_time part old new before after t at below tells
shown_readings_are_in_range old new before after part (inr (values, (at, all))) tells = by_readings part old new before after values at all tells
