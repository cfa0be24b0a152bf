-- The journal's readings and submits are those of the driver.
use Rattle.std.proofs.Common.{◌≡◌, ◌≤◌, ◌+◌, ◌*◌, ℕ, Bool, true, false, List, [], ◌∷◌, Some, None, Option, refl, ap, sym, subst, ◌∙◌, arith, inl, inr}
use Rattle.std.specs.Prelude.{min, ◌-◌, ◌^◌, ◌++◌, Result, Ok, Err}
use Rattle.mono_model.specs.Ticks.{max_nanos}
use Rattle.mono_driver.specs.Drivers.{Reads, ReadsTime, one_more}
use Rattle.mono_machine.specs.declared.events.Event.{Event}
use Rattle.mono_machine.specs.declared.events.Event.TheVariants as event
use Rattle.mono_machine.specs.Machine.{Machine}
use Rattle.mono_machine.specs.declared.events.Report.{Report}
use Rattle.mono_machine.specs.declared.events.Report.TheVariants as report
use Rattle.mono_rt.specs.Budgets.{parks_in}
use Rattle.mono_rt.specs.DriverCounts.{ParksCounted, HandsInOnce, ParksOnce}
use Rattle.mono_rt.specs.Rounds.{Remotes, Drained, ClockIf, Parks}
use Rattle.mono_rt.specs.Faults.{RisesIf}
use Rattle.mono_rt.specs.Readings.{readings_in, hand_ins_from, AreFirst, time_after, AreSums}
use Rattle.mono_rt.specs.DriverReadings.{Told, Course, going, parked, failed, IsMet, IsDrained, IsSureIf, Tells, EndsBy, EndsSo, TellingSo, IsHandedIn, IsTold, after_park, after_call, parked_time}
use Rattle.mono_rt.proofs.DriverLemmas.{drained_reads, drained_time}
use Rattle.mono_rt.specs.declared.parts.errors.RunError.{RunError}
use Rattle.mono_rt.specs.declared.parts.errors.RunError.TheVariants as error
use Rattle.mono_rt.specs.declared.parts.journals.Entry.{Entry}
use Rattle.mono_rt.specs.declared.parts.journals.Entry.TheVariants.{Ran, Now, Park}
use Rattle.mono_rt.specs.declared.parts.journals.Journal.{Journal}

-- one reading of a list
first_read : (readings : List ℕ) (n : ℕ) (left : Option (List ℕ)) → Reads (Some readings) n left → (rest : List ℕ) × ((left ≡ Some rest) × ((values : List ℕ) → AreFirst values rest → AreFirst (n ∷ values) readings))
first_read [] n left is = absurd is
first_read (x ∷ []) n left (is, same) = (x ∷ [], (same, λ values more. (is, more)))
first_read (x ∷ y ∷ rest) n left (is, same) = (y ∷ rest, (same, λ values more. (is, more)))

-- the values are those of the list
pub in_order : (a b : Told) (p q : Course) (readings : List ℕ) (part : List Entry) → a.readings ≡ Some readings → Tells a p part b q → AreFirst (readings_in part) readings
in_order a b p q readings [] at is = tt
in_order a b p q readings (Now n ∷ part) at (course, (mid, (read, rest))) =
    let first = first_read readings n mid.readings (subst (λ x. Reads x n mid.readings) at read.reads) in
    first.1.1 (readings_in part) (in_order mid b going q first.0 part first.1.0 rest)
in_order a b p q readings (Park wait ∷ part) at (course, (mid, (f, (is, rest)))) = in_order mid b _ q readings part (is.readings ∙ at) rest
in_order a b p q readings (Ran (event.Act act) r ∷ part) at (mid, (next, ((same, course), rest))) = in_order mid b next q readings part (ap (λ x. x.readings) same ∙ at) rest
in_order a b p q readings (Ran (event.Turn steps end) r ∷ part) at (mid, (next, ((same, course), rest))) = in_order mid b next q readings part (ap (λ x. x.readings) same ∙ at) rest
in_order a b p q readings (Ran (event.Remote t) r ∷ part) at (mid, (next, ((same, course), rest))) = in_order mid b next q readings part (ap (λ x. x.readings) same ∙ at) rest
in_order a b p q readings (Ran event.Drain r ∷ part) at (mid, (next, (drained, rest))) = in_order mid b next q readings part (drained_reads p next a mid drained ∙ at) rest
in_order a b p q readings (Ran (event.Clock n) r ∷ part) at (mid, (next, ((read, course), rest))) =
    let first = first_read readings n mid.readings (subst (λ x. Reads x n mid.readings) at read.reads) in
    first.1.1 (readings_in part) (in_order mid b next q first.0 part first.1.0 rest)

-- after a fault nothing goes on
not_failed : failed ≡ going → ⊥
not_failed e = cc

still_met : (e : Event) (a b : Told) (next : Course) → IsMet e a failed b next → next ≡ failed
still_met (event.Act act) a b next (same, is) = is
still_met (event.Turn steps end) a b next (same, is) = is
still_met (event.Clock n) a b next (read, is) = is
still_met (event.Remote t) a b next (same, is) = is
still_met event.Drain a b next (same, is) = is

pub stays_failed : (a b : Told) (p q : Course) (part : List Entry) → p ≡ failed → Tells a p part b q → q ≡ failed
stays_failed a b p q [] at (same, is) = is ∙ at
stays_failed a b p q (Ran e r ∷ part) at (mid, (next, (met, rest))) = stays_failed mid b next q part (still_met e a mid next (subst (λ x. IsMet e a x mid next) at met)) rest
stays_failed a b p q (Now n ∷ part) at (course, more) = absurd (not_failed (sym at ∙ course))
stays_failed a b p q (Park wait ∷ part) at (course, more) = absurd (not_failed (sym at ∙ course))

-- one more park
more_time : (start millis v most : ℕ) → min (min (start + millis * 1000000) most + v * 1000000) most ≡ min (start + (millis + v) * 1000000) most
more_time start millis v most = omega arith

read_time : (time : Option ℕ) (t n : ℕ) → time ≡ Some t → ReadsTime time n → n ≡ t
read_time time t n at is = subst (λ x. ReadsTime x n) at is

-- the values are sums
pub are_sums : (a b : Told) (p q : Course) (start millis : ℕ) (part : List Entry) → a.time ≡ Some (time_after start millis) → q ≡ going → Tells a p part b q → AreSums start millis part
are_sums a b p q start millis [] at end is = tt
are_sums a b p q start millis (Now n ∷ part) at end (course, (mid, (read, rest))) = (read_time a.time (time_after start millis) n at read.reads_time, are_sums mid b going q start millis part (read.time ∙ at) end rest)
are_sums a b p q start millis (Park wait ∷ part) at end (course, (mid, (true, (is, rest)))) = absurd (not_failed (sym (stays_failed mid b failed q part refl rest) ∙ end))
are_sums a b p q start millis (Park None ∷ part) at end (course, (mid, (false, (is, rest)))) = are_sums mid b parked q start millis part (is.time ∙ ap (parked_time false None) at) end rest
are_sums a b p q start millis (Park (Some v) ∷ part) at end (course, (mid, (false, (is, rest)))) =
    are_sums mid b parked q start (millis + v) part (is.time ∙ ap (parked_time false (Some v)) at ∙ ap Some (more_time start millis v max_nanos)) end rest
are_sums a b p q start millis (Ran (event.Act act) r ∷ part) at end (mid, (next, ((same, course), rest))) = (tt, are_sums mid b next q start millis part (ap (λ x. x.time) same ∙ at) end rest)
are_sums a b p q start millis (Ran (event.Turn steps ending) r ∷ part) at end (mid, (next, ((same, course), rest))) = (tt, are_sums mid b next q start millis part (ap (λ x. x.time) same ∙ at) end rest)
are_sums a b p q start millis (Ran (event.Remote t) r ∷ part) at end (mid, (next, ((same, course), rest))) = (tt, are_sums mid b next q start millis part (ap (λ x. x.time) same ∙ at) end rest)
are_sums a b p q start millis (Ran event.Drain r ∷ part) at end (mid, (next, (drained, rest))) = (tt, are_sums mid b next q start millis part (drained_time p next a mid drained ∙ at) end rest)
are_sums a b p q start millis (Ran (event.Clock n) r ∷ part) at end (mid, (next, ((read, course), rest))) = (read_time a.time (time_after start millis) n at read.reads_time, are_sums mid b next q start millis part (read.time ∙ at) end rest)

pub sums_from : (a b : Told) (p : Course) (start : ℕ) (part : List Entry) → start ≤ max_nanos → a.time ≡ Some start → Tells a p part b going → AreSums start 0 part
sums_from a b p start part below at tells = are_sums a b p going start 0 part (at ∙ ap Some (at_start start max_nanos below)) refl tells
  where
    at_start : (start most : ℕ) → start ≤ most → start ≡ min (start + 0 * 1000000) most
    at_start start most below = omega (arith, below)

-- the count of submits
abbrev is_parked : Course → Bool
is_parked going = false
is_parked parked = true
is_parked failed = false

carried : (a mid b most : ℕ) (p next : Course) (part : List Entry) → mid ≡ a → next ≡ p → b ≡ min (mid + hand_ins_from (is_parked next) part) most → b ≡ min (a + hand_ins_from (is_parked p) part) most
carried a mid b most p next part same course more = more ∙ ap (λ x. min (x + hand_ins_from (is_parked next) part) most) same ∙ ap (λ c. min (a + hand_ins_from (is_parked c) part) most) course

one_handed : (a mid b h : ℕ) → mid ≡ min (a + 1) (2 ^ 64 - 1) → b ≡ min (mid + h) (2 ^ 64 - 1) → b ≡ min (a + (1 + h)) (2 ^ 64 - 1)
one_handed a mid b h one more = omega (arith, one, more)

none_handed : (a mid b h : ℕ) → mid ≡ a → b ≡ min (mid + h) (2 ^ 64 - 1) → b ≡ min (a + (0 + h)) (2 ^ 64 - 1)
none_handed a mid b h same more = omega (arith, same, more)

still_counted : (a b : ℕ) → a ≤ 2 ^ 64 - 1 → b ≡ a → b ≡ min (a + 0) (2 ^ 64 - 1)
still_counted a b below is = omega (arith, below, is)

below_by : (a b : ℕ) → b ≡ a → a ≤ 2 ^ 64 - 1 → b ≤ 2 ^ 64 - 1
below_by a b same below = omega (arith, same, below)

below_one : (a b : ℕ) → b ≡ min (a + 1) (2 ^ 64 - 1) → b ≤ 2 ^ 64 - 1
below_one a b one = omega (arith, one)

handed_so : (a b : Told) (p q : Course) (part : List Entry) → q ≡ going → a.submits ≤ 2 ^ 64 - 1 → Tells a p part b q → b.submits ≡ min (a.submits + hand_ins_from (is_parked p) part) (2 ^ 64 - 1)
handed_so a b p q [] end below (same, is) = still_counted a.submits b.submits below (ap (λ x. x.submits) same)
handed_so a b p q (Now n ∷ part) end below (at, (mid, (read, rest))) =
    carried a.submits mid.submits b.submits _ p going part read.submits (sym at) (handed_so mid b going q part end (below_by a.submits mid.submits read.submits below) rest)
handed_so a b p q (Park w ∷ part) end below (at, (mid, (true, (is, rest)))) = absurd (not_failed (sym (stays_failed mid b failed q part refl rest) ∙ end))
handed_so a b p q (Park w ∷ part) end below (at, (mid, (false, (is, rest)))) =
    handed_so mid b parked q part end (below_by a.submits mid.submits is.submits below) rest ∙ ap (λ x. min (x + hand_ins_from true part) (2 ^ 64 - 1)) is.submits
handed_so a b p q (Ran (event.Act act) r ∷ part) end below (mid, (next, ((same, course), rest))) =
    carried a.submits mid.submits b.submits _ p next part (ap (λ x. x.submits) same) course (handed_so mid b next q part end (below_by a.submits mid.submits (ap (λ x. x.submits) same) below) rest)
handed_so a b p q (Ran (event.Turn steps e) r ∷ part) end below (mid, (next, ((same, course), rest))) =
    carried a.submits mid.submits b.submits _ p next part (ap (λ x. x.submits) same) course (handed_so mid b next q part end (below_by a.submits mid.submits (ap (λ x. x.submits) same) below) rest)
handed_so a b p q (Ran (event.Remote t) r ∷ part) end below (mid, (next, ((same, course), rest))) =
    carried a.submits mid.submits b.submits _ p next part (ap (λ x. x.submits) same) course (handed_so mid b next q part end (below_by a.submits mid.submits (ap (λ x. x.submits) same) below) rest)
handed_so a b p q (Ran (event.Clock n) r ∷ part) end below (mid, (next, ((read, course), rest))) =
    carried a.submits mid.submits b.submits _ p next part read.submits course (handed_so mid b next q part end (below_by a.submits mid.submits read.submits below) rest)
handed_so a b going q (Ran event.Drain r ∷ part) end below (mid, (next, ((true, (is, at)), rest))) = absurd (not_failed (sym (stays_failed mid b next q part at rest) ∙ end))
handed_so a b going q (Ran event.Drain r ∷ part) end below (mid, (next, ((false, (is, at)), rest))) =
    one_handed a.submits mid.submits b.submits (hand_ins_from false part) is.submits
    (handed_so mid b going q part end (below_one a.submits mid.submits is.submits) (subst (λ c. Tells mid c part b q) at rest))
handed_so a b parked q (Ran event.Drain r ∷ part) end below (mid, (next, ((same, at), rest))) =
    none_handed a.submits mid.submits b.submits (hand_ins_from false part) (ap (λ x. x.submits) same)
    (handed_so mid b going q part end (below_by a.submits mid.submits (ap (λ x. x.submits) same) below) (subst (λ c. Tells mid c part b q) at rest))
handed_so a b failed q (Ran event.Drain r ∷ part) end below (mid, (next, ((same, at), rest))) = absurd (not_failed (sym (stays_failed mid b next q part at rest) ∙ end))

pub handed_in_order : (a b : Told) (part : List Entry) → a.submits ≤ 2 ^ 64 - 1 → Tells a going part b going → b.submits ≡ min (a.submits + hand_ins_from false part) (2 ^ 64 - 1)
handed_in_order a b part below tells = handed_so a b going going part refl below tells

-- a driver that can't fail
going_on : going ≡ failed → ⊥
going_on e = cc

after_parked : parked ≡ failed → ⊥
after_parked e = cc

never_fails : (a b : Told) (p q : Course) (part : List Entry) → a.can_fail ≡ false → (p ≡ failed → ⊥) → Tells a p part b q → (q ≡ failed → ⊥) × (b.faults ≡ a.faults) × (b.can_fail ≡ false)
never_fails a b p q [] sure not (same, is) = (λ e. not (sym is ∙ e), ap (λ x. x.faults) same, ap (λ x. x.can_fail) same ∙ sure)
never_fails a b p q (Now n ∷ part) sure not (at, (mid, (read, rest))) =
    let more = never_fails mid b going q part (read.can_fail ∙ sure) going_on rest in
    (more.0, more.1 ∙ read.faults, more.2)
never_fails a b p q (Park w ∷ part) sure not (at, (mid, (f, (is, rest)))) =
    let held : IsSureIf false f mid.can_fail = subst (λ x. IsSureIf x f mid.can_fail) sure is.sure in
    let same : RisesIf false a.faults mid.faults = subst (λ x. RisesIf x a.faults mid.faults) held.0 is.faults in
    let more = never_fails mid b (after_park f) q part held.1 (λ e. after_parked (ap after_park (sym held.0) ∙ e)) rest in
    (more.0, more.1 ∙ same, more.2)
never_fails a b p q (Ran (event.Act act) r ∷ part) sure not (mid, (next, ((same, course), rest))) =
    let more = never_fails mid b next q part (ap (λ x. x.can_fail) same ∙ sure) (λ e. not (sym course ∙ e)) rest in
    (more.0, more.1 ∙ ap (λ x. x.faults) same, more.2)
never_fails a b p q (Ran (event.Turn steps e) r ∷ part) sure not (mid, (next, ((same, course), rest))) =
    let more = never_fails mid b next q part (ap (λ x. x.can_fail) same ∙ sure) (λ e. not (sym course ∙ e)) rest in
    (more.0, more.1 ∙ ap (λ x. x.faults) same, more.2)
never_fails a b p q (Ran (event.Remote t) r ∷ part) sure not (mid, (next, ((same, course), rest))) =
    let more = never_fails mid b next q part (ap (λ x. x.can_fail) same ∙ sure) (λ e. not (sym course ∙ e)) rest in
    (more.0, more.1 ∙ ap (λ x. x.faults) same, more.2)
never_fails a b p q (Ran (event.Clock n) r ∷ part) sure not (mid, (next, ((read, course), rest))) =
    let more = never_fails mid b next q part (read.can_fail ∙ sure) (λ e. not (sym course ∙ e)) rest in
    (more.0, more.1 ∙ read.faults, more.2)
never_fails a b going q (Ran event.Drain r ∷ part) sure not (mid, (next, ((f, (is, at)), rest))) =
    let held : IsSureIf false f mid.can_fail = subst (λ x. IsSureIf x f mid.can_fail) sure is.sure in
    let same : RisesIf false a.faults mid.faults = subst (λ x. RisesIf x a.faults mid.faults) held.0 is.faults in
    let more = never_fails mid b next q part held.1 (λ e. going_on (ap after_call (sym held.0) ∙ sym at ∙ e)) rest in
    (more.0, more.1 ∙ same, more.2)
never_fails a b parked q (Ran event.Drain r ∷ part) sure not (mid, (next, ((same, at), rest))) =
    let more = never_fails mid b next q part (ap (λ x. x.can_fail) same ∙ sure) (λ e. going_on (sym at ∙ e)) rest in
    (more.0, more.1 ∙ ap (λ x. x.faults) same, more.2)
never_fails a b failed q (Ran event.Drain r ∷ part) sure not (mid, (next, ((same, at), rest))) = absurd (not refl)

pub sure_goes : (a b : Told) (q : Course) (part : List Entry) → a.can_fail ≡ false → Tells a going part b q → (q ≡ failed → ⊥) × (b.faults ≡ a.faults) × (b.can_fail ≡ false)
sure_goes a b q part sure tells = never_fails a b going q part sure going_on tells

not_sure : true ≡ false → ⊥
not_sure e = cc

-- and so it is no error of a call
sure_ends : (q : Course) (last new : Told) → (q ≡ failed → ⊥) → last.can_fail ≡ false → EndsBy error.Driver q last new → ⊥
sure_ends q last new not sure (inl ended) = not ended.0
sure_ends q last new not sure (inr handed) = not_sure (subst (λ x. IsSureIf x true new.can_fail) sure handed.1.sure).0

pub sure_answer : (answer : Result ℕ RunError) (old : Told) (part : List Entry) → old.can_fail ≡ false → IsTold answer old part → answer ≡ Err error.Driver → ⊥
sure_answer answer old part sure told is =
    let stays = sure_goes old told.last told.after part sure told.tells in
    sure_ends told.after told.last told.new stays.0 stays.2 (subst (λ a. EndsSo a told.after told.last told.new) is told.ends)

-- the count of parks
drained_parks : (p q : Course) (a b : Told) → IsDrained p a q b → b.parks ≡ a.parks
drained_parks going q a b (has_failed, (is, at)) = is.parks
drained_parks parked q a b (same, at) = ap (λ x. x.parks) same
drained_parks failed q a b (same, at) = ap (λ x. x.parks) same

met_parks : (e : Event) (p q : Course) (a b : Told) → IsMet e a p b q → b.parks ≡ a.parks
met_parks (event.Act act) p q a b (same, at) = ap (λ x. x.parks) same
met_parks (event.Turn steps end) p q a b (same, at) = ap (λ x. x.parks) same
met_parks (event.Clock n) p q a b (read, at) = read.parks
met_parks (event.Remote t) p q a b (same, at) = ap (λ x. x.parks) same
met_parks event.Drain p q a b drained = drained_parks p q a b drained

parks_same : (a mid b h : ℕ) → mid ≡ a → b ≡ min (mid + h) (2 ^ 64 - 1) → b ≡ min (a + h) (2 ^ 64 - 1)
parks_same a mid b h same more = omega (arith, same, more)

pub parked_in_order : (a b : Told) (p q : Course) (part : List Entry) → a.parks ≤ 2 ^ 64 - 1 → Tells a p part b q → b.parks ≡ min (a.parks + parks_in part) (2 ^ 64 - 1)
parked_in_order a b p q [] below (same, is) = still_counted a.parks b.parks below (ap (λ x. x.parks) same)
parked_in_order a b p q (Now n ∷ part) below (at, (mid, (read, rest))) =
    parks_same a.parks mid.parks b.parks (parks_in part) read.parks (parked_in_order mid b going q part (below_by a.parks mid.parks read.parks below) rest)
parked_in_order a b p q (Park w ∷ part) below (at, (mid, (has_failed, (is, rest)))) =
    one_handed a.parks mid.parks b.parks (parks_in part) is.parks (parked_in_order mid b (after_park has_failed) q part (below_one a.parks mid.parks is.parks) rest)
parked_in_order a b p q (Ran e r ∷ part) below (mid, (next, (met, rest))) =
    let same = met_parks e p next a mid met in
    parks_same a.parks mid.parks b.parks (parks_in part) same (parked_in_order mid b next q part (below_by a.parks mid.parks same below) rest)

-- a submit whose drain did not come parks nobody
ended_parks : {A : Type 0} (r : Result A RunError) (c : Course) (last new : Told) → EndsSo r c last new → new.parks ≡ last.parks
ended_parks (Ok x) c last new (at, same) = ap (λ t. t.parks) same
ended_parks (Err error.Turns) c last new (at, same) = ap (λ t. t.parks) same
ended_parks (Err error.AtCapacity) c last new (at, same) = ap (λ t. t.parks) same
ended_parks (Err error.Driver) c last new (inl (at, same)) = ap (λ t. t.parks) same
ended_parks (Err error.Driver) c last new (inr (at, is)) = is.parks
ended_parks (Err error.Memory) c last new (inl (at, same)) = ap (λ t. t.parks) same
ended_parks (Err error.Memory) c last new (inr (at, is)) = is.parks

pub parks_called : {A : Type 0} (r : Result A RunError) (old new : Told) (j k : Journal) → old.parks ≤ 2 ^ 64 - 1 → TellingSo r old j k new → ParksCounted old new j k
parks_called r old new j k below called =
    let tells = called.telling.tells in
    record {
      part = tells.0;
      grew = tells.1.1.0;
      parks = ended_parks r tells.1.0 called.last new tells.1.1.1.0 ∙ parked_in_order old called.last going tells.1.0 tells.0 below tells.1.1.1.1;
    }

-- what other threads woke is no call of the driver
remotes_pass : (ts : List ℕ) (m mid : Machine) (part left : List Entry) (a b : Told) (p q : Course) → Remotes ts m part mid left → Tells a p part b q → Tells a p left b q
remotes_pass [] m mid part left a b p q (is, same) tells = subst (λ xs. Tells a p xs b q) is tells
remotes_pass (t ∷ ts) m mid part left a b p q (told, (next, (more, (is, step, rest)))) tells =
    let met = subst (λ xs. Tells a p xs b q) is tells in
    remotes_pass ts next mid more left a b p q rest (subst (λ x. Tells x p more b q) met.1.1.0.0 (subst (λ c. Tells met.0 c more b q) met.1.1.0.1 met.1.1.1))

drained_pass : (m n : Machine) (part rest : List Entry) (a b : Told) (p q : Course) → (is : Drained m part n rest) → Tells a p part b q → Tells a p (Ran event.Drain (report.Drained is.listed) ∷ rest) b q
drained_pass m n part rest a b p q is tells = subst (λ xs. Tells a p xs b q) is.entry (remotes_pass is.taken m is.mid part is.left a b p q is.remotes tells)

pub hands_in_once : (a b : Told) (q : Course) (m n : Machine) (part : List Entry) → Drained m part n [] → Tells a going part b q → HandsInOnce a b
hands_in_once a b q m n part is tells =
    let drained = drained_pass m n part [] a b going q is tells in
    record { has_failed = drained.1.1.0.0; handed = subst (λ x. IsHandedIn drained.1.1.0.0 a x) (sym drained.1.1.1.0) drained.1.1.0.1.0 }

drained_after_park : (has_failed : Bool) (a b : Told) (q : Course) → IsDrained (after_park has_failed) a q b → b ≡ a
drained_after_park true a b q (same, at) = same
drained_after_park false a b q (same, at) = same

clock_counts : (has_timers : Bool) (m n : Machine) (part : List Entry) (a b : Told) (p q : Course) → ClockIf has_timers m part n [] → Tells a p part b q → (b.parks ≡ a.parks) × (b.submits ≡ a.submits)
clock_counts false m n part a b p q (is, same) tells =
    let ended = subst (λ xs. Tells a p xs b q) is tells in
    (ap (λ x. x.parks) ended.0, ap (λ x. x.submits) ended.0)
clock_counts true m n part a b p q (c, (fired, (is, step))) tells =
    let read = subst (λ xs. Tells a p xs b q) is tells in
    (ap (λ x. x.parks) read.1.1.1.0 ∙ read.1.1.0.0.parks, ap (λ x. x.submits) read.1.1.1.0 ∙ read.1.1.0.0.submits)

pub parks_once : (has_timers : Bool) (a b : Told) (q : Course) (m n : Machine) (part : List Entry) → Parks has_timers m part n [] → Tells a going part b q → ParksOnce a b
parks_once has_timers a b q m n part is tells =
    let entries = is.parks.1.1.1.0 in
    let read = subst (λ xs. Tells a going xs b q) entries tells in
    let parked = read.1.1.1.1 in
    let has_failed = parked.1.0 in
    let drained = drained_pass is.parked is.drained is.left is.after parked.0 b (after_park has_failed) q is.drains parked.1.1.1 in
    let same = drained_after_park has_failed parked.0 drained.0 drained.1.0 drained.1.1.0 in
    let ends = clock_counts has_timers is.drained n is.after drained.0 b drained.1.0 q is.clock drained.1.1.1 in
    record {
      parks = ends.0 ∙ ap (λ x. x.parks) same ∙ parked.1.1.0.parks ∙ ap one_more read.1.1.0.parks;
      submits = ends.1 ∙ ap (λ x. x.submits) same ∙ parked.1.1.0.submits ∙ read.1.1.0.submits;
    }
