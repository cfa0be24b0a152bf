-- The readings, parks and submits of a driver, piece by piece.
use Rattle.std.proofs.Common.{◌≡◌, inl, inr, ◌*◌, ℕ, true, false, Bool, List, [], ◌∷◌, ◌++◌, Some, None, Option, Ok, Err, refl, ap, sym, subst, ◌∙◌, append_assoc, append-nil}
use Rattle.std.specs.Prelude.{⊤, Result, is_err}
use Rattle.mono_driver.specs.Drivers.{moved, one_more, Faults, IsSure}
use Rattle.mono_driver.specs.declared.driver.DriverFault.{DriverFault}
use Rattle.mono_model.specs.Tasks.{Tasks}
use Rattle.mono_machine.specs.declared.events.TurnStep.{TurnStep}
use Rattle.mono_machine.specs.declared.events.End.{End}
use Rattle.mono_machine.specs.declared.events.Event.TheVariants as event
use Rattle.mono_machine.specs.declared.events.Report.{Report}
use Rattle.mono_rt.specs.SpawnErrors.{OnCapacity}
use Rattle.mono_rt.proofs.FaultLemmas.{rises_by}
use Rattle.mono_rt.specs.Drains.{remotes}
use Rattle.mono_rt.specs.DriverReadings.{Told, telling, Course, going, parked, failed, IsRead, IsHandedIn, IsSureIf, IsDrained, Tells, Telling, TellingSo, IsTold, Still, EndsBy, EndsSo, EndsWaited, EndsDrained, after_park, after_call, parked_time}
use Rattle.mono_rt.specs.Rounds.{broken_after}
use Rattle.mono_rt.specs.declared.parts.errors.RunError.{RunError}
use Rattle.mono_rt.specs.declared.parts.errors.RunError.TheVariants as error
use Rattle.mono_rt.specs.declared.parts.journals.Entry.{Entry}
use Rattle.mono_rt.specs.declared.parts.journals.Entry.TheVariants.{Ran, Now, Park}
use Rattle.mono_rt.specs.declared.parts.journals.Journal.{Journal}

pub tells_on : (a b c : Told) (p q r : Course) (xs ys : List Entry) → Tells a p xs b q → Tells b q ys c r → Tells a p (xs ++ ys) c r
tells_on a b c p q r [] ys (is, same) more = subst (λ x. Tells x p ys c r) is (subst (λ x. Tells b x ys c r) same more)
tells_on a b c p q r (Ran e t ∷ xs) ys (mid, (next, (met, rest))) more = (mid, (next, (met, tells_on mid b c next q r xs ys rest more)))
tells_on a b c p q r (Now n ∷ xs) ys (at, (mid, (read, rest))) more = (at, (mid, (read, tells_on mid b c going q r xs ys rest more)))
tells_on a b c p q r (Park w ∷ xs) ys (at, (mid, (f, (is, rest)))) more = (at, (mid, (f, (is, tells_on mid b c (after_park f) q r xs ys rest more))))

-- nothing was done
pub tells_nothing : {Ends : Course → Type 0} {a b : Told} {p : Course} {j k : Journal} → Ends p → b ≡ a → k.history.entries ≡ j.history.entries → Telling Ends a p j k b
tells_nothing {Ends} {a} {b} {p} {j} {k} ends same entries = record {
  tells = ([], (p, (entries ∙ sym (append-nil j.history.entries), (ends, (same, refl)))));
}

-- these entries
pub tells_by : {Ends : Course → Type 0} {a b : Told} {p : Course} {j k : Journal} (q : Course) (part : List Entry) → Ends q → Tells a p part b q → k.history.entries ≡ j.history.entries ++ part → Telling Ends a p j k b
tells_by {Ends} {a} {b} {p} {j} {k} q part ends tells grew = record {
  tells = (part, (q, (grew, (ends, tells))));
}

-- one entry
pub tells_one : {Ends : Course → Type 0} {a b : Told} {p : Course} {j k : Journal} (q : Course) (entry : Entry) → Ends q → Tells a p (entry ∷ []) b q → k.history.entries ≡ j.history.entries ++ entry ∷ [] → Telling Ends a p j k b
tells_one {Ends} {a} {b} {p} {j} {k} q entry ends tells grew = tells_by q (entry ∷ []) ends tells grew

-- one after the other
pub telling_on : {Ends : Course → Type 0} {a b c : Told} {p q : Course} {i j k : Journal} → Telling (Still q) a p i j b → Telling Ends b q j k c → Telling Ends a p i k c
telling_on {Ends} {a} {b} {c} {p} {q} {i} {j} {k} f g = record {
  tells =
      let first = f.tells in
      let second = g.tells in
      let xs : List Entry = first.0 in
      let ys : List Entry = second.0 in (
        xs ++ ys,
        (
          second.1.0,
          (
            second.1.1.0 ∙ ap (λ zs. zs ++ ys) first.1.1.0 ∙ append_assoc i.history.entries xs ys,
            (second.1.1.1.0, tells_on a b c p q second.1.0 xs ys (subst (λ x. Tells a p xs b x) first.1.1.1.0 first.1.1.1.1) second.1.1.1.1),
          ),
        ),
      );
}

-- the facts that follow from how the call ended
pub telling_more : {P Q : Course → Type 0} {a b : Told} {p : Course} {j k : Journal} → ((x : Course) → P x → Q x) → Telling P a p j k b → Telling Q a p j k b
telling_more {P} {Q} {a} {b} {p} {j} {k} law f = record {
  tells =
      let first = f.tells in
      (first.0, (first.1.0, (first.1.1.0, (law first.1.0 first.1.1.1.0, first.1.1.1.1))));
}

-- then something that goes on in any way, and that it does not touch
pub telling_past : {P : Course → Type 0} {a b c : Told} {p : Course} {i j k : Journal} → Telling P a p i j b → ((q : Course) → Telling (Still q) b q j k c) → Telling P a p i k c
telling_past {P} {a} {b} {c} {p} {i} {j} {k} f g = record {
  tells =
      let first = f.tells in
      let q : Course = first.1.0 in
      let second = (g q).tells in
      let xs : List Entry = first.0 in
      let ys : List Entry = second.0 in (
        xs ++ ys,
        (
          second.1.0,
          (
            second.1.1.0 ∙ ap (λ zs. zs ++ ys) first.1.1.0 ∙ append_assoc i.history.entries xs ys,
            (subst P (sym second.1.1.1.0) first.1.1.1.0, tells_on a b c p q second.1.0 xs ys first.1.1.1.1 second.1.1.1.1),
          ),
        ),
      );
}

-- wakes from outside do not affect it
pub remotes_tell : {O : Type 0} (tasks : Tasks O) (ts : List ℕ) (a : Told) (p : Course) → Tells a p (remotes tasks ts) a p
remotes_tell tasks [] a p = (refl, refl)
remotes_tell tasks (t ∷ ts) a p = (a, (p, ((refl, refl), remotes_tell tasks ts a p)))

-- the time after a park with an end is the driver's
pub parked_is : (r : Result ⊤ DriverFault) (time : Option ℕ) (v nanos : ℕ) (has_failed : Bool) → has_failed ≡ is_err r → nanos ≡ v * 1000000 → moved time nanos r ≡ parked_time has_failed (Some v) time
parked_is r None v nanos has_failed is at = refl
parked_is (Ok x) (Some t) v nanos has_failed is at = ap (λ d. moved (Some t) d (Ok x)) at ∙ ap (λ f. parked_time f (Some v) (Some t)) (sym is)
parked_is (Err e) (Some t) v nanos has_failed is at = ap (λ f. parked_time f (Some v) (Some t)) (sym is)

pub parked_still : (time : Option ℕ) (has_failed : Bool) → time ≡ parked_time has_failed None time
parked_still None has_failed = refl
parked_still (Some t) true = refl
parked_still (Some t) false = refl

going_failed : going ≡ failed → ⊥
going_failed e = cc

parked_failed : parked ≡ failed → ⊥
parked_failed e = cc

-- no call failed
pub unfailed : (x : Course) → x ≡ going → x ≡ failed → ⊥
unfailed x at is = going_failed (sym at ∙ is)

-- a main task that was not made
pub capacity_ends : (P : Type 0) (e : RunError) (x : Course) (a : Told) → OnCapacity e P → x ≡ going → EndsBy e x a a
capacity_ends P error.Memory x a is at = inl (unfailed x at, refl)
capacity_ends P error.AtCapacity x a is at = (at, refl)
capacity_ends P error.Driver x a is at = absurd is
capacity_ends P error.Turns x a is at = absurd is

-- a drain after a park
pub drained_wait : (has_failed : Bool) (a b : Told) → b ≡ a → IsDrained (after_park has_failed) a (after_call has_failed) b
drained_wait true a b same = (same, refl)
drained_wait false a b same = (same, refl)

-- memory ran out after a park, before the drain or after it
pub broken_parked : (has_failed : Bool) (x : Course) → x ≡ after_park has_failed → EndsWaited (broken_after has_failed) x
broken_parked true x at = at
broken_parked false x at = λ is. parked_failed (sym at ∙ is)

pub broken_waited : (has_failed : Bool) (x : Course) → x ≡ after_call has_failed → EndsWaited (broken_after has_failed) x
broken_waited true x at = at
broken_waited false x at = λ is. going_failed (sym at ∙ is)

-- a drain changes no reading and no time
pub drained_reads : (p q : Course) (a b : Told) → IsDrained p a q b → b.readings ≡ a.readings
drained_reads going q a b (f, (is, at)) = is.readings
drained_reads parked q a b (same, at) = ap (λ x. x.readings) same
drained_reads failed q a b (same, at) = ap (λ x. x.readings) same

pub drained_time : (p q : Course) (a b : Told) → IsDrained p a q b → b.time ≡ a.time
drained_time going q a b (f, (is, at)) = is.time
drained_time parked q a b (same, at) = ap (λ x. x.time) same
drained_time failed q a b (same, at) = ap (λ x. x.time) same

false-true : false ≡ true → ⊥
false-true e = cc

-- a call that is sure does not fail
pub sure_by : (can_fail : Bool) (r : Result ⊤ DriverFault) (has_failed : Bool) (x y : ℕ) (tells : Bool) → has_failed ≡ is_err r → IsSure can_fail r x y tells → IsSureIf can_fail has_failed tells
sure_by true r has_failed x y tells is sure = tt
sure_by false (Ok z) has_failed x y tells is (ok, same, still) = (is, still)
sure_by false (Err e) has_failed x y tells is (ok, same, still) = absurd (false-true ok)

-- the same driver exposes the same
pub same_told : {D : Type 0} (r : D → Option (List ℕ)) (t : D → Option ℕ) (p s f : D → ℕ) (c : D → Bool) {x y : D} → x ≡ y → telling (r x) (t x) (p x) (s x) (f x) (c x) ≡ telling (r y) (t y) (p y) (s y) (f y) (c y)
same_told r t p s f c same = ap (λ d. telling (r d) (t d) (p d) (s d) (f d) (c d)) same

-- the clock was read so
pub read_at : {a b : Told} (n m : ℕ) → n ≡ m → IsRead m a b → IsRead n a b
read_at {a} {b} n m is read = subst (λ x. IsRead x a b) (sym is) read

-- the turn that was kept
pub tells_kept : {a b : Told} {j k : Journal} (steps : List TurnStep) (e : End) (r : Report) → b ≡ a → k.history.entries ≡ j.history.entries ++ Ran (event.Turn steps e) r ∷ [] → Telling (Still going) a going j k b
tells_kept {a} {b} {j} {k} steps e r same kept = record {
  tells = (Ran (event.Turn steps e) r ∷ [], (going, (kept, (refl, (b, (going, ((same, refl), (refl, refl))))))));
}

-- a submit, by the contract of the driver's call
pub handed_in : (r : Result ⊤ DriverFault) (has_failed : Bool) (a b : Told) → has_failed ≡ is_err r → b.readings ≡ a.readings → b.time ≡ a.time → b.parks ≡ a.parks → b.submits ≡ one_more a.submits
    → Faults r a.faults b.faults → IsSure a.can_fail r a.faults b.faults b.can_fail → IsHandedIn has_failed a b
handed_in r has_failed a b is readings time parks submits faults sure = record {
  readings = readings;
  time = time;
  parks = parks;
  submits = submits;
  faults = rises_by r has_failed a.faults b.faults is faults;
  sure = sure_by a.can_fail r has_failed a.faults b.faults b.can_fail is sure;
}

-- a call with this answer
pub so_by : {A : Type 0} {answer : Result A RunError} {a b : Told} {j k : Journal} → Telling (λ x. EndsSo answer x b b) a going j k b → TellingSo answer a j k b
so_by {A} {answer} {a} {b} {j} {k} f = record { last = b; telling = f }

pub so_done : {A : Type 0} {x : A} {a b : Told} {j k : Journal} → Telling (Still going) a going j k b → TellingSo (Ok x) a j k b
so_done {A} {x} {a} {b} {j} {k} f = so_by (telling_more (λ c e. (e, refl)) f)

pub so_spent : {A : Type 0} {a b : Told} {j k : Journal} → Telling (Still going) a going j k b → TellingSo {A = A} (Err error.Turns) a j k b
so_spent {A} {a} {b} {j} {k} f = so_by (telling_more (λ c e. (e, refl)) f)

pub so_fails : {A : Type 0} {a b : Told} {j k : Journal} → Telling (Still failed) a going j k b → TellingSo {A = A} (Err error.Driver) a j k b
so_fails {A} {a} {b} {j} {k} f = so_by (telling_more (λ c e. inl (e, refl)) f)

pub so_broken : {A : Type 0} {a b : Told} {j k : Journal} → Telling (λ x. x ≡ failed → ⊥) a going j k b → TellingSo {A = A} (Err error.Memory) a j k b
so_broken {A} {a} {b} {j} {k} f = so_by (telling_more (λ c e. inl (e, refl)) f)

-- a submit that failed, by whether its drain had memory
pub so_failed : {A B : Type 0} (r : Result B RunError) (a b : Told) (j k : Journal) → IsHandedIn true a b → ((old new : Told) (before after : Course) → EndsDrained r before old after new → Telling (Still after) old before j k new) → TellingSo {A = A} (Err error.Driver) a j k b
so_failed {A} {B} (Ok x) a b j k handed drained = so_fails (drained a b going failed (true, (handed, refl)))
so_failed {A} {B} (Err e) a b j k handed drained = record { last = a; telling = telling_more (λ c at. inr (at, handed)) (drained a a going going (refl, refl)) }

-- one that did not, and memory ran out in its drain
pub so_undrained : {A : Type 0} {a b : Told} {j k : Journal} → IsHandedIn false a b → Telling (Still going) a going j k a → TellingSo {A = A} (Err error.Memory) a j k b
so_undrained {A} {a} {b} {j} {k} handed f = record { last = a; telling = telling_more (λ c at. inr (at, handed)) f }

pub so_after : {A : Type 0} {answer : Result A RunError} {a b c : Told} {i j k : Journal} → Telling (Still going) a going i j b → TellingSo answer b j k c → TellingSo answer a i k c
so_after {A} {answer} {a} {b} {c} {i} {j} {k} f g = record { last = g.last; telling = telling_on f g.telling }

pub so_past : {A : Type 0} {answer : Result A RunError} {a b : Told} {i j k : Journal} → TellingSo answer a i j b → ((t : Told) (q : Course) → Telling (Still q) t q j k t) → TellingSo answer a i k b
so_past {A} {answer} {a} {b} {i} {j} {k} f g = record { last = f.last; telling = telling_past f.telling (g f.last) }

pub so_at : {A : Type 0} {answer : Result A RunError} {a b c : Told} {j k : Journal} → b ≡ c → TellingSo answer a j k b → TellingSo answer a j k c
so_at {A} {answer} {a} {b} {c} {j} {k} same f = subst (λ t. TellingSo answer a j k t) same f

-- after an Ok no call has failed
pub still_of : {A : Type 0} {x : A} {a b : Told} {j k : Journal} → TellingSo (Ok x) a j k b → Telling (Still going) a going j k b
still_of {A} {x} {a} {b} {j} {k} f =
    let told = f.telling.tells in
    subst (λ t. Telling (Still going) a going j k t) (sym told.1.1.1.0.1) (telling_more (λ c e. e.0) f.telling)

-- the answer's value does not matter
pub so_error : {A B : Type 0} {e : RunError} {a b : Told} {j k : Journal} → TellingSo {A = A} (Err e) a j k b → TellingSo {A = B} (Err e) a j k b
so_error {A} {B} {e} {a} {b} {j} {k} f = record { last = f.last; telling = telling_more (λ x is. is) f.telling }

pub so_value : {A B : Type 0} {x : A} {y : B} {a b : Told} {j k : Journal} → TellingSo (Ok x) a j k b → TellingSo (Ok y) a j k b
so_value {A} {B} {x} {y} {a} {b} {j} {k} f = record { last = f.last; telling = telling_more (λ x is. is) f.telling }

-- from an empty history, the entries that it has then
pub told_in : {A : Type 0} {answer : Result A RunError} {a b : Told} {j k : Journal} (l : Journal) → j.history.entries ≡ [] → l ≡ k → TellingSo answer a j k b → IsTold answer a l.history.entries
told_in {A} {answer} {a} {b} {j} {k} l empty same f =
    let first = f.telling.tells in
    let part : first.0 ≡ l.history.entries = sym (ap (λ x. x.history.entries) same ∙ first.1.1.0 ∙ ap (λ xs. xs ++ first.0) empty) in
    record { last = f.last; after = first.1.0; new = b; ends = first.1.1.1.0; tells = subst (λ xs. Tells a going xs f.last first.1.0) part first.1.1.1.1 }
