-- Each key in the wheel is pending, or registered ahead and at most at its tick, also after a call.
use Rattle.std.proofs.Common.{◌≡◌, ◌≢◌, ◌<◌, ◌≤◌, ◌⊎◌, inl, inr, ℕ, true, false, Bool, cond, Some, None, Option, refl, sym, subst, arith}
use Rattle.std.specs.Prelude.{nat_le}
use Rattle.std.proofs.lemmas.Bool.{leb-false, cases_eq, cases_lt}
use Rattle.mono_wheel.specs.Start.{start, top_level}
use Rattle.mono_wheel.specs.Model.{Wheel, Timed, AllFit, Fits, timed_at, timed_after, Changed, CameOut, NothingDue}
use Rattle.mono_wheel.proofs.StartLemmas.{start-le}
use Rattle.mono_time.specs.Representation.{ArmedAnew, Rearmed, AllAhead}
use Rattle.mono_time.specs.KeyCalls.{Out, PolledEntry, ResetEntry, PutAt}
use Rattle.mono_time.specs.declared.entry.State.{State}
use Rattle.mono_time.specs.declared.entry.State.TheVariants.{Fresh, Unwatched, Armed, Elapsed}

pub all-fit : (wheel : Wheel) → AllAhead wheel → AllFit wheel
all-fit wheel ahead = λ key. by key (timed_at wheel key) refl
  where
    by : (key : ℕ) (v : Option Timed) → timed_at wheel key ≡ v → Fits wheel.elapsed v
    by key None is = tt
    by key (Some timed) is =
        let it = ahead key timed is in
        elim (cases_lt wheel.elapsed timed.registered) [
          | inl less ↦ inr (less, it.1)
          | inr not_less ↦ let here : timed.registered ≡ wheel.elapsed = omega (arith, not_less, it.0) in inl (here, it.2 here)
        ]

all-ahead : (wheel : Wheel) → AllFit wheel → AllAhead wheel
all-ahead wheel fits = λ key timed is. by timed (subst (Fits wheel.elapsed) is (fits key))
  where
    by : (timed : Timed) → Fits wheel.elapsed (Some timed) → (wheel.elapsed ≤ timed.registered) × (timed.registered ≤ timed.tick) × (timed.registered ≡ wheel.elapsed → timed.tick ≡ wheel.elapsed)
    by timed (inl pending) = (omega (arith, pending.0), omega (arith, pending.0, pending.1), λ here. pending.1)
    by timed (inr within) = (omega (arith, within.0), within.1, λ here. absurd (omega (arith, here, within.0)))

-- all keys and the clock stay
fits-same : (wheel left : Wheel) → AllFit wheel → ((key : ℕ) → timed_at left key ≡ timed_at wheel key) → left.elapsed ≡ wheel.elapsed → AllFit left
fits-same wheel left fits same clock = λ key. subst (λ e. Fits e (timed_at left key)) (sym clock) (subst (Fits wheel.elapsed) (sym (same key)) (fits key))

-- one key has other ticks, and the clock stays
fits-one : (wheel left : Wheel) (k : ℕ) → AllFit wheel → ((other : ℕ) → other ≢ k → timed_at left other ≡ timed_at wheel other) → left.elapsed ≡ wheel.elapsed → Fits wheel.elapsed (timed_at left k) → AllFit left
fits-one wheel left k fits others clock here = λ key. subst (λ e. Fits e (timed_at left key)) (sym clock) (elim (cases_eq key k) [
  | inl is ↦ subst (λ n. Fits wheel.elapsed (timed_at left n)) (sym is) here
  | inr apart ↦ subst (Fits wheel.elapsed) (sym (others key apart)) (fits key)
])

fits-out : (wheel left : Wheel) (k : ℕ) → AllFit wheel → Out wheel left k → AllFit left
fits-out wheel left k fits out = fits-one wheel left k fits out.others out.elapsed (subst (Fits wheel.elapsed) (sym out.gone) tt)

fits-anew : (wheel left : Wheel) (k tick : ℕ) → AllFit wheel → wheel.elapsed < tick → ArmedAnew wheel left k tick → AllFit left
fits-anew wheel left k tick fits ahead anew = fits-one wheel left k fits anew.others anew.elapsed (subst (Fits wheel.elapsed) (sym anew.here) (inr (ahead, omega arith)))

fits-rearmed : (wheel left : Wheel) (k tick : ℕ) → AllFit wheel → wheel.elapsed < tick → Rearmed wheel left k tick → AllFit left
fits-rearmed wheel left k tick fits ahead re = by re.how
  where
    later : Fits wheel.elapsed (Some re.timed) → re.timed.tick ≢ wheel.elapsed → re.timed.tick ≤ tick → Fits wheel.elapsed (Some record { tick = tick; registered = re.timed.registered })
    later (inl pending) not_due le = absurd (not_due pending.1)
    later (inr within) not_due le = inr (within.0, omega (arith, within.1, le))

    by : ((re.timed.tick ≢ wheel.elapsed) × (re.timed.tick ≤ tick) × Changed wheel left k (Some record { tick = tick; registered = re.timed.registered }))
        ⊎ (((re.timed.tick ≡ wheel.elapsed) ⊎ (tick < re.timed.tick)) × ArmedAnew wheel left k tick) → AllFit left
    by (inl (not_due, le, change)) =
        fits-one wheel left k fits change.others change.elapsed (subst (Fits wheel.elapsed) (sym change.here) (later (subst (Fits wheel.elapsed) re.was (fits k)) not_due le))
    by (inr (why, anew)) = fits-anew wheel left k tick fits ahead anew

module _ (wheel left : Wheel) (k greatest : ℕ) (fits : AllFit wheel) (behind : wheel.elapsed ≤ greatest) where
  fits-polled : (by : ℕ) (before after : State) (ready : Bool) → PolledEntry wheel left k greatest by before after ready → AllFit left
  fits-polled by (Fresh tick) after ready (inl (due, same, is, says)) = subst AllFit (sym same) fits
  fits-polled by (Fresh tick) after ready (inr (early, anew, is, says)) = fits-anew wheel left k tick fits (omega (arith, early, behind)) anew
  fits-polled by Unwatched after ready (same, is, says) = subst AllFit (sym same) fits
  fits-polled by (Armed task) after ready (same, is, says) = subst AllFit (sym same) fits
  fits-polled by Elapsed after ready (same, is, says) = subst AllFit (sym same) fits

  fits-put : (tick : ℕ) (before after : State) → greatest < tick → PutAt wheel left k tick before after → AllFit left
  fits-put tick (Fresh t) after early (is, anew) = fits-anew wheel left k tick fits (omega (arith, early, behind)) anew
  fits-put tick Unwatched after early (is, re) = fits-rearmed wheel left k tick fits (omega (arith, early, behind)) re
  fits-put tick (Armed task) after early (is, re) = fits-rearmed wheel left k tick fits (omega (arith, early, behind)) re
  fits-put tick Elapsed after early (is, anew) = fits-anew wheel left k tick fits (omega (arith, early, behind)) anew

  fits-reset : (tick : ℕ) (before after : State) (woken : Option ℕ) → ResetEntry wheel left k greatest tick before after woken → AllFit left
  fits-reset tick before after woken (inl (due, is, says, out)) = fits-out wheel left k fits out
  fits-reset tick before after woken (inr (early, says, put)) = fits-put tick before after early put

abbrev both : ℕ → Timed
both tick = record { tick = tick; registered = tick }

-- a key that is not passed fits after the clock moved
fits-after : (old new : ℕ) (timed : Option Timed) → old ≤ new → Fits old timed → ((t : Timed) → timed ≡ Some t → new ≤ t.tick) → Fits new (timed_after old new timed)
fits-after old new None later fit ahead = tt
fits-after old new (Some t) later fit ahead = by (nat_le (start top_level old t.registered) new) refl
  where
    within : new ≤ t.tick
    within = ahead t refl

    stays : nat_le (start top_level old t.registered) new ≡ false → Fits old (Some t) → Fits new (Some t)
    stays test (inl pending) = inl (omega (arith, pending.0, pending.1, within, later), omega (arith, pending.1, within, later))
    stays test (inr fit) = inr (omega (arith, leb-false (start top_level old t.registered) new test, start-le top_level old t.registered fit.0), fit.1)

    by : (b : Bool) → nat_le (start top_level old t.registered) new ≡ b → Fits new (Some (cond b (both t.tick) t))
    by true test = elim (cases_lt new t.tick) [
      | inl less ↦ inr (less, omega arith)
      | inr not_less ↦ inl (omega (arith, not_less, within), omega (arith, not_less, within))
    ]
    by false test = stays test fit

fits-none : (wheel left : Wheel) (now : ℕ) → AllFit wheel → wheel.elapsed ≤ now → NothingDue wheel left now → AllFit left
fits-none wheel left now fits later nothing = λ key.
    subst (λ e. Fits e (timed_at left key)) (sym nothing.elapsed) (subst (Fits now) (sym (nothing.ticks key))
    (fits-after wheel.elapsed now (timed_at wheel key) later (fits key) (λ t is. elim (cases_lt now t.tick) [
      | inl ahead ↦ omega (arith, ahead)
      | inr due ↦ absurd (nothing.none key t.tick (t, is, refl, due))
    ])))

-- a key that came out was ahead
pub out-later : (wheel left : Wheel) (now k : ℕ) → AllFit wheel → CameOut wheel left now k → wheel.elapsed ≤ left.elapsed
out-later wheel left now k fits came = elim (subst (Fits wheel.elapsed) came.due.1 (fits k)) [
  | inl pending ↦ omega (arith, pending.1, came.due.2)
  | inr ahead ↦ omega (arith, ahead.0, ahead.1, came.due.2)
]

fits-came : (wheel left : Wheel) (now k : ℕ) → AllFit wheel → CameOut wheel left now k → AllFit left
fits-came wheel left now k fits came = λ key. elim (cases_eq key k) [
  | inl is ↦ subst (λ n. Fits left.elapsed (timed_at left n)) (sym is) (subst (Fits left.elapsed) (sym came.out) tt)
  | inr apart ↦ subst (Fits left.elapsed) (sym (came.others key apart))
      (fits-after wheel.elapsed left.elapsed (timed_at wheel key) (out-later wheel left now k fits came) (fits key) (λ t is. elim (cases_lt now t.tick) [
        | inl ahead ↦ omega (arith, ahead, came.due.3)
        | inr due ↦ came.least key t.tick (t, is, refl, due)
      ]))
]

-- The same, as timers keep it.
module _ (wheel left : Wheel) (ahead : AllAhead wheel) where
  pub ahead-same : ((key : ℕ) → timed_at left key ≡ timed_at wheel key) → left.elapsed ≡ wheel.elapsed → AllAhead left
  ahead-same same clock = all-ahead left (fits-same wheel left (all-fit wheel ahead) same clock)

  pub ahead-out : (k : ℕ) → Out wheel left k → AllAhead left
  ahead-out k out = all-ahead left (fits-out wheel left k (all-fit wheel ahead) out)

  pub ahead-polled : (k greatest : ℕ) → wheel.elapsed ≤ greatest → (by : ℕ) (before after : State) (ready : Bool) → PolledEntry wheel left k greatest by before after ready → AllAhead left
  ahead-polled k greatest behind by before after ready polled = all-ahead left (fits-polled wheel left k greatest (all-fit wheel ahead) behind by before after ready polled)

  pub ahead-reset : (k greatest : ℕ) → wheel.elapsed ≤ greatest → (tick : ℕ) (before after : State) (woken : Option ℕ) → ResetEntry wheel left k greatest tick before after woken → AllAhead left
  ahead-reset k greatest behind tick before after woken reset = all-ahead left (fits-reset wheel left k greatest (all-fit wheel ahead) behind tick before after woken reset)

  pub ahead-none : (now : ℕ) → wheel.elapsed ≤ now → NothingDue wheel left now → AllAhead left
  ahead-none now later nothing = all-ahead left (fits-none wheel left now (all-fit wheel ahead) later nothing)

  pub ahead-came : (now k : ℕ) → CameOut wheel left now k → AllAhead left
  ahead-came now k came = all-ahead left (fits-came wheel left now k (all-fit wheel ahead) came)
