-- The registered ticks of sleeps during a clock step: two moves of the clock in a row are one.
use Rattle.std.proofs.Common.{◌≡◌, ◌<◌, ◌≤◌, ◌⊎◌, inl, inr, ℕ, true, false, Bool, cond, List, length, Some, None, refl, ap, sym, subst, ◌∙◌, arith}
use Rattle.std.specs.Prelude.{Option, slice_get, is_some, nat_le}
use Rattle.std.proofs.lemmas.Bool.{le-leb, lt-leb, leb-true, leb-false, cases_eq, cases_lt}
use Rattle.std.proofs.lemmas.List.{get_or-set_other, get_or-set_same, get_or_past}
use Rattle.mono_model.specs.Table.{Table, value_at, with_value}
use Rattle.mono_wheel.specs.Start.{start, top_level}
use Rattle.mono_wheel.specs.Model.{Wheel, Timed, timed_at, Fits}
use Rattle.mono_wheel.proofs.StartLemmas.{start-same, start-above}
use Rattle.mono_time.specs.Sleeps.{Kept, fresh, armed, elapsed, IsNoneArmedUpTo}
use Rattle.mono_time.specs.Entries.{is_armed_state, kept_in, kept_of, is_armed_entry}
use Rattle.mono_time.specs.Representation.{Holds, kept_at, kept_under}
use Rattle.mono_time.specs.SlotRegistration.{registered_in, registered_under, registered_at, moved_registered, stepped_registered, IsRegistered}
use Rattle.mono_time.specs.Timers.{sleeps_of, elapsed_tick, registered_of}
use Rattle.mono_time.specs.declared.entry.Entry.{Entry}
use Rattle.mono_time.specs.declared.entry.State.{State}
use Rattle.mono_time.specs.declared.entry.State.TheVariants.{Fresh, Unwatched, Armed, Elapsed}
use Rattle.mono_time.specs.declared.timers.Timers.{Timers}
use Rattle.mono_time.proofs.FitLemmas.{all-fit}
use Rattle.mono_time.proofs.TimersWriteLemmas.{value-table}

not-in : (timed : Option Timed) → is_some timed ≡ false → registered_in timed ≡ None
not-in None is = refl
not-in (Some t) is = absurd (cc)

-- Each key in the wheel belongs to an armed sleep.
module _ (wheel : Wheel) (keys : Table ℕ) (entries : List Entry) (greatest live : ℕ) (holds : Holds wheel keys entries greatest live) where
  by-timed : (k : ℕ) (timed : Option Timed) (state : State) → timed_at wheel k ≡ timed → is_some timed ≡ is_armed_state state → IsRegistered wheel.elapsed (Some (kept_in timed state)) (registered_in timed)
  by-timed k timed (Fresh tick) at is = not-in timed is
  by-timed k None Unwatched at is = cc
  by-timed k None (Armed task) at is = cc
  by-timed k (Some t) Unwatched at is = subst (Fits wheel.elapsed) at (all-fit wheel holds.ahead k)
  by-timed k (Some t) (Armed task) at is = subst (Fits wheel.elapsed) at (all-fit wheel holds.ahead k)
  by-timed k timed Elapsed at is = not-in timed is

  by-entry : (s k : ℕ) (e : Option Entry) → value_at keys s ≡ Some k → is_some (timed_at wheel k) ≡ is_armed_entry e → IsRegistered wheel.elapsed (kept_of (timed_at wheel k) e) (registered_in (timed_at wheel k))
  by-entry s k None at is = not-in (timed_at wheel k) is
  by-entry s k (Some e) at is = by-timed k (timed_at wheel k) e.state refl is

  pub is-registered : (s : ℕ) → IsRegistered wheel.elapsed (kept_at wheel keys entries s) (registered_at wheel keys s)
  is-registered s = by (value_at keys s) refl
    where
      by : (v : Option ℕ) → value_at keys s ≡ v → IsRegistered wheel.elapsed (kept_under wheel entries v) (registered_under wheel v)
      by None at = refl
      by (Some k) at = by-entry s k (slice_get entries k) at (holds.is_in s k at)

-- two moves in a row are one
cond-same : (b : Bool) (n : ℕ) → cond b n n ≡ n
cond-same true n = refl
cond-same false n = refl

picks : (b : Bool) (t r : ℕ) → t ≡ r → cond b t r ≡ r
picks true t r is = is
picks false t r is = refl

module _ (first mid last : ℕ) (early : first ≤ mid) (late : mid ≤ last) where
  ahead-twice : (tick r : ℕ) → first < r → (b : Bool) → nat_le (start top_level first r) mid ≡ b
      → cond (nat_le (start top_level mid (cond b tick r)) last) tick (cond b tick r) ≡ cond (nat_le (start top_level first r) last) tick r
  ahead-twice tick r ahead true test =
      let reached : nat_le (start top_level first r) last ≡ true = le-leb _ _ (omega (arith, leb-true (start top_level first r) mid test, late)) in
      cond-same (nat_le (start top_level mid tick) last) tick ∙ sym (ap (λ b. cond b tick r) reached)
  ahead-twice tick r ahead false test =
      ap (λ n. cond (nat_le n last) tick r) (start-same top_level first mid r ahead early (leb-false (start top_level first r) mid test))

  pub moved-twice : (v : Option Kept) (r : Option ℕ) → IsRegistered first v r → moved_registered mid last v (moved_registered first mid v r) ≡ moved_registered first last v r
  moved-twice None r is = refl
  moved-twice (Some (fresh tick)) r is = refl
  moved-twice (Some (armed tick waker)) None is = refl
  moved-twice (Some (armed tick waker)) (Some r) (inl (here, now)) =
      let same : tick ≡ r = now ∙ sym here in
      let b = nat_le (start top_level first r) mid in
      ap Some (picks (nat_le (start top_level mid (cond b tick r)) last) tick (cond b tick r) (same ∙ sym (picks b tick r same)) ∙ picks b tick r same ∙ sym (picks (nat_le (start top_level first r) last) tick r same))
  moved-twice (Some (armed tick waker)) (Some r) (inr (ahead, within)) = ap Some (ahead-twice tick r ahead (nat_le (start top_level first r) mid) refl)
  moved-twice (Some elapsed) r is = refl

-- since the start of the step the sleep has fired, or it is as it was and its registration moved with the clock
abbrev pub HasPassed : ℕ → ℕ → Option Kept → Option Kept → Option ℕ → Option ℕ → Type 0
HasPassed old now was is before after =
    ((tick : ℕ) × ((waker : Option ℕ) × (was ≡ Some (armed tick waker)) × (tick ≤ now) × (is ≡ Some elapsed) × (after ≡ None)))
    ⊎ ((is ≡ was) × (after ≡ moved_registered old now was before))

pub record Passed (old now : Timers) : Type 0 where
  pub later : elapsed_tick old ≤ elapsed_tick now
  pub each : (s : ℕ) → HasPassed (elapsed_tick old) (elapsed_tick now) (value_at (sleeps_of old).table s) (value_at (sleeps_of now).table s) (registered_of old s) (registered_of now s)

abbrev pub AreRegistered : Timers → Type 0
AreRegistered timers = (s : ℕ) → IsRegistered (elapsed_tick timers) (value_at (sleeps_of timers).table s) (registered_of timers s)

-- The timers register each sleep while it is armed, and no other.
pub all-registered : (timers : Timers) → AreRegistered timers
all-registered timers = λ s.
    subst (λ v. IsRegistered timers.wheel.elapsed v (registered_at timers.wheel timers.keys s)) (sym (value-table timers.wheel timers.keys timers.entries.items s))
    (is-registered timers.wheel timers.keys timers.entries.items timers.greatest timers.live timers.holds s)

stays-put : (e : ℕ) (v : Option Kept) (r : Option ℕ) → moved_registered e e v r ≡ r
stays-put e None r = refl
stays-put e (Some (fresh tick)) r = refl
stays-put e (Some (armed tick waker)) None = refl
stays-put e (Some (armed tick waker)) (Some r) = ap (λ b. Some (cond b tick r)) (lt-leb (start top_level e r) e (start-above top_level e r))
stays-put e (Some elapsed) r = refl

pub none-passed : (old : Timers) → Passed old old
none-passed old = record {
  later = omega arith;
  each = λ s. inr (refl, sym (stays-put (elapsed_tick old) (value_at (sleeps_of old).table s) (registered_of old s)));
}

some-same : (a b : Kept) → Some a ≡ Some b → a ≡ b
some-same a b e = cc

elapsed-armed : (tick : ℕ) (waker : Option ℕ) → Some elapsed ≡ Some (armed tick waker) → ⊥
elapsed-armed tick waker e = cc

none-armed : (tick : ℕ) (waker : Option ℕ) → None ≡ Some (armed tick waker) → ⊥
none-armed tick waker e = cc

module _ (old now next : Timers) (so : Passed old now) (later : elapsed_tick now ≤ elapsed_tick next) where
  -- a sleep that the call left as it was
  kept-on : (s : ℕ) → registered_of next s ≡ moved_registered (elapsed_tick now) (elapsed_tick next) (value_at (sleeps_of now).table s) (registered_of now s) → value_at (sleeps_of next).table s ≡ value_at (sleeps_of now).table s
      → HasPassed (elapsed_tick old) (elapsed_tick next) (value_at (sleeps_of old).table s) (value_at (sleeps_of next).table s) (registered_of old s) (registered_of next s)
  kept-on s moved same = by (so.each s)
    where
      by : HasPassed (elapsed_tick old) (elapsed_tick now) (value_at (sleeps_of old).table s) (value_at (sleeps_of now).table s) (registered_of old s) (registered_of now s)
          → HasPassed (elapsed_tick old) (elapsed_tick next) (value_at (sleeps_of old).table s) (value_at (sleeps_of next).table s) (registered_of old s) (registered_of next s)
      by (inl (tick, (waker, was, due, gone, out))) =
          inl (tick, (waker, was, omega (arith, due, later), same ∙ gone, moved ∙ ap (λ v. moved_registered (elapsed_tick now) (elapsed_tick next) v (registered_of now s)) gone ∙ out))
      by (inr (stays, on)) =
          inr (
            same ∙ stays,
            moved ∙ ap (λ v. moved_registered (elapsed_tick now) (elapsed_tick next) v (registered_of now s)) stays
                ∙ ap (moved_registered (elapsed_tick now) (elapsed_tick next) (value_at (sleeps_of old).table s)) on
                ∙ moved-twice (elapsed_tick old) (elapsed_tick now) (elapsed_tick next) so.later later (value_at (sleeps_of old).table s) (registered_of old s) (all-registered old s),
          )

  -- the sleep that fired
  fired-now : (s : ℕ) (waker : Option ℕ) → value_at (sleeps_of now).table s ≡ Some (armed (elapsed_tick next) waker) → value_at (sleeps_of next).table s ≡ Some elapsed → registered_of next s ≡ None
      → HasPassed (elapsed_tick old) (elapsed_tick next) (value_at (sleeps_of old).table s) (value_at (sleeps_of next).table s) (registered_of old s) (registered_of next s)
  fired-now s waker was is out = by (so.each s)
    where
      by : HasPassed (elapsed_tick old) (elapsed_tick now) (value_at (sleeps_of old).table s) (value_at (sleeps_of now).table s) (registered_of old s) (registered_of now s)
          → HasPassed (elapsed_tick old) (elapsed_tick next) (value_at (sleeps_of old).table s) (value_at (sleeps_of next).table s) (registered_of old s) (registered_of next s)
      by (inl (tick, (other, before, due, gone, out))) = absurd (elapsed-armed (elapsed_tick next) waker (sym gone ∙ was))
      by (inr (stays, on)) = inl (elapsed_tick next, (waker, sym stays ∙ was, omega arith, is, out))

  -- one more sleep fired
  pub passed-some : (s : ℕ) (waker : Option ℕ) → value_at (sleeps_of now).table s ≡ Some (armed (elapsed_tick next) waker) → (sleeps_of next).table ≡ with_value (sleeps_of now).table s elapsed → registered_of next s ≡ None
      → ((q : ℕ) → value_at (sleeps_of next).table q ≡ value_at (sleeps_of now).table q → registered_of next q ≡ moved_registered (elapsed_tick now) (elapsed_tick next) (value_at (sleeps_of now).table q) (registered_of now q)) → Passed old next
  passed-some s waker was table out moved = record {
    later = omega (arith, so.later, later);
    each = λ q. elim (cases_eq q s) [
      | inl here ↦ subst (λ n. HasPassed (elapsed_tick old) (elapsed_tick next) (value_at (sleeps_of old).table n) (value_at (sleeps_of next).table n) (registered_of old n) (registered_of next n)) (sym here) (fired-now s waker was written out)
      | inr apart ↦
          let same : value_at (sleeps_of next).table q ≡ value_at (sleeps_of now).table q = ap (λ t. value_at t q) table ∙ get_or-set_other (sleeps_of now).table s q (Some elapsed) None apart in
          kept-on q (moved q same) same
    ];
  }
    where
      written : value_at (sleeps_of next).table s ≡ Some elapsed
      written = elim (cases_lt s (length (sleeps_of now).table)) [
        | inl inside ↦ ap (λ t. value_at t s) table ∙ get_or-set_same (sleeps_of now).table s (Some elapsed) None inside
        | inr past ↦ absurd (none-armed (elapsed_tick next) waker (sym (get_or_past (sleeps_of now).table s None past) ∙ was))
      ]

  -- no further sleep was due
  pub passed-none : (sleeps_of next).table ≡ (sleeps_of now).table
      → ((q : ℕ) → value_at (sleeps_of next).table q ≡ value_at (sleeps_of now).table q → registered_of next q ≡ moved_registered (elapsed_tick now) (elapsed_tick next) (value_at (sleeps_of now).table q) (registered_of now q)) → Passed old next
  passed-none table moved = record {
    later = omega (arith, so.later, later);
    each = λ q. let same : value_at (sleeps_of next).table q ≡ value_at (sleeps_of now).table q = ap (λ t. value_at t q) table in kept-on q (moved q same) same;
  }

-- at the end of the step
module _ (old new : Timers) (so : Passed old new) (none : IsNoneArmedUpTo (sleeps_of new)) (gone : elapsed_tick new ≡ (sleeps_of new).greatest) where
  late-one : (v : Option Kept) (r : Option ℕ) → ((tick : ℕ) (waker : Option ℕ) → v ≡ Some (armed tick waker) → elapsed_tick new < tick) → moved_registered (elapsed_tick old) (elapsed_tick new) v r ≡ stepped_registered (elapsed_tick old) (elapsed_tick new) v r
  late-one None r late = refl
  late-one (Some (fresh tick)) r late = refl
  late-one (Some (armed tick waker)) r late = rw (lt-leb tick (elapsed_tick new) (late tick waker refl)) refl
  late-one (Some elapsed) r late = refl

  pub all-passed : (s : ℕ) → registered_of new s ≡ stepped_registered (elapsed_tick old) (elapsed_tick new) (value_at (sleeps_of old).table s) (registered_of old s)
  all-passed s = by (so.each s)
    where
      by : HasPassed (elapsed_tick old) (elapsed_tick new) (value_at (sleeps_of old).table s) (value_at (sleeps_of new).table s) (registered_of old s) (registered_of new s)
          → registered_of new s ≡ stepped_registered (elapsed_tick old) (elapsed_tick new) (value_at (sleeps_of old).table s) (registered_of old s)
      by (inl (tick, (waker, was, due, is, out))) = out ∙ rw (was, le-leb tick (elapsed_tick new) due) refl
      by (inr (same, moved)) =
          moved ∙ late-one (value_at (sleeps_of old).table s) (registered_of old s) (λ tick waker is. omega (arith, gone, none s tick waker (same ∙ is)))
