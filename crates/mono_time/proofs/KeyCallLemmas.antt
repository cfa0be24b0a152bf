-- What a call on the sleep at a key leaves.
use Rattle.std.proofs.Common.{◌≡◌, ◌≢◌, ◌<◌, ◌≤◌, ◌⊎◌, ◌^◌, inl, inr, ℕ, true, false, Bool, Some, None, refl, ap, sym, subst, ◌∙◌, arith}
use Rattle.std.specs.Prelude.{Option, is_some, nat_le}
use Rattle.std.proofs.lemmas.Bool.{le-leb, lt-leb}
use Rattle.mono_wheel.specs.Model.{Wheel, Timed, timed_at, Changed}
use Rattle.mono_time.specs.Sleeps.{Kept, armed, elapsed, polled_kept, is_kept_ready, at_tick, kept_waker, woken_by_reset}
use Rattle.mono_time.specs.Entries.{is_armed_state, armed_with, fresh_tick, tick_in, kept_in, waker_in_state}
use Rattle.mono_time.specs.Representation.{KeepsBut, ArmedAnew, Rearmed}
use Rattle.mono_time.specs.KeyCalls.{PolledEntry, ResetEntry, PutAt, Out}
use Rattle.mono_time.specs.declared.entry.State.{State}
use Rattle.mono_time.specs.declared.entry.State.TheVariants.{Fresh, Unwatched, Armed, Elapsed}
use Rattle.mono_time.proofs.KeyLemmas.{keeps-same, keeps-changed}

-- the sleep at the key is in another state, and is another sleep now
pub record Turned (wheel left : Wheel) (k : ℕ) (before after : State) (kept : Kept) : Type 0 where
  pub keeps : KeepsBut wheel left k
  pub others : (other : ℕ) → other ≢ k → timed_at left other ≡ timed_at wheel other
  pub is_in : is_some (timed_at left k) ≡ is_armed_state after
  pub fresh_below : fresh_tick after < 2 ^ 63
  pub same_elapsed : left.elapsed ≡ wheel.elapsed
  pub now_kept : kept_in (timed_at left k) after ≡ kept

not_in : (timed : Option Timed) → is_some timed ≡ false → timed ≡ None
not_in None is = refl
not_in (Some t) is = absurd (true-false is)
  where
    true-false : true ≡ false → ⊥
    true-false e = cc

is-armed : (waker : Option ℕ) → true ≡ is_armed_state (armed_with waker)
is-armed None = refl
is-armed (Some task) = refl

no-tick : (waker : Option ℕ) → fresh_tick (armed_with waker) < 2 ^ 63
no-tick None = omega arith
no-tick (Some task) = omega arith

pub kept-armed : (timed : Option Timed) (waker : Option ℕ) → kept_in timed (armed_with waker) ≡ armed (tick_in timed) waker
kept-armed timed None = refl
kept-armed timed (Some task) = refl

module _ (wheel : Wheel) (k greatest : ℕ) where
  -- the sleep has elapsed, and is not in the wheel
  turned-elapsed : (left : Wheel) (before : State) → Out wheel left k → (kept : Kept) → elapsed ≡ kept → Turned wheel left k before Elapsed kept
  turned-elapsed left before out kept is = record {
    keeps = out.keeps;
    others = out.others;
    is_in = ap is_some out.gone;
    fresh_below = omega arith;
    same_elapsed = out.elapsed;
    now_kept = is;
  }

  turned-anew : (left : Wheel) (before : State) (tick : ℕ) (waker : Option ℕ) → ArmedAnew wheel left k tick → (kept : Kept) → armed tick waker ≡ kept → Turned wheel left k before (armed_with waker) kept
  turned-anew left before tick waker anew kept is = record {
    keeps = anew.keeps;
    others = anew.others;
    is_in = ap is_some anew.here ∙ is-armed waker;
    fresh_below = no-tick waker;
    same_elapsed = anew.elapsed;
    now_kept = kept-armed (timed_at left k) waker ∙ ap (λ t. armed (tick_in t) waker) anew.here ∙ is;
  }

  out-same : is_some (timed_at wheel k) ≡ false → Out wheel wheel k
  out-same is = record { gone = not_in (timed_at wheel k) is; others = λ other apart. refl; keeps = keeps-same wheel k; elapsed = refl }

  polled-fresh : (left : Wheel) (by tick : ℕ) (after : State) (ready : Bool) → PolledEntry wheel left k greatest by (Fresh tick) after ready → is_some (timed_at wheel k) ≡ false
      → Turned wheel left k (Fresh tick) after (at_tick greatest tick (Some by)) × (ready ≡ nat_le tick greatest)
  polled-fresh left by tick after ready (inl (due, same, is, says)) out =
      let test : nat_le tick greatest ≡ true = le-leb tick greatest due in
      let done : Turned wheel wheel k (Fresh tick) Elapsed (at_tick greatest tick (Some by)) = turned-elapsed wheel (Fresh tick) (out-same out) (at_tick greatest tick (Some by)) (rw test refl) in
      (subst (λ w. Turned wheel w k (Fresh tick) after (at_tick greatest tick (Some by))) (sym same) (subst (λ x. Turned wheel wheel k (Fresh tick) x (at_tick greatest tick (Some by))) (sym is) done), says ∙ sym test)
  polled-fresh left by tick after ready (inr (early, anew, is, says)) out =
      let test : nat_le tick greatest ≡ false = lt-leb tick greatest early in
      let done : Turned wheel left k (Fresh tick) (Armed by) (at_tick greatest tick (Some by)) = turned-anew left (Fresh tick) tick (Some by) anew (at_tick greatest tick (Some by)) (rw test refl) in
      (subst (λ x. Turned wheel left k (Fresh tick) x (at_tick greatest tick (Some by))) (sym is) done, says ∙ sym test)

  pub turned-polled : (left : Wheel) (by : ℕ) (before after : State) (ready : Bool) → PolledEntry wheel left k greatest by before after ready → is_some (timed_at wheel k) ≡ is_armed_state before
      → Turned wheel left k before after (polled_kept greatest by (kept_in (timed_at wheel k) before)) × (ready ≡ is_kept_ready greatest (kept_in (timed_at wheel k) before))
  turned-polled left by (Fresh tick) after ready polled is_in = polled-fresh left by tick after ready polled is_in
  turned-polled left by Unwatched after ready (same, is, says) is_in = (
    record {
      keeps = subst (λ w. KeepsBut wheel w k) (sym same) (keeps-same wheel k);
      others = λ other apart. ap (λ w. timed_at w other) same;
      is_in = ap (λ w. is_some (timed_at w k)) same ∙ is_in ∙ sym (ap is_armed_state is);
      fresh_below = subst (λ x. fresh_tick x < 2 ^ 63) (sym is) (omega arith);
      same_elapsed = ap (λ w. w.elapsed) same;
      now_kept = ap (λ w. kept_in (timed_at w k) after) same ∙ ap (kept_in (timed_at wheel k)) is;
    },
    says,
  )
  turned-polled left by (Armed task) after ready (same, is, says) is_in = (
    record {
      keeps = subst (λ w. KeepsBut wheel w k) (sym same) (keeps-same wheel k);
      others = λ other apart. ap (λ w. timed_at w other) same;
      is_in = ap (λ w. is_some (timed_at w k)) same ∙ is_in ∙ sym (ap is_armed_state is);
      fresh_below = subst (λ x. fresh_tick x < 2 ^ 63) (sym is) (omega arith);
      same_elapsed = ap (λ w. w.elapsed) same;
      now_kept = ap (λ w. kept_in (timed_at w k) after) same ∙ ap (kept_in (timed_at wheel k)) is;
    },
    says,
  )
  turned-polled left by Elapsed after ready (same, is, says) is_in = (
    subst (λ w. Turned wheel w k Elapsed after elapsed) (sym same) (subst (λ x. Turned wheel wheel k Elapsed x elapsed) (sym is) (turned-elapsed wheel Elapsed (out-same is_in) elapsed refl)),
    says,
  )

  turned-rearmed : (left : Wheel) (before : State) (tick : ℕ) (waker : Option ℕ) → Rearmed wheel left k tick → (kept : Kept) → armed tick waker ≡ kept → Turned wheel left k before (armed_with waker) kept
  turned-rearmed left before tick waker re kept is = by_case re.how
    where
      by_case : ((re.timed.tick ≢ wheel.elapsed) × (re.timed.tick ≤ tick) × Changed wheel left k (Some record { tick = tick; registered = re.timed.registered }))
          ⊎ (((re.timed.tick ≡ wheel.elapsed) ⊎ (tick < re.timed.tick)) × ArmedAnew wheel left k tick) → Turned wheel left k before (armed_with waker) kept
      by_case (inl (ahead, later, change)) = record {
        keeps = keeps-changed wheel left k _ change;
        others = change.others;
        is_in = ap is_some change.here ∙ is-armed waker;
        fresh_below = no-tick waker;
        same_elapsed = change.elapsed;
        now_kept = kept-armed (timed_at left k) waker ∙ ap (λ t. armed (tick_in t) waker) change.here ∙ is;
      }
      by_case (inr (why, anew)) = turned-anew left before tick waker anew kept is

  waker-kept : (timed : Option Timed) (state : State) → waker_in_state state ≡ kept_waker (kept_in timed state)
  waker-kept timed (Fresh tick) = refl
  waker-kept timed Unwatched = refl
  waker-kept timed (Armed task) = refl
  waker-kept timed Elapsed = refl

  put-turned : (left : Wheel) (tick : ℕ) (before after : State) → PutAt wheel left k tick before after → (kept : Kept) → armed tick (waker_in_state before) ≡ kept → Turned wheel left k before after kept
  put-turned left tick (Fresh t) after (is, anew) kept at = subst (λ x. Turned wheel left k (Fresh t) x kept) (sym is) (turned-anew left (Fresh t) tick None anew kept at)
  put-turned left tick Unwatched after (is, re) kept at = subst (λ x. Turned wheel left k Unwatched x kept) (sym is) (turned-rearmed left Unwatched tick None re kept at)
  put-turned left tick (Armed task) after (is, re) kept at = subst (λ x. Turned wheel left k (Armed task) x kept) (sym is) (turned-rearmed left (Armed task) tick (Some task) re kept at)
  put-turned left tick Elapsed after (is, anew) kept at = subst (λ x. Turned wheel left k Elapsed x kept) (sym is) (turned-anew left Elapsed tick None anew kept at)

  pub turned-reset : (left : Wheel) (tick : ℕ) (before after : State) (woken : Option ℕ) → ResetEntry wheel left k greatest tick before after woken
      → Turned wheel left k before after (at_tick greatest tick (kept_waker (kept_in (timed_at wheel k) before))) × (woken ≡ woken_by_reset greatest tick (kept_in (timed_at wheel k) before))
  turned-reset left tick before after woken (inl (due, is, says, out)) =
      let test : nat_le tick greatest ≡ true = le-leb tick greatest due in
      let goal : Kept = at_tick greatest tick (kept_waker (kept_in (timed_at wheel k) before)) in (
        subst (λ x. Turned wheel left k before x goal) (sym is) (turned-elapsed left before out goal (rw test refl)),
        says ∙ waker-kept (timed_at wheel k) before ∙ rw test refl,
      )
  turned-reset left tick before after woken (inr (early, says, put)) =
      let test : nat_le tick greatest ≡ false = lt-leb tick greatest early in
      let goal : Kept = at_tick greatest tick (kept_waker (kept_in (timed_at wheel k) before)) in (
        put-turned left tick before after put goal (rw test (ap (armed tick) (waker-kept (timed_at wheel k) before))),
        says ∙ rw test refl,
      )
