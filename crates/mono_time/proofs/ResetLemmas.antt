-- A reset of a sleep of the machine.
use Rattle.std.proofs.Common.{◌≡◌, ◌≢◌, ◌<◌, ◌≤◌, ◌⊎◌, inl, inr, ℕ, true, false, Bool, List, set, Some, None, Ok, refl, ap, sym, subst, ◌∙◌, arith}
use Rattle.std.specs.Prelude.{Option, slice_get, nat_le, nat_lt, ◌||◌, Result}
use Rattle.std.proofs.lemmas.Bool.{le-leb, lt-leb, lt-ltb, le-ltb, cases_lt}
use Rattle.mono_model.specs.Ticks.{up}
use Rattle.mono_model.specs.Table.{Table, value_at}
use Rattle.mono_model.specs.Sleeps as model
use Rattle.mono_model.specs.Sleeps.{Sleeps, Arming, armed_later, armed_above, after_arming, woken_by_arming}
use Rattle.mono_wheel.specs.Model.{Wheel, Timed, timed_at, Changed}
use Rattle.mono_time.specs.Sleeps.{armed, elapsed, at_tick, kept_waker}
use Rattle.mono_model.specs.SleepActs as machine
use Rattle.mono_time.specs.Entries.{kept_in, tick_in, waker_in_state}
use Rattle.mono_time.specs.Representation.{Holds, ArmedAnew, Rearmed}
use Rattle.mono_time.specs.Refinement.{Standing, seen}
use Rattle.mono_time.specs.KeyCalls.{ResetEntry, PutAt}
use Rattle.mono_time.specs.declared.entry.Entry.{Entry}
use Rattle.mono_time.specs.declared.entry.State.{State}
use Rattle.mono_time.specs.declared.entry.State.TheVariants.{Fresh, Unwatched, Armed, Elapsed}
use Rattle.mono_model.specs.declared.error.Error.{Error}
use Rattle.mono_time.proofs.RefinementLemmas.{sleep_there}
use Rattle.mono_time.proofs.KeyCallLemmas.{Turned, turned-reset}
use Rattle.mono_time.proofs.MachineSleepLemmas.{stands-unarmed, stands-moved, stands-anew, stands-extended}
use Rattle.mono_time.proofs.TimersWriteLemmas.{kept-there}

abbrev pub answered : Option ℕ → Result (Option ℕ) Error
answered woken = Ok woken

armed_ticks : (t u : ℕ) (v w : Option ℕ) → armed t v ≡ armed u w → t ≡ u
armed_ticks t u v w e = cc

armed_wakers : (t u : ℕ) (v w : Option ℕ) → armed t v ≡ armed u w → v ≡ w
armed_wakers t u v w e = cc

elapsed-armed : (a : Arming) → model.elapsed ≡ model.armed a → ⊥
elapsed-armed a e = cc

or-true : (b : Bool) → (b || true) ≡ true
or-true true = refl
or-true false = refl

or-false : (b : Bool) → (b || false) ≡ b
or-false true = refl
or-false false = refl

waker-seen : (sleep : model.Sleep) → model.waker_of sleep ≡ kept_waker (seen sleep)
waker-seen (model.fresh n) = refl
waker-seen (model.armed a) = refl
waker-seen model.elapsed = refl

waker-in : (timed : Option Timed) (state : State) → waker_in_state state ≡ kept_waker (kept_in timed state)
waker-in timed (Fresh tick) = refl
waker-in timed Unwatched = refl
waker-in timed (Armed task) = refl
waker-in timed Elapsed = refl

module _ (wheel left : Wheel) (keys : Table ℕ) (entries : List Entry) (greatest live limit : ℕ) (holds : Holds wheel keys entries greatest live)
    (s k : ℕ) (e f : Entry) (at : value_at keys s ≡ Some k) (was : slice_get entries k ≡ Some e) (same : f.sleep ≡ e.sleep) (tick : ℕ) (woken : Option ℕ)
    (m : Sleeps) (st : Standing wheel keys entries greatest limit m) where
  abbrev Left : Sleeps → Type 0
  Left after = Standing left keys (set entries k f) greatest limit after

  -- armed at the tick, with this waker
  abbrev Kept_with : Option ℕ → Type 0
  Kept_with waker = Turned wheel left k e.state f.state (armed tick waker)

  later : (a : Arming) → value_at m.table s ≡ Some (model.armed a) → Kept_with a.waker → (a.tick < tick) ⊎ (tick ≤ a.tick) → (timed : Timed) → timed_at wheel k ≡ Some timed → timed.tick ≡ a.tick → a.tick ≤ tick
      → Changed wheel left k (Some record { tick = tick; registered = timed.registered }) → Left (armed_later m s tick a)
  later a at_m turned (inl less) timed is_timed same_tick le change =
      let more : nat_lt a.tick tick ≡ true = lt-ltb a.tick tick less in
      stands-moved wheel left keys entries greatest live limit holds s k e f at was same _ turned m st a _ at_m refl (ap (λ b. a.is_moved || b) more ∙ or-true a.is_moved) refl
  later a at_m turned (inr not_less) timed is_timed same_tick le change =
      let more : nat_lt a.tick tick ≡ false = le-ltb a.tick tick not_less in
      let one : tick ≡ timed.tick = omega (arith, le, not_less, same_tick) in
      let stays : Changed wheel left k (Some timed) = subst (λ t. Changed wheel left k (Some record { tick = t; registered = timed.registered })) one change in
      stands-extended wheel left keys entries greatest live limit holds s k e f at was same _ turned m st a _ timed at_m refl (omega (arith, le, not_less)) (ap (λ b. a.is_moved || b) more ∙ or-false a.is_moved) is_timed stays refl

  rearmed : (a : Arming) → value_at m.table s ≡ Some (model.armed a) → Kept_with a.waker → greatest < tick → (re : Rearmed wheel left k tick) → re.timed.tick ≡ a.tick → Left (armed_above (model.armed a) m s tick)
  rearmed a at_m turned early re same_tick = by_case re.how
    where
      moved : a.tick < tick → Left (armed_later m s tick a)
      moved less =
          let more : nat_lt a.tick tick ≡ true = lt-ltb a.tick tick less in
          stands-moved wheel left keys entries greatest live limit holds s k e f at was same _ turned m st a _ at_m refl (ap (λ b. a.is_moved || b) more ∙ or-true a.is_moved) refl

      by_case : ((re.timed.tick ≢ wheel.elapsed) × (re.timed.tick ≤ tick) × Changed wheel left k (Some record { tick = tick; registered = re.timed.registered }))
          ⊎ (((re.timed.tick ≡ wheel.elapsed) ⊎ (tick < re.timed.tick)) × ArmedAnew wheel left k tick) → Left (armed_above (model.armed a) m s tick)
      by_case (inl (ahead, le, change)) =
          let test : nat_le a.tick tick ≡ true = le-leb a.tick tick (omega (arith, le, same_tick)) in
          rw test (later a at_m turned (cases_lt a.tick tick) re.timed re.was same_tick (omega (arith, le, same_tick)) change)
      by_case (inr (inl pending, anew)) =
          let less : a.tick < tick = omega (arith, pending, same_tick, early, holds.elapsed) in
          let test : nat_le a.tick tick ≡ true = le-leb a.tick tick (omega (arith, less)) in
          rw test (moved less)
      by_case (inr (inr before, anew)) =
          let test : nat_le a.tick tick ≡ false = lt-leb a.tick tick (omega (arith, before, same_tick)) in
          rw test (stands-anew wheel left keys entries greatest live limit holds s k e f at was same _ turned m st tick a.waker anew refl)

  by_put : (before : State) → PutAt wheel left k tick before f.state → Turned wheel left k e.state f.state (armed tick (waker_in_state before)) → greatest < tick → (sleep : model.Sleep) → value_at m.table s ≡ Some sleep → seen sleep ≡ kept_in (timed_at wheel k) before
      → Left (armed_above sleep m s tick)
  by_put (Fresh t) (is, anew) turned early (model.fresh n) at_m sees = stands-anew wheel left keys entries greatest live limit holds s k e f at was same _ turned m st tick None anew refl
  by_put (Fresh t) put turned early (model.armed a) at_m sees = absurd (cc)
  by_put (Fresh t) put turned early model.elapsed at_m sees = absurd (cc)
  by_put Unwatched put turned early (model.fresh n) at_m sees = absurd (cc)
  by_put (Armed task) put turned early (model.fresh n) at_m sees = absurd (cc)
  by_put Unwatched (is, re) turned early (model.armed a) at_m sees =
      rearmed a at_m (subst (λ v. Kept_with v) (sym (armed_wakers _ _ _ _ sees)) turned) early re (sym (ap tick_in re.was) ∙ sym (armed_ticks _ _ _ _ sees))
  by_put (Armed task) (is, re) turned early (model.armed a) at_m sees =
      rearmed a at_m (subst (λ v. Kept_with v) (sym (armed_wakers _ _ _ _ sees)) turned) early re (sym (ap tick_in re.was) ∙ sym (armed_ticks _ _ _ _ sees))
  by_put Unwatched put turned early model.elapsed at_m sees = absurd (cc)
  by_put (Armed task) put turned early model.elapsed at_m sees = absurd (cc)
  by_put Elapsed put turned early (model.fresh n) at_m sees = absurd (cc)
  by_put Elapsed put turned early (model.armed a) at_m sees = absurd (cc)
  by_put Elapsed (is, anew) turned early model.elapsed at_m sees = stands-anew wheel left keys entries greatest live limit holds s k e f at was same _ turned m st tick None anew refl

  abbrev WasReset : model.Sleep → Type 0
  WasReset sleep = (woken ≡ woken_by_arming sleep m tick) × Left (after_arming sleep m s tick)

  by_time : ResetEntry wheel left k greatest tick e.state f.state woken → Turned wheel left k e.state f.state (at_tick greatest tick (kept_waker (kept_in (timed_at wheel k) e.state)))
      → (sleep : model.Sleep) → value_at m.table s ≡ Some sleep → seen sleep ≡ kept_in (timed_at wheel k) e.state → WasReset sleep
  by_time (inl (due, is, says, out)) turned sleep at_m sees =
      let test : nat_le tick m.greatest ≡ true = le-leb tick m.greatest (omega (arith, due, st.same_greatest)) in
      let kept : elapsed ≡ at_tick greatest tick (kept_waker (kept_in (timed_at wheel k) e.state)) = rw (le-leb tick greatest due) refl in
      let waker : woken ≡ model.waker_of sleep = says ∙ waker-in (timed_at wheel k) e.state ∙ ap kept_waker (sym sees) ∙ sym (waker-seen sleep) in
      rw test (waker, stands-unarmed wheel left keys entries greatest live limit holds s k e f at was same _ turned m st model.elapsed kept elapsed-armed)
  by_time (inr (early, says, put)) turned sleep at_m sees =
      let test : nat_le tick m.greatest ≡ false = lt-leb tick m.greatest (omega (arith, early, st.same_greatest)) in
      let kept : at_tick greatest tick (kept_waker (kept_in (timed_at wheel k) e.state)) ≡ armed tick (waker_in_state e.state) = rw (lt-leb tick greatest early) (ap (armed tick) (sym (waker-in (timed_at wheel k) e.state))) in
      rw test (says, by_put e.state put (subst (Turned wheel left k e.state f.state) kept turned) early sleep at_m sees)

  pub machine-reset : (n : ℕ) → tick ≡ up n → ResetEntry wheel left k greatest tick e.state f.state woken → (answered woken ≡ machine.reset_answer m s n) × Left (machine.reset m s n)
  machine-reset n is entry =
      let there = sleep_there wheel keys entries greatest limit m st s (kept_in (timed_at wheel k) e.state) (kept-there wheel keys entries greatest live holds s k e at was) in
      let turned = turned-reset wheel k greatest left tick e.state f.state woken entry in
      let done : WasReset there.0 = by_time entry turned.0 there.0 there.1 there.2 in
      let one : (woken ≡ woken_by_arming there.0 m (up n)) × Left (after_arming there.0 m s (up n)) = subst (λ t. (woken ≡ woken_by_arming there.0 m t) × Left (after_arming there.0 m s t)) is done in
      rw there.1 (ap answered one.0, one.1)
