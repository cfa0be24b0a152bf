-- The registered ticks of sleeps after a call.
use Rattle.std.proofs.Common.{◌≡◌, ◌≢◌, ◌<◌, ◌≤◌, ◌⊎◌, inl, inr, ℕ, true, false, Bool, cond, List, [], ◌∷◌, ◌++◌, length, get_or, set, Some, None, refl, ap, sym, ◌∙◌, arith}
use Rattle.std.specs.Prelude.{Option, slice_get, is_some, nat_le}
use Rattle.std.proofs.lemmas.Bool.{le-leb, lt-leb, cases_eq, cases_lt}
use Rattle.std.proofs.lemmas.List.{get_or-set_other, get_or-set_same, get_or_append_left, get_or_push, get_or_past, length_push}
use Rattle.mono_model.specs.Table.{Table, value_at}
use Rattle.mono_wheel.specs.Start.{start, top_level}
use Rattle.mono_wheel.specs.Model.{Wheel, Timed, timed_at, timed_after, Changed, CameOut}
use Rattle.mono_time.specs.Sleeps.{armed}
use Rattle.mono_time.specs.Entries.{is_armed_state, kept_in, kept_of, tick_in, is_armed_entry, owner_of}
use Rattle.mono_time.specs.Representation.{Holds, ArmedAnew, Rearmed, KeyMade, NoKeyMade, kept_at, kept_under}
use Rattle.mono_time.specs.SlotRegistration.{registered_in, registered_under, registered_at, RegistersOnly, polled_registered, reset_registered, moved_registered}
use Rattle.mono_time.specs.KeyCalls.{PolledEntry, ResetEntry, PutAt, Out}
use Rattle.mono_time.specs.declared.entry.Entry.{Entry}
use Rattle.mono_time.specs.declared.entry.State.{State}
use Rattle.mono_time.specs.declared.entry.State.TheVariants.{Fresh, Unwatched, Armed, Elapsed}
use Rattle.mono_time.proofs.SleepChangeLemmas.{some-same, given_inside}

not_in : (timed : Option Timed) → is_some timed ≡ false → registered_in timed ≡ None
not_in None is = refl
not_in (Some t) is = absurd (cc)

module _ (wheel left : Wheel) (keys : Table ℕ) (entries : List Entry) (greatest live : ℕ) (holds : Holds wheel keys entries greatest live)
    (s k : ℕ) (at : value_at keys s ≡ Some k) (others : (other : ℕ) → other ≢ k → timed_at left other ≡ timed_at wheel other) where
  other_key : (q j : ℕ) → q ≢ s → value_at keys q ≡ Some j → j ≢ k
  other_key q j apart at_q is = apart (some-same _ _ (sym (holds.owners q j at_q) ∙ ap (λ x. owner_of (slice_get entries x)) is ∙ holds.owners s k at))

  others-registered : (q : ℕ) → q ≢ s → registered_at left keys q ≡ registered_at wheel keys q
  others-registered q apart = by (value_at keys q) refl
    where
      by : (v : Option ℕ) → value_at keys q ≡ v → registered_under left v ≡ registered_under wheel v
      by None at_q = refl
      by (Some j) at_q = ap registered_in (others j (other_key q j apart at_q))

  pub registers : (tick : Option ℕ) → registered_in (timed_at left k) ≡ tick → RegistersOnly (registered_at wheel keys) (registered_at left keys) s tick
  registers tick is = record { here = ap (registered_under left) at ∙ is; others = others-registered }

module _ (wheel left : Wheel) (k greatest : ℕ) where
  pub polled-at : (by : ℕ) (before after : State) (ready : Bool) → PolledEntry wheel left k greatest by before after ready → is_some (timed_at wheel k) ≡ is_armed_state before
      → registered_in (timed_at left k) ≡ polled_registered greatest (Some (kept_in (timed_at wheel k) before)) (registered_in (timed_at wheel k))
  polled-at by (Fresh tick) after ready (inl (due, same, is, says)) is_in = rw (le-leb tick greatest due) (ap (λ w. registered_in (timed_at w k)) same ∙ not_in (timed_at wheel k) is_in)
  polled-at by (Fresh tick) after ready (inr (early, anew, is, says)) is_in = rw (lt-leb tick greatest early) (ap registered_in anew.here)
  polled-at by Unwatched after ready (same, is, says) is_in = ap (λ w. registered_in (timed_at w k)) same
  polled-at by (Armed task) after ready (same, is, says) is_in = ap (λ w. registered_in (timed_at w k)) same
  polled-at by Elapsed after ready (same, is, says) is_in = ap (λ w. registered_in (timed_at w k)) same

  rearmed-at : (tick : ℕ) (waker : Option ℕ) → greatest < tick → Rearmed wheel left k tick → wheel.elapsed ≤ greatest → greatest < tick_in (timed_at wheel k)
      → registered_in (timed_at left k) ≡ cond (nat_le (tick_in (timed_at wheel k)) tick) (registered_in (timed_at wheel k)) (Some tick)
  rearmed-at tick waker early re gone above = by re.how
    where
      same_tick : tick_in (timed_at wheel k) ≡ re.timed.tick
      same_tick = ap tick_in re.was

      by : ((re.timed.tick ≢ wheel.elapsed) × (re.timed.tick ≤ tick) × Changed wheel left k (Some record { tick = tick; registered = re.timed.registered }))
          ⊎ (((re.timed.tick ≡ wheel.elapsed) ⊎ (tick < re.timed.tick)) × ArmedAnew wheel left k tick)
          → registered_in (timed_at left k) ≡ cond (nat_le (tick_in (timed_at wheel k)) tick) (registered_in (timed_at wheel k)) (Some tick)
      by (inl (ahead, le, change)) =
          let test : nat_le (tick_in (timed_at wheel k)) tick ≡ true = le-leb _ _ (omega (arith, same_tick, le)) in
          rw test (ap registered_in change.here ∙ sym (ap registered_in re.was))
      by (inr (inl pending, anew)) = absurd (omega (arith, pending, same_tick, gone, above))
      by (inr (inr before, anew)) =
          let test : nat_le (tick_in (timed_at wheel k)) tick ≡ false = lt-leb _ _ (omega (arith, same_tick, before)) in
          rw test (ap registered_in anew.here)

  put-at : (tick : ℕ) (before after : State) → greatest < tick → PutAt wheel left k tick before after → wheel.elapsed ≤ greatest → (is_armed_state before ≡ true → greatest < tick_in (timed_at wheel k))
      → registered_in (timed_at left k) ≡ reset_registered greatest tick (Some (kept_in (timed_at wheel k) before)) (registered_in (timed_at wheel k))
  put-at tick (Fresh t) after early (is, anew) gone above = rw (lt-leb tick greatest early) (ap registered_in anew.here)
  put-at tick Unwatched after early (is, re) gone above = rw (lt-leb tick greatest early) (rearmed-at tick None early re gone (above refl))
  put-at tick (Armed task) after early (is, re) gone above = rw (lt-leb tick greatest early) (rearmed-at tick (Some task) early re gone (above refl))
  put-at tick Elapsed after early (is, anew) gone above = rw (lt-leb tick greatest early) (ap registered_in anew.here)

  pub reset-at : (tick : ℕ) (before after : State) (woken : Option ℕ) → ResetEntry wheel left k greatest tick before after woken → wheel.elapsed ≤ greatest → (is_armed_state before ≡ true → greatest < tick_in (timed_at wheel k))
      → registered_in (timed_at left k) ≡ reset_registered greatest tick (Some (kept_in (timed_at wheel k) before)) (registered_in (timed_at wheel k))
  reset-at tick before after woken (inl (due, is, says, out)) gone above = ap registered_in out.gone ∙ by before
    where
      by : (state : State) → None ≡ reset_registered greatest tick (Some (kept_in (timed_at wheel k) state)) (registered_in (timed_at wheel k))
      by (Fresh t) = rw (le-leb tick greatest due) refl
      by Unwatched = rw (le-leb tick greatest due) refl
      by (Armed task) = rw (le-leb tick greatest due) refl
      by Elapsed = rw (le-leb tick greatest due) refl
  reset-at tick before after woken (inr (early, says, put)) gone above = put-at tick before after early put gone above

-- one more sleep is not registered
pub registered-added : (wheel left : Wheel) (keys : Table ℕ) (entries after : List Entry) (k : ℕ) → KeyMade wheel left keys (keys ++ Some k ∷ []) entries after k → (q : ℕ) → registered_at left (keys ++ Some k ∷ []) q ≡ registered_at wheel keys q
registered-added wheel left keys entries after k made q = elim (cases_lt q (length keys)) [
  | inl before ↦ ap (registered_under left) (get_or_append_left keys (Some k ∷ []) None q before) ∙ by (value_at keys q)
  | inr not_before ↦ elim (cases_eq q (length keys)) [
    | inl last ↦ ap (registered_under left) (get_or_push keys (Some k) None q (sym last)) ∙ ap registered_in made.is_out ∙ sym (ap (registered_under wheel) (get_or_past keys q None not_before))
    | inr past ↦ ap (registered_under left) (get_or_past (keys ++ Some k ∷ []) q None (omega (arith, not_before, past, length_push keys (Some k)))) ∙ sym (ap (registered_under wheel) (get_or_past keys q None not_before))
  ]
]
  where
    by : (v : Option ℕ) → registered_under left v ≡ registered_under wheel v
    by None = refl
    by (Some j) = ap registered_in (made.keys_stay.same_ticks j)

pub registered-same : (wheel left : Wheel) (keys : Table ℕ) (entries after : List Entry) → NoKeyMade wheel left keys keys entries after → (q : ℕ) → registered_at left keys q ≡ registered_at wheel keys q
registered-same wheel left keys entries after none q = by (value_at keys q)
  where
    by : (v : Option ℕ) → registered_under left v ≡ registered_under wheel v
    by None = refl
    by (Some j) = ap registered_in (none.same_ticks j)

-- a sleep that was given up
pub registered-removed : (wheel mid left : Wheel) (keys : Table ℕ) (entries : List Entry) (greatest live : ℕ) → Holds wheel keys entries greatest live → (s k : ℕ) → value_at keys s ≡ Some k → Out wheel mid k → left.entries ≡ mid.entries
    → RegistersOnly (registered_at wheel keys) (registered_at left (set keys s None)) s None
registered-removed wheel mid left keys entries greatest live holds s k at out same_entries = record {
  here = ap (registered_under left) (get_or-set_same keys s None None (given_inside keys s k at));
  others = λ q apart. ap (registered_under left) (get_or-set_other keys s q None None apart) ∙ by q apart (value_at keys q) refl;
}
  where
    by : (q : ℕ) → q ≢ s → (v : Option ℕ) → value_at keys q ≡ v → registered_under left v ≡ registered_under wheel v
    by q apart None at_q = refl
    by q apart (Some j) at_q =
        let other : j ≢ k = λ is. apart (some-same _ _ (sym (holds.owners q j at_q) ∙ ap (λ x. owner_of (slice_get entries x)) is ∙ holds.owners s k at)) in
        ap registered_in (ap (λ xs. get_or xs j None) same_entries ∙ out.others j other)

-- the clock goes on
moved-in : (old new tick registered : ℕ) (b : Bool) → registered_in (Some (cond b (record { tick = tick; registered = tick }) (record { tick = tick; registered = registered }))) ≡ Some (cond b tick registered)
moved-in old new tick registered true = refl
moved-in old new tick registered false = refl

module _ (wheel : Wheel) (keys : Table ℕ) (entries : List Entry) (greatest live : ℕ) (holds : Holds wheel keys entries greatest live) (now : ℕ) where
  after-timed : (timed : Option Timed) (e : Option Entry) → is_some timed ≡ is_armed_entry e → registered_in (timed_after wheel.elapsed now timed) ≡ moved_registered wheel.elapsed now (kept_of timed e) (registered_in timed)
  after-timed None None is = refl
  after-timed None (Some e) is = by e.state
    where
      by : (state : State) → None ≡ moved_registered wheel.elapsed now (Some (kept_in None state)) None
      by (Fresh tick) = refl
      by Unwatched = refl
      by (Armed task) = refl
      by Elapsed = refl
  after-timed (Some t) None is = absurd (cc)
  after-timed (Some t) (Some e) is = by e.state is
    where
      by : (state : State) → true ≡ is_armed_state state → registered_in (timed_after wheel.elapsed now (Some t)) ≡ moved_registered wheel.elapsed now (Some (kept_in (Some t) state)) (Some t.registered)
      by (Fresh tick) armed_is = absurd (cc)
      by Unwatched armed_is = moved-in wheel.elapsed now t.tick t.registered (nat_le (start top_level wheel.elapsed t.registered) now)
      by (Armed task) armed_is = moved-in wheel.elapsed now t.tick t.registered (nat_le (start top_level wheel.elapsed t.registered) now)
      by Elapsed armed_is = absurd (cc)

  pub registered-moved : (left : Wheel) (q : ℕ) → ((j : ℕ) → value_at keys q ≡ Some j → timed_at left j ≡ timed_after wheel.elapsed now (timed_at wheel j))
      → registered_at left keys q ≡ moved_registered wheel.elapsed now (kept_at wheel keys entries q) (registered_at wheel keys q)
  registered-moved left q after = by (value_at keys q) refl
    where
      by : (v : Option ℕ) → value_at keys q ≡ v → registered_under left v ≡ moved_registered wheel.elapsed now (kept_under wheel entries v) (registered_under wheel v)
      by None at = refl
      by (Some j) at = ap registered_in (after j at) ∙ after-timed (timed_at wheel j) (slice_get entries j) (holds.is_in q j at)

  -- the clock went on, and a key came out
  module _ (left : Wheel) (s k : ℕ) (at : value_at keys s ≡ Some k) (came : CameOut wheel left now k) where
    pub registered-gone : registered_at left keys s ≡ None
    registered-gone = ap (registered_under left) at ∙ ap registered_in came.out

    pub after-out : (q : ℕ) → q ≢ s → (j : ℕ) → value_at keys q ≡ Some j → timed_at left j ≡ timed_after wheel.elapsed left.elapsed (timed_at wheel j)
    after-out q apart j at_q = came.others j (λ is. apart (some-same _ _ (sym (holds.owners q j at_q) ∙ ap (λ x. owner_of (slice_get entries x)) is ∙ holds.owners s k at)))

-- at rest an armed sleep is ahead
pub above-armed : (greatest : ℕ) (timed : Option Timed) (state : State) → ((tick : ℕ) (waker : Option ℕ) → Some (kept_in timed state) ≡ Some (armed tick waker) → greatest < tick) → is_armed_state state ≡ true → greatest < tick_in timed
above-armed greatest timed (Fresh tick) none is = absurd (cc)
above-armed greatest timed Unwatched none is = none (tick_in timed) None refl
above-armed greatest timed (Armed task) none is = none (tick_in timed) (Some task) refl
above-armed greatest timed Elapsed none is = absurd (cc)
