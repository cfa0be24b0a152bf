-- A call within a clock step.
use Rattle.std.proofs.Common.{◌≡◌, ◌≢◌, ◌<◌, ◌≤◌, ◌^◌, inl, inr, ℕ, true, false, Bool, cond, List, length, set, Some, None, refl, ap, sym, subst, ◌∙◌, arith}
use Rattle.std.specs.Prelude.{Option, slice_get, is_some, nat_le, max, slice_index_or}
use Rattle.std.specs.Option.{option_map}
use Rattle.std.proofs.lemmas.Bool.{cases_lt}
use Rattle.std.proofs.lemmas.List.{get_or_past, get_or-set_same}
use Rattle.mono_model.specs.Ticks.{down}
use Rattle.mono_model.specs.Table.{Table, value_at, with_value}
use Rattle.mono_model.specs.Sleeps as model
use Rattle.mono_model.specs.Sleeps.{Sleeps, Arming, IsDueSleep, MayPrecede}
use Rattle.mono_model.specs.FireOrder.{IsFirstDue, IsNoneDue}
use Rattle.mono_model.proofs.TableOfLemmas.{table_of-same, value_at-table_of, length-table_of}
use Rattle.mono_wheel.specs.Start.{start, top_level}
use Rattle.mono_wheel.specs.Model.{Wheel, Timed, timed_at, timed_after, CameOut, NothingDue}
use Rattle.mono_time.specs.Sleeps.{Kept, armed, elapsed}
use Rattle.mono_model.specs.SleepActs as machine
use Rattle.mono_time.specs.Entries.{is_armed_state, armed_with, kept_in, kept_of, tick_in, waker_in_state, owner_of, fresh_tick}
use Rattle.mono_time.specs.Representation.{Holds, KeepsBut, kept_at, kept_under}
use Rattle.mono_time.specs.Refinement.{Standing, seen}
use Rattle.mono_time.specs.declared.entry.Entry.{Entry}
use Rattle.mono_time.specs.declared.entry.State.{State}
use Rattle.mono_time.specs.declared.entry.State.TheVariants.{Fresh, Unwatched, Armed, Elapsed}
use Rattle.mono_time.proofs.SleepChangeLemmas.{some-same, none-some, given_inside, kept_of-ticks, owner, holds-written, table-written}
use Rattle.mono_time.proofs.RefinementLemmas.{value-seen, sleep_there, standing-written}
use Rattle.mono_time.proofs.FitLemmas.{ahead-none, ahead-came}
use Rattle.mono_time.proofs.KeyCallLemmas.{kept-armed}
use Rattle.mono_time.proofs.PlacementLemmas.{placed-unarmed}
use Rattle.mono_time.proofs.TimersWriteLemmas.{table_kept, kept-there, table-there, is_in-entry}

-- the greatest tick with a further reading
pub max-later : (greatest tick now : ℕ) → now ≡ max greatest tick → greatest ≤ now
max-later greatest tick now is = omega (arith, is)

pub max-over : (from greatest tick now : ℕ) → now ≡ max greatest tick → from ≤ greatest → from ≤ now
max-over from greatest tick now is behind = omega (arith, is, behind)

pub max-below : (greatest tick now : ℕ) → now ≡ max greatest tick → greatest < 2 ^ 63 → tick < 2 ^ 63 → now < 2 ^ 63
max-below greatest tick now is low small = omega (arith, is, low, small)

armed_ticks : (t u : ℕ) (v w : Option ℕ) → armed t v ≡ armed u w → t ≡ u
armed_ticks t u v w e = cc

armed_wakers : (t u : ℕ) (v w : Option ℕ) → armed t v ≡ armed u w → v ≡ w
armed_wakers t u v w e = cc

elapsed-armed : (a : Arming) → model.elapsed ≡ model.armed a → ⊥
elapsed-armed a e = cc

model-same : (a b : Arming) → model.armed a ≡ model.armed b → a ≡ b
model-same a b e = cc

abbrev both : ℕ → Timed
both tick = record { tick = tick; registered = tick }

moved-tick : (b : Bool) (timed : Timed) → (cond b (both timed.tick) timed).tick ≡ timed.tick
moved-tick true timed = refl
moved-tick false timed = refl

after-tick : (old new : ℕ) (timed : Option Timed) → tick_in (timed_after old new timed) ≡ tick_in timed
after-tick old new None = refl
after-tick old new (Some timed) = moved-tick (nat_le (start top_level old timed.registered) new) timed

after-some : (old new : ℕ) (timed : Option Timed) → is_some (timed_after old new timed) ≡ is_some timed
after-some old new None = refl
after-some old new (Some timed) = refl

after-both : (old new tick : ℕ) → timed_after old new (Some record { tick = tick; registered = tick }) ≡ Some record { tick = tick; registered = tick }
after-both old new tick = ap Some (cond-same (nat_le (start top_level old tick) new))
  where
    cond-same : (b : Bool) → cond b (both tick) (both tick) ≡ both tick
    cond-same true = refl
    cond-same false = refl

keeps-out : (wheel left : Wheel) (now key : ℕ) → CameOut wheel left now key → KeepsBut wheel left key
keeps-out wheel left now key came = record {
  ticks = λ other apart. ap tick_in (came.others other apart) ∙ after-tick wheel.elapsed left.elapsed (timed_at wheel other);
  in_or_out = λ other apart. ap is_some (came.others other apart) ∙ after-some wheel.elapsed left.elapsed (timed_at wheel other);
  registered = λ other tick apart is. came.others other apart ∙ ap (timed_after wheel.elapsed left.elapsed) is ∙ after-both wheel.elapsed left.elapsed tick;
  order = λ a b tick apart_a apart_b is_a is_b before. came.order a b apart_a apart_b before;
  reserved = λ other. ap (λ rs. slice_index_or rs other false) came.reserved;
}

-- a sleep that is armed has a key in the wheel, with its tick
pub armed_key : (wheel : Wheel) (keys : Table ℕ) (entries : List Entry) (greatest live : ℕ) → Holds wheel keys entries greatest live → (q tick : ℕ) (task : Option ℕ) → kept_at wheel keys entries q ≡ Some (armed tick task)
    → (j : ℕ) × (value_at keys q ≡ Some j) × ((timed : Timed) × (timed_at wheel j ≡ Some timed) × (timed.tick ≡ tick))
armed_key wheel keys entries greatest live holds q tick task is = by_key (value_at keys q) refl is
  where
    by_timed : (j : ℕ) (timed : Option Timed) (waker : Option ℕ) → timed_at wheel j ≡ timed → is_some timed ≡ true → kept_in timed (armed_with waker) ≡ armed tick task → (t : Timed) × (timed_at wheel j ≡ Some t) × (t.tick ≡ tick)
    by_timed j None waker at there kept = absurd (cc)
    by_timed j (Some t) waker at there kept = (t, at, armed_ticks _ _ _ _ (sym (kept-armed (Some t) waker) ∙ kept))

    by_state : (j : ℕ) (e : Entry) (state : State) → value_at keys q ≡ Some j → slice_get entries j ≡ Some e → e.state ≡ state → kept_in (timed_at wheel j) state ≡ armed tick task → (t : Timed) × (timed_at wheel j ≡ Some t) × (t.tick ≡ tick)
    by_state j e (Fresh t) at was state kept = absurd (cc)
    by_state j e Unwatched at was state kept = by_timed j (timed_at wheel j) None refl (is_in-entry wheel keys entries greatest live holds q j e at was ∙ ap is_armed_state state) kept
    by_state j e (Armed task) at was state kept = by_timed j (timed_at wheel j) (Some task) refl (is_in-entry wheel keys entries greatest live holds q j e at was ∙ ap is_armed_state state) kept
    by_state j e Elapsed at was state kept = absurd (cc)

    by_entry : (j : ℕ) (v : Option Entry) → value_at keys q ≡ Some j → slice_get entries j ≡ v → kept_of (timed_at wheel j) v ≡ Some (armed tick task) → (t : Timed) × (timed_at wheel j ≡ Some t) × (t.tick ≡ tick)
    by_entry j None at was kept = absurd (cc)
    by_entry j (Some e) at was kept = by_state j e e.state at was refl (some-same _ _ kept)

    by_key : (v : Option ℕ) → value_at keys q ≡ v → kept_under wheel entries v ≡ Some (armed tick task) → (j : ℕ) × (value_at keys q ≡ Some j) × ((t : Timed) × (timed_at wheel j ≡ Some t) × (t.tick ≡ tick))
    by_key None at kept = absurd (cc)
    by_key (Some j) at kept = (j, at, by_entry j (slice_get entries j) at refl kept)

pub table-at : (wheel : Wheel) (keys : Table ℕ) (entries : List Entry) (q : ℕ) (kept : Kept) → value_at (table_kept wheel keys entries) q ≡ Some kept → kept_at wheel keys entries q ≡ Some kept
table-at wheel keys entries q kept is = elim (cases_lt q (length keys)) [
  | inl inside ↦ sym (value_at-table_of (kept_at wheel keys entries) (length keys) q inside) ∙ is
  | inr past ↦ absurd (none-some kept (sym (get_or_past (table_kept wheel keys entries) q None (omega (arith, past, length-table_of (kept_at wheel keys entries) (length keys)))) ∙ is))
]

module _ (wheel left : Wheel) (keys : Table ℕ) (entries : List Entry) (greatest live limit : ℕ) (holds : Holds wheel keys entries greatest live) (now : ℕ) (less : greatest ≤ now) (below : now < 2 ^ 63) where
  -- the same sleeps, up to a greater tick
  pub holds-later : Holds wheel keys entries now live
  holds-later = record {
    owners = holds.owners;
    reserved = holds.reserved;
    is_in = holds.is_in;
    fresh_below = holds.fresh_below;
    owned = holds.owned;
    back = holds.back;
    used = holds.used;
    elapsed = omega (arith, holds.elapsed, less);
    greatest_below = below;
    live_count = holds.live_count;
    ahead = holds.ahead;
  }

  -- nothing is due
  module _ (nothing : NothingDue wheel left now) where
    none-ticks : (key : ℕ) → tick_in (timed_at left key) ≡ tick_in (timed_at wheel key)
    none-ticks key = ap tick_in (nothing.ticks key) ∙ after-tick wheel.elapsed now (timed_at wheel key)

    none-some_same : (key : ℕ) → is_some (timed_at left key) ≡ is_some (timed_at wheel key)
    none-some_same key = ap is_some (nothing.ticks key) ∙ after-some wheel.elapsed now (timed_at wheel key)

    pub holds-none : Holds left keys entries now live
    holds-none = record {
      owners = holds.owners;
      reserved = λ s k at. ap (λ rs. slice_index_or rs k false) nothing.reserved ∙ holds.reserved s k at;
      is_in = λ s k at. none-some_same k ∙ holds.is_in s k at;
      fresh_below = holds.fresh_below;
      owned = λ k in_wheel. holds.owned k (sym (none-some_same k) ∙ in_wheel);
      back = λ k s in_wheel owned. holds.back k s (sym (none-some_same k) ∙ in_wheel) owned;
      used = λ k is_used. holds.used k (sym (ap (λ rs. slice_index_or rs k false) nothing.reserved) ∙ is_used);
      elapsed = omega (arith, nothing.elapsed);
      greatest_below = below;
      live_count = holds.live_count;
      ahead = ahead-none wheel left holds.ahead now (omega (arith, holds.elapsed, less)) nothing;
    }

    kept-none : (q : ℕ) → kept_at left keys entries q ≡ kept_at wheel keys entries q
    kept-none q = by_key (value_at keys q)
      where
        by_key : (v : Option ℕ) → kept_under left entries v ≡ kept_under wheel entries v
        by_key None = refl
        by_key (Some j) = kept_of-ticks (timed_at left j) (timed_at wheel j) (slice_get entries j) (none-ticks j)

    pub table-none : table_kept left keys entries ≡ table_kept wheel keys entries
    table-none = table_of-same (kept_at left keys entries) (kept_at wheel keys entries) (length keys) (λ q inside. kept-none q)

    pub none-armed : (s tick : ℕ) (waker : Option ℕ) → value_at (table_kept wheel keys entries) s ≡ Some (armed tick waker) → now < tick
    none-armed s tick waker is = elim (cases_lt now tick) [
      | inl later ↦ later
      | inr due ↦
          let key = armed_key wheel keys entries greatest live holds s tick waker (table-at wheel keys entries s _ is) in
          absurd (nothing.none key.0 tick (key.2.0, key.2.1, key.2.2, due))
    ]

    pub machine-none : (m : Sleeps) (n : ℕ) → Standing wheel keys entries greatest limit m → max m.greatest (down n) ≡ now
        → IsNoneDue (machine.at_clock m n).table (machine.at_clock m n).greatest × Standing left keys entries now limit (machine.at_clock m n)
    machine-none m n st is = (
      λ s due. not_due s (value_at m.table s) refl due,
      record {
        table = st.table ∙ sym table-none;
        same_greatest = is;
        same_limit = st.same_limit;
        arms_below = st.arms_below;
        arms_differ = st.arms_differ;
        registered = λ s k a at still at_k. nothing.ticks k ∙ ap (timed_after wheel.elapsed now) (st.registered s k a at still at_k) ∙ after-both wheel.elapsed now a.tick;
        in_order = λ s q k j a b at_s at_q still_a still_b at_k at_j tick arms. nothing.order k j (st.in_order s q k j a b at_s at_q still_a still_b at_k at_j tick arms);
      },
    )
      where
        not_due : (s : ℕ) (v : Option model.Sleep) → value_at m.table s ≡ v → IsDueSleep v (max m.greatest (down n)) → ⊥
        not_due s None at due = due
        not_due s (Some (model.fresh nanos)) at due = due
        not_due s (Some model.elapsed) at due = due
        not_due s (Some (model.armed a)) at due =
            let kept : kept_at wheel keys entries s ≡ Some (armed a.tick a.waker) = sym (value-seen wheel keys entries greatest limit m st s) ∙ ap (option_map seen) at in
            let key = armed_key wheel keys entries greatest live holds s a.tick a.waker kept in
            nothing.none key.0 a.tick (key.2.0, key.2.1, key.2.2, omega (arith, due, is))

  -- a key came out
  module _ (k : ℕ) (came : CameOut wheel left now k) where
    came-in : is_some (timed_at wheel k) ≡ true
    came-in = ap is_some came.due.1

    pub came-owner : (s : ℕ) × (value_at keys s ≡ Some k)
    came-owner = there (owner_of (slice_get entries k)) refl (holds.owned k came-in)
      where
        there : (v : Option ℕ) → owner_of (slice_get entries k) ≡ v → is_some v ≡ true → (s : ℕ) × (value_at keys s ≡ Some k)
        there None is some = absurd (cc)
        there (Some s) is some = (s, holds.back k s came-in is)

    module _ (e f : Entry) (was : slice_get entries k ≡ Some e) (left_as : f ≡ record { sleep = e.sleep; state = Elapsed }) where
      s : ℕ
      s = came-owner.0

      at : value_at keys came-owner.0 ≡ Some k
      at = came-owner.1

      same : f.sleep ≡ e.sleep
      same = ap (λ x. x.sleep) left_as

      pub fired-number : f.sleep ≡ came-owner.0
      fired-number = same ∙ owner wheel left keys entries greatest live holds came-owner.0 k e f at was same (keeps-out wheel left now k came)

      pub holds-fired : Holds left keys (set entries k f) now live
      holds-fired = holds-written wheel left keys entries greatest live holds came-owner.0 k e f at was same (keeps-out wheel left now k came) (ahead-came wheel left holds.ahead now k came) now came.due.3 below
          (ap is_some came.out ∙ sym (ap (λ x. is_armed_state x.state) left_as)) (subst (λ x. fresh_tick x.state < 2 ^ 63) (sym left_as) (omega arith))

      pub table-fired : table_kept left keys (set entries k f) ≡ with_value (table_kept wheel keys entries) came-owner.0 elapsed
      table-fired = table-written wheel left keys entries greatest live holds came-owner.0 k e f at was same (keeps-out wheel left now k came)
          ∙ ap (λ x. set (table_kept wheel keys entries) came-owner.0 (Some (kept_in (timed_at left k) x.state))) left_as

      armed_state : (waker : Option ℕ) × (e.state ≡ armed_with waker)
      armed_state = by e.state refl (sym (is_in-entry wheel keys entries greatest live holds came-owner.0 k e at was) ∙ came-in)
        where
          by : (state : State) → e.state ≡ state → is_armed_state state ≡ true → (waker : Option ℕ) × (e.state ≡ armed_with waker)
          by (Fresh tick) is true_of = absurd (cc)
          by Unwatched is true_of = (None, is)
          by (Armed task) is true_of = (Some task, is)
          by Elapsed is true_of = absurd (cc)

      fired-kept : kept_in (timed_at wheel k) e.state ≡ armed left.elapsed (waker_in_state e.state)
      fired-kept = by armed_state.0 armed_state.1
        where
          by : (waker : Option ℕ) → e.state ≡ armed_with waker → kept_in (timed_at wheel k) e.state ≡ armed left.elapsed (waker_in_state e.state)
          by None is = rw is (ap (λ t. armed (tick_in t) None) came.due.1 ∙ ap (λ t. armed t None) came.due.2)
          by (Some task) is = rw is (ap (λ t. armed (tick_in t) (Some task)) came.due.1 ∙ ap (λ t. armed t (Some task)) came.due.2)

      pub table-armed : value_at (table_kept wheel keys entries) came-owner.0 ≡ Some (armed left.elapsed (waker_in_state e.state))
      table-armed = table-there wheel keys entries greatest live holds came-owner.0 k e at was ∙ ap Some fired-kept

      pub fired-value : value_at (table_kept left keys (set entries k f)) came-owner.0 ≡ Some elapsed
      fired-value = ap (λ xs. value_at xs came-owner.0) table-fired ∙ get_or-set_same (table_kept wheel keys entries) came-owner.0 (Some elapsed) None (given_inside (table_kept wheel keys entries) came-owner.0 _ table-armed)

      not_before : (q tick : ℕ) (task : Option ℕ) → kept_at wheel keys entries q ≡ Some (armed tick task) → left.elapsed ≤ tick
      not_before q tick task kept = elim (cases_lt now tick) [
        | inl later ↦ omega (arith, later, came.due.3)
        | inr due ↦
            let key = armed_key wheel keys entries greatest live holds q tick task kept in
            came.least key.0 tick (key.2.0, key.2.1, key.2.2, due)
      ]

      pub table-least : (q tick : ℕ) (task : Option ℕ) → value_at (table_kept wheel keys entries) q ≡ Some (armed tick task) → left.elapsed ≤ tick
      table-least q tick task is = not_before q tick task (table-at wheel keys entries q _ is)

      module _ (m : Sleeps) (n : ℕ) (st : Standing wheel keys entries greatest limit m) (is : max m.greatest (down n) ≡ now) where
        there : (sleep : model.Sleep) × (value_at m.table came-owner.0 ≡ Some sleep) × (seen sleep ≡ kept_in (timed_at wheel k) e.state)
        there = sleep_there wheel keys entries greatest limit m st came-owner.0 (kept_in (timed_at wheel k) e.state) (kept-there wheel keys entries greatest live holds came-owner.0 k e at was)

        -- The arming of the sleep.
        arming_there : (a : Arming) × (value_at m.table came-owner.0 ≡ Some (model.armed a)) × (a.tick ≡ left.elapsed) × (a.waker ≡ waker_in_state e.state)
        arming_there = by there.0 there.1 (there.2 ∙ fired-kept)
          where
            by : (sleep : model.Sleep) → value_at m.table came-owner.0 ≡ Some sleep → seen sleep ≡ armed left.elapsed (waker_in_state e.state) → (a : Arming) × (value_at m.table came-owner.0 ≡ Some (model.armed a)) × (a.tick ≡ left.elapsed) × (a.waker ≡ waker_in_state e.state)
            by (model.fresh x) at_m sees = absurd (cc)
            by (model.armed a) at_m sees = (a, at_m, armed_ticks _ _ _ _ sees, armed_wakers _ _ _ _ sees)
            by model.elapsed at_m sees = absurd (cc)

        first_among : (q : ℕ) (a b : Arming) → q ≢ came-owner.0 → value_at m.table came-owner.0 ≡ Some (model.armed a) → value_at m.table q ≡ Some (model.armed b) → MayPrecede a b
        first_among q a b apart at_s at_q =
            let one : a ≡ arming_there.0 = model-same _ _ (some-same _ _ (sym at_s ∙ arming_there.1)) in
            let kept : kept_at wheel keys entries q ≡ Some (armed b.tick b.waker) = sym (value-seen wheel keys entries greatest limit m st q) ∙ ap (option_map seen) at_q in
            let le : a.tick ≤ b.tick = omega (arith, not_before q b.tick b.waker kept, ap (λ x. x.tick) one, arming_there.2) in
            let key = armed_key wheel keys entries greatest live holds q b.tick b.waker kept in
            elim (cases_lt a.tick b.tick) [
              | inl less_tick ↦ inl less_tick
              | inr not_less ↦
                  let tick : b.tick ≡ a.tick = omega (arith, le, not_less) in
                  inr (
                    sym tick,
                    λ still_a still_b. elim (cases_lt a.arm b.arm) [
                      | inl less_arm ↦ less_arm
                      | inr more ↦
                          let differ : b.arm ≢ a.arm = st.arms_differ q came-owner.0 b a apart at_q at_s in
                          absurd (came.first key.0 (st.in_order q came-owner.0 key.0 k b a at_q at_s still_b still_a key.1 at tick (omega (arith, more, differ))))
                    ],
                  )
            ]

        pub machine-fired : IsFirstDue (machine.at_clock m n).table (machine.at_clock m n).greatest came-owner.0 × (waker_in_state e.state ≡ machine.waker_at (machine.at_clock m n) came-owner.0)
            × Standing left keys (set entries k f) now limit (machine.fired (machine.at_clock m n) came-owner.0)
        machine-fired = (
          record {
            is_due = subst (λ v. IsDueSleep v (max m.greatest (down n))) (sym arming_there.1) (omega (arith, arming_there.2, came.due.3, is));
            first = first_among;
          },
          sym arming_there.3 ∙ sym (ap machine.waker_in arming_there.1),
          standing-written wheel left keys entries now live limit holds-later came-owner.0 k e f at was same (keeps-out wheel left now k came) (machine.at_clock m n)
              (record {
                table = st.table;
                same_greatest = is;
                same_limit = st.same_limit;
                arms_below = st.arms_below;
                arms_differ = st.arms_differ;
                registered = st.registered;
                in_order = st.in_order;
              })
              model.elapsed m.arm_count (omega arith) (sym (ap (λ x. kept_in (timed_at left k) x.state) left_as)) (placed-unarmed left keys (machine.at_clock m n) m.arm_count came-owner.0 k model.elapsed elapsed-armed),
        )
