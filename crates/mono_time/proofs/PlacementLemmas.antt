-- The place of a sleep in each of the states in which a call leaves it.
use Rattle.std.proofs.Common.{◌≡◌, ◌≢◌, ℕ, ◌+◌, true, false, List, Some, ap, sym, subst, ◌∙◌, arith}
use Rattle.std.specs.Prelude.{Option}
use Rattle.mono_model.specs.Table.{Table, value_at}
use Rattle.mono_model.specs.Sleeps as model
use Rattle.mono_model.specs.Sleeps.{Sleeps, Arming}
use Rattle.mono_wheel.specs.Model.{Wheel, timed_at, Precedes}
use Rattle.mono_time.specs.Representation.{ArmedAnew}
use Rattle.mono_time.specs.Refinement.{Standing}
use Rattle.mono_time.specs.declared.entry.Entry.{Entry}
use Rattle.mono_time.proofs.RefinementLemmas.{Placed}

armed-same : (a b : Arming) → model.armed a ≡ model.armed b → a ≡ b
armed-same a b e = cc

true-false : true ≡ false → ⊥
true-false e = cc

-- a sleep that is not armed
pub placed-unarmed : (wheel : Wheel) (keys : Table ℕ) (sleeps : Sleeps) (arms s k : ℕ) (new : model.Sleep) → ((a : Arming) → new ≡ model.armed a → ⊥) → Placed wheel keys sleeps arms s k new
placed-unarmed wheel keys sleeps arms s k new none = record {
  below = λ a is. absurd (none a is);
  differ = λ a is. absurd (none a is);
  here = λ a is. absurd (none a is);
  before = λ a is. absurd (none a is);
  behind = λ a is. absurd (none a is);
}

module _ (wheel left : Wheel) (keys : Table ℕ) (entries : List Entry) (greatest limit : ℕ) (sleeps : Sleeps) (st : Standing wheel keys entries greatest limit sleeps)
    (s k : ℕ) (at : value_at keys s ≡ Some k) where
  -- one that was moved keeps its arm number
  pub placed-moved : (a b : Arming) → value_at sleeps.table s ≡ Some (model.armed a) → b.arm ≡ a.arm → b.is_moved ≡ true → Placed left keys sleeps sleeps.arm_count s k (model.armed b)
  placed-moved a b was arm moved = record {
    below = λ x is. omega (arith, st.arms_below s a was, arm, ap (λ y. y.arm) (armed-same b x is));
    differ = λ x is q y apart at_q same_arm. st.arms_differ s q a y (λ e. apart (sym e)) was at_q (sym arm ∙ ap (λ z. z.arm) (armed-same b x is) ∙ same_arm);
    here = λ x is still. absurd (true-false (sym moved ∙ ap (λ y. y.is_moved) (armed-same b x is) ∙ still));
    before = λ x is still. absurd (true-false (sym moved ∙ ap (λ y. y.is_moved) (armed-same b x is) ∙ still));
    behind = λ x is still. absurd (true-false (sym moved ∙ ap (λ y. y.is_moved) (armed-same b x is) ∙ still));
  }

  -- A sleep that keeps its place, and may have another waker.
  pub placed-same : (a b : Arming) → value_at sleeps.table s ≡ Some (model.armed a) → b.arm ≡ a.arm → b.tick ≡ a.tick → b.is_moved ≡ a.is_moved
      → ((tick : ℕ) → timed_at wheel k ≡ Some record { tick = tick; registered = tick } → timed_at left k ≡ Some record { tick = tick; registered = tick })
      → ((j tick : ℕ) → j ≢ k → timed_at wheel k ≡ Some record { tick = tick; registered = tick } → timed_at wheel j ≡ Some record { tick = tick; registered = tick } → Precedes wheel k j → Precedes left k j)
      → ((j tick : ℕ) → j ≢ k → timed_at wheel k ≡ Some record { tick = tick; registered = tick } → timed_at wheel j ≡ Some record { tick = tick; registered = tick } → Precedes wheel j k → Precedes left j k)
      → ((q j : ℕ) → q ≢ s → value_at keys q ≡ Some j → j ≢ k)
      → Placed left keys sleeps sleeps.arm_count s k (model.armed b)
  placed-same a b was arm tick moved stays front back apart_keys = record {
    below = λ x is. omega (arith, st.arms_below s a was, arm, ap (λ y. y.arm) (armed-same b x is));
    differ = λ x is q y apart at_q same_arm. st.arms_differ s q a y (λ e. apart (sym e)) was at_q (sym arm ∙ ap (λ z. z.arm) (armed-same b x is) ∙ same_arm);
    here = λ x is still. let one : b ≡ x = armed-same b x is in
        let old_still : a.is_moved ≡ false = sym moved ∙ ap (λ y. y.is_moved) one ∙ still in
        let old_tick : a.tick ≡ x.tick = sym tick ∙ ap (λ y. y.tick) one in
        subst (λ t. timed_at left k ≡ Some record { tick = t; registered = t }) old_tick (stays a.tick (st.registered s k a was old_still at));
    before = λ x is still q j y apart at_q still_q at_j same_tick less. let one : b ≡ x = armed-same b x is in
        let old_still : a.is_moved ≡ false = sym moved ∙ ap (λ z. z.is_moved) one ∙ still in
        let old_tick : a.tick ≡ y.tick = sym tick ∙ ap (λ z. z.tick) one ∙ same_tick in
        let here = st.registered s k a was old_still at in
        let there : timed_at wheel j ≡ Some record { tick = a.tick; registered = a.tick } = subst (λ t. timed_at wheel j ≡ Some record { tick = t; registered = t }) (sym old_tick) (st.registered q j y at_q still_q at_j) in
        front j a.tick (apart_keys q j apart at_j) here there
        (st.in_order s q k j a y was at_q old_still still_q at at_j old_tick (omega (arith, less, arm, ap (λ z. z.arm) one)));
    behind = λ x is still q j y apart at_q still_q at_j same_tick less. let one : b ≡ x = armed-same b x is in
        let old_still : a.is_moved ≡ false = sym moved ∙ ap (λ z. z.is_moved) one ∙ still in
        let old_tick : y.tick ≡ a.tick = same_tick ∙ sym (ap (λ z. z.tick) one) ∙ tick in
        let here = st.registered s k a was old_still at in
        let there : timed_at wheel j ≡ Some record { tick = a.tick; registered = a.tick } = subst (λ t. timed_at wheel j ≡ Some record { tick = t; registered = t }) old_tick (st.registered q j y at_q still_q at_j) in
        back j a.tick (apart_keys q j apart at_j) here there
        (st.in_order q s j k y a at_q was still_q old_still at_j at old_tick (omega (arith, less, arm, ap (λ z. z.arm) one)));
  }

  -- A sleep that was armed anew has the greatest arm number, and is the last at its tick.
  pub placed-anew : (tick : ℕ) (waker : Option ℕ) → ArmedAnew wheel left k tick → ((q j : ℕ) → q ≢ s → value_at keys q ≡ Some j → j ≢ k)
      → Placed left keys sleeps (sleeps.arm_count + 1) s k (model.armed (record { tick = tick; arm = sleeps.arm_count; is_moved = false; waker = waker }))
  placed-anew tick waker anew apart_keys = record {
    below = λ x is. omega (arith, ap (λ y. y.arm) (armed-same new x is));
    differ = λ x is q y apart at_q same_arm. omega (arith, st.arms_below q y at_q, same_arm, ap (λ z. z.arm) (armed-same new x is));
    here = λ x is still. subst (λ t. timed_at left k ≡ Some record { tick = t; registered = t }) (ap (λ z. z.tick) (armed-same new x is)) anew.here;
    before = λ x is still q j y apart at_q still_q at_j same_tick less. absurd (omega (arith, st.arms_below q y at_q, less, ap (λ z. z.arm) (armed-same new x is)));
    behind = λ x is still q j y apart at_q still_q at_j same_tick less.
        let ticks : y.tick ≡ tick = same_tick ∙ sym (ap (λ z. z.tick) (armed-same new x is)) in
        anew.last j (apart_keys q j apart at_j) (subst (λ t. timed_at wheel j ≡ Some record { tick = t; registered = t }) ticks (st.registered q j y at_q still_q at_j));
  }
    where
      new : Arming
      new = record { tick = tick; arm = sleeps.arm_count; is_moved = false; waker = waker }
