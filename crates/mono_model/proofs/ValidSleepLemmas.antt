-- The calls on sleeps keep what holds of them.
use Rattle.std.proofs.Common.{◌≡◌, ◌≢◌, ◌<◌, ◌≤◌, inl, inr, ℕ, ◌+◌, true, false, cond, length, Some, None, Option, refl, ap, sym, subst, ◌∙◌, arith}
use Rattle.std.specs.Prelude.{nat_le, ◌||◌, nat_lt, IfSome}
use Rattle.std.proofs.lemmas.Bool.{cases_eq}
use Rattle.std.proofs.lemmas.Bool.Decides.{leb_tells}
use Rattle.std.proofs.lemmas.List.{get_or-set_other, get_or-set_same}
use Rattle.mono_model.specs.Table.{Table, value_at, count_of, with_value, with_next, without}
use Rattle.mono_model.specs.Sleeps.{Sleeps, Sleep, Arming, fresh, armed, elapsed, with_sleep, without_sleep, with_next_sleep, armed_anew, armed_later, armed_above, after_arming}
use Rattle.mono_model.specs.Valid.{IsValidSleep, AreValidSleeps}
use Rattle.mono_model.proofs.CountLemmas.{count_of-with_value, count_of-with_next, count_of-without}
use Rattle.mono_model.proofs.ValidTaskLemmas.{at_given, value_before, value_last}

some-armed : (a b : Arming) → Some (armed a) ≡ Some (armed b) → a ≡ b
some-armed a b e = cc

none-armed : (b : Arming) → None ≡ Some (armed b) → ⊥
none-armed b e = cc

fresh-armed : (n : ℕ) (b : Arming) → Some (fresh n) ≡ Some (armed b) → ⊥
fresh-armed n b e = cc

elapsed-armed : (b : Arming) → Some elapsed ≡ Some (armed b) → ⊥
elapsed-armed b e = cc

-- the arm number of an armed sleep is no other sleep's
abbrev IsAlone : Sleeps → ℕ → Sleep → Type 0
IsAlone sl s new = (q : ℕ) (a b : Arming) → q ≢ s → Some new ≡ Some (armed a) → value_at sl.table q ≡ Some (armed b) → a.arm ≡ b.arm → ⊥

more_arms : (next n : ℕ) (sl : Sleeps) (table : Table Sleep) → sl.arm_count ≤ n → (v : Option Sleep) → IfSome v (IsValidSleep next sl)
    → IfSome v (IsValidSleep next (record { table = table; greatest = sl.greatest; arm_count = n; limit = sl.limit }))
more_arms next n sl table le None valid = tt
more_arms next n sl table le (Some (fresh nanos)) valid = tt
more_arms next n sl table le (Some (armed a)) valid = (valid.0, omega (arith, valid.1, le), valid.2)
more_arms next n sl table le (Some elapsed) valid = tt

-- the sleep s is written, and no other
written : (next n : ℕ) (sl : Sleeps) (s : ℕ) (old new : Sleep) → AreValidSleeps next sl → value_at sl.table s ≡ Some old → sl.arm_count ≤ n
    → IsValidSleep next (record { table = with_value sl.table s new; greatest = sl.greatest; arm_count = n; limit = sl.limit }) new → IsAlone sl s new
    → AreValidSleeps next (record { table = with_value sl.table s new; greatest = sl.greatest; arm_count = n; limit = sl.limit })
written next n sl s old new valid at le new_valid alone =
    let here : value_at (with_value sl.table s new) s ≡ Some new = get_or-set_same sl.table s (Some new) None (at_given sl.table s old at) in
    let there : (q : ℕ) → q ≢ s → value_at (with_value sl.table s new) q ≡ value_at sl.table q = λ q apart. get_or-set_other sl.table s q (Some new) None apart in
    let read : (q : ℕ) → q ≡ s → value_at (with_value sl.table s new) q ≡ Some new = λ q same. ap (λ x. value_at (with_value sl.table s new) x) same ∙ here in
    record {
      each = λ q. elim (cases_eq q s) [
        | inl same ↦ rw (read q same) new_valid
        | inr apart ↦ rw (there q apart) (more_arms next n sl (with_value sl.table s new) le (value_at sl.table q) (valid.each q))
      ];
      arms_differ = λ p q a b at_p at_q same_arm. elim (cases_eq p s) [
        | inl p_is ↦ elim (cases_eq q s) [
          | inl q_is ↦ p_is ∙ sym q_is
          | inr q_apart ↦ absurd (alone q a b q_apart (sym (read p p_is) ∙ at_p) (sym (there q q_apart) ∙ at_q) same_arm)
        ]
        | inr p_apart ↦ elim (cases_eq q s) [
          | inl q_is ↦ absurd (alone p b a p_apart (sym (read q q_is) ∙ at_q) (sym (there p p_apart) ∙ at_p) (sym same_arm))
          | inr q_apart ↦ valid.arms_differ p q a b (sym (there p p_apart) ∙ at_p) (sym (there q q_apart) ∙ at_q) same_arm
        ]
      ];
      within = omega (arith, valid.within, count_of-with_value sl.table s old new at);
    }

module _ (next : ℕ) (sl : Sleeps) (valid : AreValidSleeps next sl) (s : ℕ) where
  pub valid_elapsed : (old : Sleep) → value_at sl.table s ≡ Some old → AreValidSleeps next (with_sleep sl s elapsed)
  valid_elapsed old at = written next sl.arm_count sl s old elapsed valid at (omega arith) tt (λ q a b apart is. absurd (elapsed-armed a is))

  pub at_armed : (a : Arming) → value_at sl.table s ≡ Some (armed a) → IsValidSleep next sl (armed a)
  at_armed a at = subst (λ v. IfSome v (IsValidSleep next sl)) at (valid.each s)

  -- the arm number stays, and the tick is above the greatest
  pub valid_same_arm : (a b : Arming) → value_at sl.table s ≡ Some (armed a) → b.arm ≡ a.arm → sl.greatest < b.tick → IfSome b.waker (λ t. t < next) → AreValidSleeps next (with_sleep sl s (armed b))
  valid_same_arm a b at same above issued =
      written next sl.arm_count sl s (armed a) (armed b) valid at (omega arith) (above, omega (arith, same, (at_armed a at).1), issued)
      (λ q x y apart is at_q arms. apart (sym (valid.arms_differ s q a y at at_q (sym same ∙ ap (λ z. z.arm) (some-armed b x is) ∙ arms))))

  pub valid_anew : (old : Sleep) (tick : ℕ) (waker : Option ℕ) → value_at sl.table s ≡ Some old → sl.greatest < tick → IfSome waker (λ t. t < next) → AreValidSleeps next (armed_anew sl s tick waker)
  valid_anew old tick waker at above issued =
      let new : Arming = record { tick = tick; arm = sl.arm_count; is_moved = false; waker = waker } in
      written next (sl.arm_count + 1) sl s old (armed new) valid at (omega arith) (above, omega arith, issued)
      (λ q x y apart is at_q arms.
      let below : y.arm < sl.arm_count = (subst (λ v. IfSome v (IsValidSleep next sl)) at_q (valid.each q)).1 in
      omega (arith, below, arms, ap (λ z. z.arm) (some-armed new x is)))

  valid_above : (old : Sleep) (tick : ℕ) → value_at sl.table s ≡ Some old → sl.greatest < tick → AreValidSleeps next (armed_above old sl s tick)
  valid_above (fresh n) tick at above = valid_anew (fresh n) tick None at above tt
  valid_above (armed a) tick at above =
      elim (nat_le a.tick tick) as (λ b. AreValidSleeps next (cond b (armed_later sl s tick a) (armed_anew sl s tick a.waker))) [
        | true ↦ valid_same_arm a (record { tick = tick; arm = a.arm; is_moved = a.is_moved || nat_lt a.tick tick; waker = a.waker }) at refl above (at_armed a at).2
        | false ↦ valid_anew (armed a) tick a.waker at above (at_armed a at).2
      ]
  valid_above elapsed tick at above = valid_anew elapsed tick None at above tt

  pub valid_armed : (old : Sleep) (tick : ℕ) → value_at sl.table s ≡ Some old → AreValidSleeps next (after_arming old sl s tick)
  valid_armed old tick at = elim (leb_tells tick sl.greatest) [
    | inl t ↦ rw t.0 (valid_elapsed old at)
    | inr t ↦ rw t.0 (valid_above old tick at t.1)
  ]

  pub valid_gone : (old : Sleep) → value_at sl.table s ≡ Some old → AreValidSleeps next (without_sleep sl s)
  valid_gone old at =
      let here : value_at (without sl.table s) s ≡ None = get_or-set_same sl.table s None None (at_given sl.table s old at) in
      let there : (q : ℕ) → q ≢ s → value_at (without sl.table s) q ≡ value_at sl.table q = λ q apart. get_or-set_other sl.table s q None None apart in
      let kept : (q : ℕ) (b : Arming) → value_at (without sl.table s) q ≡ Some (armed b) → value_at sl.table q ≡ Some (armed b) = λ q b at_q. elim (cases_eq q s) [
        | inl same ↦ absurd (none-armed b (sym here ∙ ap (λ x. value_at (without sl.table s) x) (sym same) ∙ at_q))
        | inr apart ↦ sym (there q apart) ∙ at_q
      ] in
      record {
        each = λ q. elim (cases_eq q s) [
          | inl same ↦ rw (same, here) tt
          | inr apart ↦ rw (there q apart) (more_arms next sl.arm_count sl (without sl.table s) (omega arith) (value_at sl.table q) (valid.each q))
        ];
        arms_differ = λ p q a b at_p at_q. valid.arms_differ p q a b (kept p a at_p) (kept q b at_q);
        within = omega (arith, valid.within, count_of-without sl.table s);
      }

pub valid_next_sleep : (next : ℕ) (sl : Sleeps) (n : ℕ) → count_of sl.table < sl.limit → AreValidSleeps next sl → AreValidSleeps next (with_next_sleep sl (fresh n))
valid_next_sleep next sl n room valid =
    let kept : (q : ℕ) (b : Arming) → value_at (with_next sl.table (fresh n)) q ≡ Some (armed b) → value_at sl.table q ≡ Some (armed b) = λ q b at_q. elim (cases_eq q (length sl.table)) [
      | inl same ↦ absurd (fresh-armed n b (sym (value_last sl.table (fresh n)) ∙ ap (λ x. value_at (with_next sl.table (fresh n)) x) (sym same) ∙ at_q))
      | inr apart ↦ sym (value_before sl.table (fresh n) q apart) ∙ at_q
    ] in
    record {
      each = λ q. elim (cases_eq q (length sl.table)) [
        | inl same ↦ rw (same, value_last sl.table (fresh n)) tt
        | inr apart ↦ rw (value_before sl.table (fresh n) q apart) (more_arms next sl.arm_count sl (with_next sl.table (fresh n)) (omega arith) (value_at sl.table q) (valid.each q))
      ];
      arms_differ = λ p q a b at_p at_q. valid.arms_differ p q a b (kept p a at_p) (kept q b at_q);
      within = omega (arith, room, count_of-with_next sl.table (fresh n));
    }

issued_later : (next more : ℕ) → next ≤ more → (w : Option ℕ) → IfSome w (λ t. t < next) → IfSome w (λ t. t < more)
issued_later next more le None is = tt
issued_later next more le (Some t) is = omega (arith, is, le)

later_each : (next more : ℕ) (sl : Sleeps) → next ≤ more → (v : Option Sleep) → IfSome v (IsValidSleep next sl) → IfSome v (IsValidSleep more sl)
later_each next more sl le None valid = tt
later_each next more sl le (Some (fresh n)) valid = tt
later_each next more sl le (Some (armed a)) valid = (valid.0, valid.1, issued_later next more le a.waker valid.2)
later_each next more sl le (Some elapsed) valid = tt

-- once more tasks were given out
pub valid_later : (next more : ℕ) (sl : Sleeps) → next ≤ more → AreValidSleeps next sl → AreValidSleeps more sl
valid_later next more sl le valid = record { each = λ q. later_each next more sl le (value_at sl.table q) (valid.each q); arms_differ = valid.arms_differ; within = valid.within }
