-- One sleep of the machine is in another state, and the timers refine it.
use Rattle.std.proofs.Common.{◌≡◌, ◌≢◌, ◌<◌, ◌≤◌, inl, inr, ℕ, false, List, length, get_or, set, Some, None, refl, ap, sym, subst, ◌∙◌, arith}
use Rattle.std.specs.Prelude.{Option, slice_get}
use Rattle.std.specs.Option.{option_map}
use Rattle.std.proofs.lemmas.Bool.{cases_eq, cases_lt}
use Rattle.std.proofs.lemmas.List.{map-set, length-map, get_or-set_other, get_or-set_same, get_or_past}
use Rattle.std.proofs.Math.ListN.{get_or-map}
use Rattle.mono_model.specs.Table.{Table, value_at, with_value, table_of}
use Rattle.mono_model.specs.Sleeps as model
use Rattle.mono_model.specs.Sleeps.{Sleeps, Arming}
use Rattle.mono_model.proofs.TableOfLemmas.{length-table_of, value_at-table_of}
use Rattle.mono_wheel.specs.Model.{Wheel, Timed, timed_at, Precedes}
use Rattle.mono_time.specs.Sleeps.{Kept}
use Rattle.mono_time.specs.Entries.{kept_in}
use Rattle.mono_time.specs.Representation.{Holds, KeepsBut, kept_at, kept_under}
use Rattle.mono_time.specs.Refinement.{Standing, seen}
use Rattle.mono_time.specs.declared.entry.Entry.{Entry}
use Rattle.mono_time.proofs.SleepChangeLemmas.{some-same, none-some, given_inside, table-written, key_apart}

-- The place of a sleep that is in another state.
pub record Placed (wheel : Wheel) (keys : Table ℕ) (sleeps : Sleeps) (arms s k : ℕ) (new : model.Sleep) : Type 0 where
  pub below : (a : Arming) → new ≡ model.armed a → a.arm < arms
  pub differ : (a : Arming) → new ≡ model.armed a → (q : ℕ) (b : Arming) → q ≢ s → value_at sleeps.table q ≡ Some (model.armed b) → a.arm ≢ b.arm
  pub here : (a : Arming) → new ≡ model.armed a → a.is_moved ≡ false → timed_at wheel k ≡ Some record { tick = a.tick; registered = a.tick }
  pub before : (a : Arming) → new ≡ model.armed a → a.is_moved ≡ false → (q j : ℕ) (b : Arming) → q ≢ s → value_at sleeps.table q ≡ Some (model.armed b) → b.is_moved ≡ false
      → value_at keys q ≡ Some j → a.tick ≡ b.tick → a.arm < b.arm → Precedes wheel k j
  pub behind : (a : Arming) → new ≡ model.armed a → a.is_moved ≡ false → (q j : ℕ) (b : Arming) → q ≢ s → value_at sleeps.table q ≡ Some (model.armed b) → b.is_moved ≡ false
      → value_at keys q ≡ Some j → b.tick ≡ a.tick → b.arm < a.arm → Precedes wheel j k

module _ (wheel : Wheel) (keys : Table ℕ) (entries : List Entry) (greatest limit : ℕ) (sleeps : Sleeps) (st : Standing wheel keys entries greatest limit sleeps) where
  pub same_length : length sleeps.table ≡ length keys
  same_length = sym (length-map sleeps.table (option_map seen)) ∙ ap length st.table ∙ length-table_of (kept_at wheel keys entries) (length keys)

  -- The sleep that is kept at a number.
  pub value-seen : (s : ℕ) → option_map seen (value_at sleeps.table s) ≡ kept_at wheel keys entries s
  value-seen s = elim (cases_lt s (length keys)) [
    | inl inside ↦ sym (get_or-map (option_map seen) sleeps.table s None) ∙ ap (λ xs. get_or xs s None) st.table ∙ value_at-table_of (kept_at wheel keys entries) (length keys) s inside
    | inr past ↦ ap (option_map seen) (get_or_past sleeps.table s None (omega (arith, past, same_length))) ∙ sym (ap (kept_under wheel entries) (get_or_past keys s None past))
  ]

  -- If no key is given, the machine has no sleep.
  pub none_there : (s : ℕ) → value_at keys s ≡ None → value_at sleeps.table s ≡ None
  none_there s at = gone (value_at sleeps.table s) (value-seen s ∙ ap (kept_under wheel entries) at)
    where
      gone : (v : Option model.Sleep) → option_map seen v ≡ None → v ≡ None
      gone None is = refl
      gone (Some sleep) is = absurd (none-some _ (sym is))

  -- a sleep that is kept is one of the machine
  pub sleep_there : (s : ℕ) (kept : Kept) → kept_at wheel keys entries s ≡ Some kept → (sleep : model.Sleep) × (value_at sleeps.table s ≡ Some sleep) × (seen sleep ≡ kept)
  sleep_there s kept is = there (value_at sleeps.table s) refl
    where
      there : (v : Option model.Sleep) → value_at sleeps.table s ≡ v → (sleep : model.Sleep) × (value_at sleeps.table s ≡ Some sleep) × (seen sleep ≡ kept)
      there None at = absurd (none-some kept (sym (ap (option_map seen) at) ∙ value-seen s ∙ is))
      there (Some sleep) at = (sleep, at, some-same _ _ (sym (ap (option_map seen) at) ∙ value-seen s ∙ is))

module _ (wheel left : Wheel) (keys : Table ℕ) (entries : List Entry) (greatest live limit : ℕ) (holds : Holds wheel keys entries greatest live)
    (s k : ℕ) (e f : Entry) (at : value_at keys s ≡ Some k) (was : slice_get entries k ≡ Some e) (same : f.sleep ≡ e.sleep) (keeps : KeepsBut wheel left k)
    (sleeps : Sleeps) (st : Standing wheel keys entries greatest limit sleeps) (new : model.Sleep) (arms : ℕ) (more : sleeps.arm_count ≤ arms)
    (sees : seen new ≡ kept_in (timed_at left k) f.state) (placed : Placed left keys sleeps arms s k new) where
  abbrev written : Sleeps
  written = record { table = with_value sleeps.table s new; greatest = sleeps.greatest; arm_count = arms; limit = sleeps.limit }

  s_inside : s < length sleeps.table
  s_inside = omega (arith, given_inside keys s k at, same_length wheel keys entries greatest limit sleeps st)

  value_here : value_at written.table s ≡ Some new
  value_here = get_or-set_same sleeps.table s (Some new) None s_inside

  value_other : (q : ℕ) → q ≢ s → value_at written.table q ≡ value_at sleeps.table q
  value_other q apart = get_or-set_other sleeps.table s q (Some new) None apart

  -- An armed sleep is the new one, or was there before.
  armed_there : (q : ℕ) (a : Arming) → value_at written.table q ≡ Some (model.armed a) → q ≡ s → new ≡ model.armed a
  armed_there q a is here = some-same _ _ (sym value_here ∙ ap (value_at written.table) (sym here) ∙ is)

  was_there : (q : ℕ) (a : Arming) → value_at written.table q ≡ Some (model.armed a) → q ≢ s → value_at sleeps.table q ≡ Some (model.armed a)
  was_there q a is apart = sym (value_other q apart) ∙ is

  same_key : (q j : ℕ) → value_at keys q ≡ Some j → q ≡ s → j ≡ k
  same_key q j at_q here = some-same _ _ (sym at_q ∙ ap (value_at keys) here ∙ at)

  other_key : (q j : ℕ) → value_at keys q ≡ Some j → q ≢ s → j ≢ k
  other_key q j at_q apart = key_apart wheel left keys entries greatest live holds s k e f at was same keeps q j apart at_q

  registered_after : (q j : ℕ) (a : Arming) → value_at written.table q ≡ Some (model.armed a) → a.is_moved ≡ false → value_at keys q ≡ Some j → timed_at left j ≡ Some record { tick = a.tick; registered = a.tick }
  registered_after q j a is still at_q = elim (cases_eq q s) [
    | inl here ↦ ap (timed_at left) (same_key q j at_q here) ∙ placed.here a (armed_there q a is here) still
    | inr apart ↦ keeps.registered j a.tick (other_key q j at_q apart) (st.registered q j a (was_there q a is apart) still at_q)
  ]

  order_after : (q p i j : ℕ) (a b : Arming) → value_at written.table q ≡ Some (model.armed a) → value_at written.table p ≡ Some (model.armed b)
      → a.is_moved ≡ false → b.is_moved ≡ false → value_at keys q ≡ Some i → value_at keys p ≡ Some j → a.tick ≡ b.tick → a.arm < b.arm → Precedes left i j
  order_after q p i j a b is_q is_p still_a still_b at_q at_p tick less = elim (cases_eq q s) [
    | inl here_q ↦ elim (cases_eq p s) [
      | inl here_p ↦
          let one : a ≡ b = armed-same a b (sym (armed_there q a is_q here_q) ∙ armed_there p b is_p here_p) in
          absurd (omega (arith, less, ap (λ x. x.arm) one))
      | inr apart_p ↦ subst (λ x. Precedes left x j) (sym (same_key q i at_q here_q)) (placed.before a (armed_there q a is_q here_q) still_a p j b apart_p (was_there p b is_p apart_p) still_b at_p tick less)
    ]
    | inr apart_q ↦ elim (cases_eq p s) [
      | inl here_p ↦ subst (λ x. Precedes left i x) (sym (same_key p j at_p here_p)) (placed.behind b (armed_there p b is_p here_p) still_b q i a apart_q (was_there q a is_q apart_q) still_a at_q tick less)
      | inr apart_p ↦
          let reg_q = st.registered q i a (was_there q a is_q apart_q) still_a at_q in
          let reg_p : timed_at wheel j ≡ Some record { tick = a.tick; registered = a.tick } = st.registered p j b (was_there p b is_p apart_p) still_b at_p ∙ ap (λ t. Some (both t)) (sym tick) in
          keeps.order i j a.tick (other_key q i at_q apart_q) (other_key p j at_p apart_p) reg_q reg_p
          (st.in_order q p i j a b (was_there q a is_q apart_q) (was_there p b is_p apart_p) still_a still_b at_q at_p tick less)
    ]
  ]
    where
      both : ℕ → Timed
      both t = record { tick = t; registered = t }

      armed-same : (x y : Arming) → model.armed x ≡ model.armed y → x ≡ y
      armed-same x y e = cc

  pub standing-written : Standing left keys (set entries k f) greatest limit written
  standing-written = record {
    table = map-set (option_map seen) sleeps.table s (Some new) ∙ ap (λ xs. set xs s (Some (seen new))) st.table ∙ ap (λ v. set (table_of (kept_at wheel keys entries) (length keys)) s (Some v)) sees
        ∙ sym (table-written wheel left keys entries greatest live holds s k e f at was same keeps);
    same_greatest = st.same_greatest;
    same_limit = st.same_limit;
    arms_below = λ q a is. elim (cases_eq q s) [
      | inl here ↦ placed.below a (armed_there q a is here)
      | inr apart ↦ omega (arith, more, st.arms_below q a (was_there q a is apart))
    ];
    arms_differ = λ q p a b apart is_q is_p. elim (cases_eq q s) [
      | inl here_q ↦ elim (cases_eq p s) [
        | inl here_p ↦ absurd (apart (here_q ∙ sym here_p))
        | inr apart_p ↦ placed.differ a (armed_there q a is_q here_q) p b apart_p (was_there p b is_p apart_p)
      ]
      | inr apart_q ↦ elim (cases_eq p s) [
        | inl here_p ↦ λ same_arm. placed.differ b (armed_there p b is_p here_p) q a apart_q (was_there q a is_q apart_q) (sym same_arm)
        | inr apart_p ↦ st.arms_differ q p a b apart (was_there q a is_q apart_q) (was_there p b is_p apart_p)
      ]
    ];
    registered = registered_after;
    in_order = order_after;
  }
