-- One more sleep, or none if out of memory.
use Rattle.std.proofs.Common.{◌≡◌, ◌≢◌, ◌<◌, ◌⊎◌, ◌^◌, inl, inr, ℕ, ◌+◌, ◌-◌, zero, suc, true, false, List, [], ◌∷◌, ◌++◌, length, set, Some, None, refl, ap, sym, subst, ◌∙◌, arith}
use Rattle.std.specs.Prelude.{Option, slice_get, is_some, nat_le, ◌==◌, ◌||◌}
use Rattle.std.specs.Option.{option_map}
use Rattle.std.proofs.lemmas.Bool.{cases_eq, cases_lt}
use Rattle.std.proofs.lemmas.List.{map-append, length_push, get_or_append_left, get_or_push, get_or_past}
use Rattle.std.proofs.lemmas.Option.{slice_get_within}
use Rattle.mono_model.specs.Ticks.{up}
use Rattle.mono_model.specs.Table.{Table, value_at, with_next, table_of, count_of, is_full}
use Rattle.mono_model.specs.Sleeps as model
use Rattle.mono_model.specs.Sleeps.{Sleeps, Arming, with_next_sleep}
use Rattle.mono_model.proofs.CountLemmas.{count_of-with_next}
use Rattle.mono_model.proofs.TableOfLemmas.{table_of-next, table_of-same, length-table_of, value_at-table_of}
use Rattle.mono_wheel.specs.Model.{Wheel, timed_at, is_reserved}
use Rattle.mono_time.specs.Sleeps.{fresh}
use Rattle.mono_time.specs.Entries.{kept_of, owner_of, is_armed_entry, fresh_tick_of}
use Rattle.mono_time.specs.Representation.{Holds, KeyMade, NoKeyMade, EntriesStay, kept_at, kept_under}
use Rattle.mono_time.specs.Refinement.{Standing, seen}
use Rattle.mono_time.specs.declared.entry.Entry.{Entry}
use Rattle.mono_time.specs.declared.entry.State.TheVariants.{Fresh}
use Rattle.mono_time.proofs.FitLemmas.{ahead-same}
use Rattle.mono_time.proofs.CountLemmas.{count_of-same}
use Rattle.mono_time.proofs.SleepChangeLemmas.{some-same, none-some, given_inside}
use Rattle.mono_time.proofs.SliceLemmas.{slice_get-set_in, slice_get-set_other}
use Rattle.mono_time.proofs.RefinementLemmas.{same_length, value-seen}
use Rattle.mono_time.proofs.TimersWriteLemmas.{table_kept, key_inside, entry_there}

false-true : false ≡ true → ⊥
false-true e = cc

-- No further sleep is given out if and only if the live ones are at the limit.
module _ (wheel : Wheel) (keys : Table ℕ) (entries : List Entry) (greatest live : ℕ) (holds : Holds wheel keys entries greatest live) where
  is_some-kept : (q : ℕ) → is_some (kept_at wheel keys entries q) ≡ is_some (value_at keys q)
  is_some-kept q = by (value_at keys q) refl
    where
      by : (v : Option ℕ) → value_at keys q ≡ v → is_some (kept_under wheel entries v) ≡ is_some v
      by None at = refl
      by (Some j) at = ap (λ x. is_some (kept_of (timed_at wheel j) x)) (entry_there wheel keys entries greatest live holds q j at).1

  full-by : {V : Type 0} (table : Table V) (limit : ℕ) → length table ≡ length keys → ((q : ℕ) → is_some (value_at table q) ≡ is_some (value_at keys q)) → is_full table limit ≡ (nat_le limit live || (length keys == 2 ^ 64 - 1))
  full-by table limit long same =
      ap (λ n. nat_le limit n || (length table == 2 ^ 64 - 1)) (count_of-same table keys long same ∙ sym holds.live_count)
      ∙ ap (λ n. nat_le limit live || (n == 2 ^ 64 - 1)) long

  value-kept : (q : ℕ) → is_some (value_at (table_kept wheel keys entries) q) ≡ is_some (value_at keys q)
  value-kept q = elim (cases_lt q (length keys)) [
    | inl inside ↦ ap is_some (value_at-table_of (kept_at wheel keys entries) (length keys) q inside) ∙ is_some-kept q
    | inr past ↦ ap is_some (get_or_past (table_kept wheel keys entries) q None (omega (arith, past, length-table_of (kept_at wheel keys entries) (length keys)))) ∙ sym (ap is_some (get_or_past keys q None past))
  ]

  pub full-kept : (limit : ℕ) → is_full (table_kept wheel keys entries) limit ≡ (nat_le limit live || (length keys == 2 ^ 64 - 1))
  full-kept limit = full-by (table_kept wheel keys entries) limit (length-table_of (kept_at wheel keys entries) (length keys)) value-kept

  -- as many live as there are
  pub live-kept : count_of (table_kept wheel keys entries) ≡ live
  live-kept = count_of-same (table_kept wheel keys entries) keys (length-table_of (kept_at wheel keys entries) (length keys)) value-kept ∙ sym holds.live_count

  is_some-seen : (v : Option model.Sleep) → is_some v ≡ is_some (option_map seen v)
  is_some-seen None = refl
  is_some-seen (Some sleep) = refl

  pub full-machine : (limit : ℕ) (m : Sleeps) → Standing wheel keys entries greatest limit m → is_full m.table m.limit ≡ (nat_le limit live || (length keys == 2 ^ 64 - 1))
  full-machine limit m st =
      ap (is_full m.table) st.same_limit
      ∙ full-by m.table limit (same_length wheel keys entries greatest limit m st) (λ q. is_some-seen (value_at m.table q) ∙ ap is_some (value-seen wheel keys entries greatest limit m st q) ∙ is_some-kept q)

module _ (wheel left : Wheel) (keys : Table ℕ) (entries after : List Entry) (greatest live : ℕ) (holds : Holds wheel keys entries greatest live) where
  -- an entry of a live sleep stays
  stays : EntriesStay entries after → (q j : ℕ) → value_at keys q ≡ Some j → slice_get after j ≡ slice_get entries j
  stays stay q j at_q = stay j (key_inside wheel keys entries greatest live holds q j at_q)

  owned-inside : (j : ℕ) → is_some (timed_at wheel j) ≡ true → j < length entries
  owned-inside j in_wheel = by (slice_get entries j) refl (holds.owned j in_wheel)
    where
      by : (v : Option Entry) → slice_get entries j ≡ v → is_some (owner_of v) ≡ true → j < length entries
      by None is some = absurd (cc)
      by (Some e) is some = slice_get_within entries j e is

  module _ (k tick : ℕ) (made : KeyMade wheel left keys (keys ++ Some k ∷ []) entries after k) (below : tick < 2 ^ 63) where
    abbrev new_entry : Entry
    new_entry = record { sleep = length keys; state = Fresh tick }

    other_key : (q j : ℕ) → value_at keys q ≡ Some j → j ≢ k
    other_key q j at_q is = false-true (sym made.was_free ∙ ap (is_reserved wheel) (sym is) ∙ holds.reserved q j at_q)

    -- a number has the new key, or is one that was there
    given : (q j : ℕ) → value_at (keys ++ Some k ∷ []) q ≡ Some j → ((q ≡ length keys) × (j ≡ k)) ⊎ (value_at keys q ≡ Some j)
    given q j at_q = elim (cases_lt q (length keys)) [
      | inl before ↦ inr (sym (get_or_append_left keys (Some k ∷ []) None q before) ∙ at_q)
      | inr not_before ↦ elim (cases_eq q (length keys)) [
        | inl last ↦ inl (last, some-same _ _ (sym at_q ∙ get_or_push keys (Some k) None q (sym last)))
        | inr past ↦ absurd (none-some j (sym (get_or_past (keys ++ Some k ∷ []) q None (omega (arith, not_before, past, length_push keys (Some k)))) ∙ at_q))
      ]
    ]

    entry_here : slice_get (set after k new_entry) k ≡ Some new_entry
    entry_here = slice_get-set_in after k new_entry made.inside

    entry_other : (q j : ℕ) → value_at keys q ≡ Some j → slice_get (set after k new_entry) j ≡ slice_get entries j
    entry_other q j at_q = slice_get-set_other after k j new_entry (other_key q j at_q) ∙ stays made.entries_stay q j at_q

    not_new : (j : ℕ) → is_some (timed_at left j) ≡ true → j ≢ k
    not_new j in_wheel is = false-true (sym (ap is_some made.is_out) ∙ ap (λ x. is_some (timed_at left x)) (sym is) ∙ in_wheel)

    was_in : (j : ℕ) → is_some (timed_at left j) ≡ true → is_some (timed_at wheel j) ≡ true
    was_in j in_wheel = sym (ap is_some (made.keys_stay.same_ticks j)) ∙ in_wheel

    entry_in : (j : ℕ) → is_some (timed_at left j) ≡ true → slice_get (set after k new_entry) j ≡ slice_get entries j
    entry_in j in_wheel = slice_get-set_other after k j new_entry (not_new j in_wheel) ∙ made.entries_stay j (owned-inside j (was_in j in_wheel))

    pub holds-added : Holds left (keys ++ Some k ∷ []) (set after k new_entry) greatest (live + 1)
    holds-added = record {
      owners = λ q j at_q. elim (given q j at_q) [
        | inl new ↦ ap (λ x. owner_of (slice_get (set after k new_entry) x)) new.1 ∙ ap owner_of entry_here ∙ ap Some (sym new.0)
        | inr old ↦ ap owner_of (entry_other q j old) ∙ holds.owners q j old
      ];
      reserved = λ q j at_q. elim (given q j at_q) [
        | inl new ↦ ap (is_reserved left) new.1 ∙ made.now_reserved
        | inr old ↦ made.keys_stay.same_reserved j (other_key q j old) ∙ holds.reserved q j old
      ];
      is_in = λ q j at_q. elim (given q j at_q) [
        | inl new ↦ ap (λ x. is_some (timed_at left x)) new.1 ∙ ap is_some made.is_out ∙ sym (ap (λ x. is_armed_entry (slice_get (set after k new_entry) x)) new.1 ∙ ap is_armed_entry entry_here)
        | inr old ↦ ap is_some (made.keys_stay.same_ticks j) ∙ holds.is_in q j old ∙ sym (ap is_armed_entry (entry_other q j old))
      ];
      fresh_below = λ q j at_q. elim (given q j at_q) [
        | inl new ↦ subst (λ x. fresh_tick_of (slice_get (set after k new_entry) x) < 2 ^ 63) (sym new.1) (subst (λ v. fresh_tick_of v < 2 ^ 63) (sym entry_here) below)
        | inr old ↦ subst (λ v. fresh_tick_of v < 2 ^ 63) (sym (entry_other q j old)) (holds.fresh_below q j old)
      ];
      owned = λ j in_wheel. ap (λ v. is_some (owner_of v)) (entry_in j in_wheel) ∙ holds.owned j (was_in j in_wheel);
      back = λ j q in_wheel owned.
          let at_q : value_at keys q ≡ Some j = holds.back j q (was_in j in_wheel) (sym (ap owner_of (entry_in j in_wheel)) ∙ owned) in
          get_or_append_left keys (Some k ∷ []) None q (given_inside keys q j at_q) ∙ at_q;
      used = λ j is_used nobody. elim (cases_eq j k) [
        | inl here ↦ nobody (length keys) (get_or_push keys (Some k) None (length keys) refl ∙ ap Some (sym here))
        | inr apart ↦ holds.used j (sym (made.keys_stay.same_reserved j apart) ∙ is_used)
            (λ q at_q. nobody q (get_or_append_left keys (Some k ∷ []) None q (given_inside keys q j at_q) ∙ at_q))
      ];
      elapsed = omega (arith, made.keys_stay.same_elapsed, holds.elapsed);
      greatest_below = holds.greatest_below;
      live_count = omega (arith, holds.live_count, count_of-with_next keys k);
      ahead = ahead-same wheel left holds.ahead made.keys_stay.same_ticks made.keys_stay.same_elapsed;
    }

    kept_new : kept_at left (keys ++ Some k ∷ []) (set after k new_entry) (length keys) ≡ Some (fresh tick)
    kept_new = ap (kept_under left (set after k new_entry)) (get_or_push keys (Some k) None (length keys) refl) ∙ ap (kept_of (timed_at left k)) entry_here

    kept_old : (q : ℕ) → q < length keys → kept_at left (keys ++ Some k ∷ []) (set after k new_entry) q ≡ kept_at wheel keys entries q
    kept_old q before = ap (kept_under left (set after k new_entry)) (get_or_append_left keys (Some k ∷ []) None q before) ∙ by (value_at keys q) refl
      where
        by : (v : Option ℕ) → value_at keys q ≡ v → kept_under left (set after k new_entry) v ≡ kept_under wheel entries v
        by None at = refl
        by (Some j) at = ap (λ v. kept_of (timed_at left j) v) (entry_other q j at) ∙ ap (λ t. kept_of t (slice_get entries j)) (made.keys_stay.same_ticks j)

    pub table-added : table_kept left (keys ++ Some k ∷ []) (set after k new_entry) ≡ with_next (table_kept wheel keys entries) (fresh tick)
    table-added =
        let long : length (keys ++ Some k ∷ []) ≡ suc (length keys) = omega (arith, length_push keys (Some k)) in
        ap (table_of (kept_at left (keys ++ Some k ∷ []) (set after k new_entry))) long
        ∙ table_of-next (kept_at wheel keys entries) (kept_at left (keys ++ Some k ∷ []) (set after k new_entry)) (length keys) (fresh tick) kept_new kept_old

    -- Each armed sleep was there before.
    was_armed : (table : Table model.Sleep) (n q : ℕ) (a : Arming) → value_at (with_next table (model.fresh n)) q ≡ Some (model.armed a) → value_at table q ≡ Some (model.armed a)
    was_armed [] n zero a is = absurd (cc)
    was_armed [] n (suc q) a is = is
    was_armed (x ∷ xs) n zero a is = is
    was_armed (x ∷ xs) n (suc q) a is = was_armed xs n q a is

    armed-inside : (limit : ℕ) (m : Sleeps) → Standing wheel keys entries greatest limit m → (q j : ℕ) (a : Arming) → value_at m.table q ≡ Some (model.armed a) → value_at (keys ++ Some k ∷ []) q ≡ Some j → value_at keys q ≡ Some j
    armed-inside limit m st q j a is at_q =
        let inside : q < length keys = omega (arith, given_inside m.table q _ is, same_length wheel keys entries greatest limit m st) in
        sym (get_or_append_left keys (Some k ∷ []) None q inside) ∙ at_q

    pub standing-added : (limit n : ℕ) (m : Sleeps) → tick ≡ up n → Standing wheel keys entries greatest limit m → Standing left (keys ++ Some k ∷ []) (set after k new_entry) greatest limit (with_next_sleep m (model.fresh n))
    standing-added limit n m is_up st = record {
      table = map-append (option_map seen) m.table (Some (model.fresh n) ∷ []) ∙ ap (λ xs. xs ++ Some (fresh (up n)) ∷ []) st.table ∙ ap (λ t. with_next (table_kept wheel keys entries) (fresh t)) (sym is_up) ∙ sym table-added;
      same_greatest = st.same_greatest;
      same_limit = st.same_limit;
      arms_below = λ q a is. st.arms_below q a (was_armed m.table n q a is);
      arms_differ = λ q p a b apart is_q is_p. st.arms_differ q p a b apart (was_armed m.table n q a is_q) (was_armed m.table n p b is_p);
      registered = λ q j a is still at_q.
          let was = was_armed m.table n q a is in
          made.keys_stay.same_ticks j ∙ st.registered q j a was still (armed-inside limit m st q j a was at_q);
      in_order = λ q p i j a b is_q is_p still_a still_b at_q at_p ticks arms.
          let was_q = was_armed m.table n q a is_q in
          let was_p = was_armed m.table n p b is_p in
          made.keys_stay.same_order i j (st.in_order q p i j a b was_q was_p still_a still_b (armed-inside limit m st q i a was_q at_q) (armed-inside limit m st p j b was_p at_p) ticks arms)
          (made.keys_stay.same_ticks i) (made.keys_stay.same_ticks j);
    }

  module _ (none : NoKeyMade wheel left keys keys entries after) where
    entry_same : (j : ℕ) → is_some (timed_at left j) ≡ true → slice_get after j ≡ slice_get entries j
    entry_same j in_wheel = none.entries_stay j (owned-inside j (sym (ap is_some (none.same_ticks j)) ∙ in_wheel))

    pub holds-same : Holds left keys after greatest live
    holds-same = record {
      owners = λ q j at_q. ap owner_of (stays none.entries_stay q j at_q) ∙ holds.owners q j at_q;
      reserved = λ q j at_q. none.same_reserved j ∙ holds.reserved q j at_q;
      is_in = λ q j at_q. ap is_some (none.same_ticks j) ∙ holds.is_in q j at_q ∙ sym (ap is_armed_entry (stays none.entries_stay q j at_q));
      fresh_below = λ q j at_q. subst (λ v. fresh_tick_of v < 2 ^ 63) (sym (stays none.entries_stay q j at_q)) (holds.fresh_below q j at_q);
      owned = λ j in_wheel. ap (λ v. is_some (owner_of v)) (entry_same j in_wheel) ∙ holds.owned j (sym (ap is_some (none.same_ticks j)) ∙ in_wheel);
      back = λ j q in_wheel owned. holds.back j q (sym (ap is_some (none.same_ticks j)) ∙ in_wheel) (sym (ap owner_of (entry_same j in_wheel)) ∙ owned);
      used = λ j is_used. holds.used j (sym (none.same_reserved j) ∙ is_used);
      elapsed = omega (arith, none.same_elapsed, holds.elapsed);
      greatest_below = holds.greatest_below;
      live_count = holds.live_count;
      ahead = ahead-same wheel left holds.ahead none.same_ticks none.same_elapsed;
    }

    kept_same : (q : ℕ) → kept_at left keys after q ≡ kept_at wheel keys entries q
    kept_same q = by (value_at keys q) refl
      where
        by : (v : Option ℕ) → value_at keys q ≡ v → kept_under left after v ≡ kept_under wheel entries v
        by None at = refl
        by (Some j) at = ap (λ v. kept_of (timed_at left j) v) (stays none.entries_stay q j at) ∙ ap (λ t. kept_of t (slice_get entries j)) (none.same_ticks j)

    pub table-same : table_kept left keys after ≡ table_kept wheel keys entries
    table-same = table_of-same (kept_at left keys after) (kept_at wheel keys entries) (length keys) (λ q inside. kept_same q)

    pub standing-same : (limit : ℕ) (m : Sleeps) → Standing wheel keys entries greatest limit m → Standing left keys after greatest limit m
    standing-same limit m st = record {
      table = st.table ∙ sym table-same;
      same_greatest = st.same_greatest;
      same_limit = st.same_limit;
      arms_below = st.arms_below;
      arms_differ = st.arms_differ;
      registered = λ q j a is still at_q. none.same_ticks j ∙ st.registered q j a is still at_q;
      in_order = λ q p i j a b is_q is_p still_a still_b at_q at_p ticks arms.
          none.same_order i j (st.in_order q p i j a b is_q is_p still_a still_b at_q at_p ticks arms) (none.same_ticks i) (none.same_ticks j);
    }

-- The made sleep, with the keys written out.
pub made_at : (wheel left : Wheel) (keys new : Table ℕ) (entries after : List Entry) (k : ℕ) → KeyMade wheel left keys new entries after k → KeyMade wheel left keys (keys ++ Some k ∷ []) entries after k
made_at wheel left keys new entries after k made = record {
  was_free = made.was_free;
  now_reserved = made.now_reserved;
  is_out = made.is_out;
  keys_stay = made.keys_stay;
  one_more = refl;
  inside = made.inside;
  entries_stay = made.entries_stay;
}

pub none_at : (wheel left : Wheel) (keys new : Table ℕ) (entries after : List Entry) → NoKeyMade wheel left keys new entries after → NoKeyMade wheel left keys keys entries after
none_at wheel left keys new entries after none = record {
  same_ticks = none.same_ticks;
  same_reserved = none.same_reserved;
  same_order = none.same_order;
  same_elapsed = none.same_elapsed;
  same_keys = refl;
  entries_stay = none.entries_stay;
}

-- what holds of the keys and of the entry with the next number, holds of those that are equal
pub at_next : (P : Table ℕ → ℕ → Type 0) (keys new : Table ℕ) (k number : ℕ) → new ≡ keys ++ Some k ∷ [] → number ≡ length keys → P (keys ++ Some k ∷ []) (length keys) → P new number
at_next P keys new k number is_keys is_number p = subst (λ n. P new n) (sym is_number) (subst (λ ks. P ks (length keys)) (sym is_keys) p)
