-- A sleep is given up.
use Rattle.std.proofs.Common.{◌≡◌, ◌≢◌, ◌<◌, inl, inr, ℕ, ◌+◌, true, false, List, length, get_or, set, Some, None, Ok, refl, ap, sym, ◌∙◌, arith}
use Rattle.std.specs.Prelude.{Option, slice_get, is_some, Result, ⊤}
use Rattle.std.specs.Option.{option_map}
use Rattle.std.proofs.lemmas.Bool.{cases_eq}
use Rattle.std.proofs.lemmas.List.{map-set, length-set, get_or-set_other, get_or-set_same}
use Rattle.mono_model.specs.Table.{Table, value_at, without, table_of}
use Rattle.mono_model.specs.Sleeps as model
use Rattle.mono_model.specs.Sleeps.{Sleeps, Arming, without_sleep}
use Rattle.mono_model.proofs.TableOfLemmas.{table_of-set}
use Rattle.mono_wheel.specs.Model.{Wheel, Timed, timed_at, is_reserved, Precedes, KeepsOrder}
use Rattle.mono_model.specs.SleepActs as machine
use Rattle.mono_time.specs.Entries.{kept_in, tick_in, owner_of}
use Rattle.mono_time.specs.Representation.{Holds, kept_at, kept_under}
use Rattle.mono_time.specs.Refinement.{Standing, seen}
use Rattle.mono_time.specs.KeyCalls.{Out}
use Rattle.mono_time.specs.declared.entry.Entry.{Entry}
use Rattle.mono_model.specs.declared.error.Error.{Error}
use Rattle.mono_time.proofs.FitLemmas.{ahead-same, ahead-out}
use Rattle.mono_time.proofs.CountLemmas.{count_of-gone}
use Rattle.mono_time.proofs.SleepChangeLemmas.{some-same, none-some, given_inside, kept_of-ticks}
use Rattle.mono_time.proofs.RefinementLemmas.{same_length, sleep_there}
use Rattle.mono_time.proofs.TimersWriteLemmas.{table_kept, kept-there}

abbrev pub answered : ⊤ → Result ⊤ Error
answered x = Ok x

abbrev no_ticks : Option Timed
no_ticks = None

false-true : false ≡ true → ⊥
false-true e = cc

none-some-true : is_some no_ticks ≡ true → ⊥
none-some-true e = cc

module _ (wheel mid left : Wheel) (keys : Table ℕ) (entries : List Entry) (greatest live : ℕ) (holds : Holds wheel keys entries greatest live)
    (s k : ℕ) (at : value_at keys s ≡ Some k) (out : Out wheel mid k) (same_entries : left.entries ≡ mid.entries) (same_elapsed : left.elapsed ≡ mid.elapsed)
    (reserved_others : (other : ℕ) → other ≢ k → is_reserved left other ≡ is_reserved mid other) where
  timed-left : (j : ℕ) → timed_at left j ≡ timed_at mid j
  timed-left j = ap (λ xs. get_or xs j None) same_entries

  other_key : (q j : ℕ) → q ≢ s → value_at keys q ≡ Some j → j ≢ k
  other_key q j apart at_q is = apart (some-same _ _ (sym (holds.owners q j at_q) ∙ ap (λ x. owner_of (slice_get entries x)) is ∙ holds.owners s k at))

  value_gone : value_at (set keys s None) s ≡ None
  value_gone = get_or-set_same keys s None None (given_inside keys s k at)

  value_other : (q : ℕ) → q ≢ s → value_at (set keys s None) q ≡ value_at keys q
  value_other q apart = get_or-set_other keys s q None None apart

  -- a number that still has a key is another
  still_there : (q j : ℕ) → value_at (set keys s None) q ≡ Some j → (q ≢ s) × (value_at keys q ≡ Some j)
  still_there q j at_q = elim (cases_eq q s) [
    | inl here ↦ absurd (none-some j (sym value_gone ∙ ap (value_at (set keys s None)) (sym here) ∙ at_q))
    | inr apart ↦ (apart, sym (value_other q apart) ∙ at_q)
  ]

  not_out : (j : ℕ) → is_some (timed_at left j) ≡ true → j ≢ k
  not_out j there is = none-some-true (sym (ap is_some (timed-left j ∙ ap (timed_at mid) is ∙ out.gone)) ∙ there)

  pub holds-removed : (fewer : ℕ) → fewer + 1 ≡ live → is_reserved left k ≡ false → Holds left (set keys s None) entries greatest fewer
  holds-removed fewer count freed = record {
    owners = λ q j at_q. holds.owners q j (still_there q j at_q).1;
    reserved = λ q j at_q. let there = still_there q j at_q in
        reserved_others j (other_key q j there.0 there.1) ∙ out.keeps.reserved j ∙ holds.reserved q j there.1;
    is_in = λ q j at_q. let there = still_there q j at_q in
        ap is_some (timed-left j) ∙ out.keeps.in_or_out j (other_key q j there.0 there.1) ∙ holds.is_in q j there.1;
    fresh_below = λ q j at_q. holds.fresh_below q j (still_there q j at_q).1;
    owned = λ j in_wheel. holds.owned j (sym (ap is_some (timed-left j) ∙ out.keeps.in_or_out j (not_out j in_wheel)) ∙ in_wheel);
    back = λ j q in_wheel owned.
        let at_q : value_at keys q ≡ Some j = holds.back j q (sym (ap is_some (timed-left j) ∙ out.keeps.in_or_out j (not_out j in_wheel)) ∙ in_wheel) owned in
        value_other q (λ is. not_out j in_wheel (some-same _ _ (sym at_q ∙ ap (value_at keys) is ∙ at))) ∙ at_q;
    used = λ j is_used nobody.
        let other : j ≢ k = λ is. false-true (sym freed ∙ ap (is_reserved left) (sym is) ∙ is_used) in
        holds.used j (sym (reserved_others j other ∙ out.keeps.reserved j) ∙ is_used)
        (λ q at_q. nobody q (value_other q (λ is. other (some-same _ _ (sym at_q ∙ ap (value_at keys) is ∙ at))) ∙ at_q));
    elapsed = omega (arith, same_elapsed, out.elapsed, holds.elapsed);
    greatest_below = holds.greatest_below;
    live_count = omega (arith, count, holds.live_count, count_of-gone keys s k at);
    ahead = ahead-same mid left (ahead-out wheel mid holds.ahead k out) timed-left same_elapsed;
  }

  kept_case : (q : ℕ) → q ≢ s → (v : Option ℕ) → value_at keys q ≡ v → kept_under left entries v ≡ kept_under wheel entries v
  kept_case q apart None at_q = refl
  kept_case q apart (Some j) at_q = kept_of-ticks (timed_at left j) (timed_at wheel j) (slice_get entries j) (ap tick_in (timed-left j) ∙ out.keeps.ticks j (other_key q j apart at_q))

  kept_apart : (q : ℕ) → q ≢ s → kept_at left (set keys s None) entries q ≡ kept_at wheel keys entries q
  kept_apart q apart = ap (kept_under left entries) (value_other q apart) ∙ kept_case q apart (value_at keys q) refl

  pub table-removed : table_kept left (set keys s None) entries ≡ without (table_kept wheel keys entries) s
  table-removed = ap (table_of (kept_at left (set keys s None) entries)) (length-set keys s None)
      ∙ table_of-set (kept_at wheel keys entries) (kept_at left (set keys s None) entries) (length keys) s (given_inside keys s k at) kept_apart
      ∙ ap (λ v. set (table_kept wheel keys entries) s v) (ap (kept_under left entries) value_gone)

  module _ (limit : ℕ) (m : Sleeps) (st : Standing wheel keys entries greatest limit m) (order : KeepsOrder mid left) where
    inside : s < length m.table
    inside = omega (arith, given_inside keys s k at, same_length wheel keys entries greatest limit m st)

    was_there : (q : ℕ) (a : Arming) → value_at (set m.table s None) q ≡ Some (model.armed a) → (q ≢ s) × (value_at m.table q ≡ Some (model.armed a))
    was_there q a is = elim (cases_eq q s) [
      | inl here ↦ absurd (none-some _ (sym (get_or-set_same m.table s None None inside) ∙ ap (value_at (set m.table s None)) (sym here) ∙ is))
      | inr apart ↦ (apart, sym (get_or-set_other m.table s q None None apart) ∙ is)
    ]

    registered_after : (q j : ℕ) (a : Arming) → value_at (set m.table s None) q ≡ Some (model.armed a) → a.is_moved ≡ false → value_at (set keys s None) q ≡ Some j → timed_at left j ≡ Some record { tick = a.tick; registered = a.tick }
    registered_after q j a is still at_q =
        let there = still_there q j at_q in
        timed-left j ∙ out.keeps.registered j a.tick (other_key q j there.0 there.1) (st.registered q j a (was_there q a is).1 still there.1)

    order_after : (q p i j : ℕ) (a b : Arming) → value_at (set m.table s None) q ≡ Some (model.armed a) → value_at (set m.table s None) p ≡ Some (model.armed b)
        → a.is_moved ≡ false → b.is_moved ≡ false → value_at (set keys s None) q ≡ Some i → value_at (set keys s None) p ≡ Some j → a.tick ≡ b.tick → a.arm < b.arm → Precedes left i j
    order_after q p i j a b is_q is_p still_a still_b at_q at_p tick less =
        let there_q = still_there q i at_q in
        let there_p = still_there p j at_p in
        let reg_q : timed_at wheel i ≡ Some record { tick = a.tick; registered = a.tick } = st.registered q i a (was_there q a is_q).1 still_a there_q.1 in
        let reg_p : timed_at wheel j ≡ Some record { tick = a.tick; registered = a.tick } = st.registered p j b (was_there p b is_p).1 still_b there_p.1 ∙ ap (λ t. Some (both t)) (sym tick) in
        let before : Precedes mid i j = out.keeps.order i j a.tick (other_key q i there_q.0 there_q.1) (other_key p j there_p.0 there_p.1) reg_q reg_p
        (st.in_order q p i j a b (was_there q a is_q).1 (was_there p b is_p).1 still_a still_b there_q.1 there_p.1 tick less) in
        order i j before (timed-left i) (timed-left j)
      where
        both : ℕ → Timed
        both t = record { tick = t; registered = t }

    pub standing-removed : Standing left (set keys s None) entries greatest limit (without_sleep m s)
    standing-removed = record {
      table = map-set (option_map seen) m.table s None ∙ ap (λ xs. set xs s None) st.table ∙ sym table-removed;
      same_greatest = st.same_greatest;
      same_limit = st.same_limit;
      arms_below = λ q a is. st.arms_below q a (was_there q a is).1;
      arms_differ = λ q p a b apart is_q is_p. st.arms_differ q p a b apart (was_there q a is_q).1 (was_there p b is_p).1;
      registered = registered_after;
      in_order = order_after;
    }

    pub machine-removed : (e : Entry) → slice_get entries k ≡ Some e → (answered tt ≡ machine.remove_answer m s) × Standing left (set keys s None) entries greatest limit (machine.removed m s)
    machine-removed e was =
        let there = sleep_there wheel keys entries greatest limit m st s (kept_in (timed_at wheel k) e.state) (kept-there wheel keys entries greatest live holds s k e at was) in
        rw there.1 (refl, standing-removed)
