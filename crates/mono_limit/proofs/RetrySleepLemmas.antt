-- The retries and their sleeps, whatever changes of one of them.
use Rattle.std.proofs.Common.{◌≡◌, ◌<◌, ◌≤◌, inl, inr, ℕ, ◌+◌, ◌-◌, ◌*◌, cond, zero, suc, [], ◌∷◌, ◌++◌, length, get_or, set, Some, None, Option, refl, ap, sym, subst, ◌∙◌, arith}
use Rattle.std.specs.Prelude.{Ok, Err, map, option_map, max, nat_le}
use Rattle.std.proofs.Math.ListN.{get_or-map}
use Rattle.std.proofs.lemmas.Bool.{cases_eq, cases_lt, lt-leb}
use Rattle.std.proofs.lemmas.List.{map-append, map-set, length-map, get_or_past, get_or-set_same, get_or-set_other}
use Rattle.std.proofs.lemmas.List.Sums.{sum_by-set}
use Rattle.mono_model.specs.Ticks.{up}
use Rattle.mono_model.specs.Table.{Table, value_at, next_number, count_of, with_value, with_next, without}
use Rattle.mono_model.specs.declared.error.Error.TheVariants.{Shutdown, AtCapacity, Invalid}
use Rattle.mono_model.specs.declared.error.SleepError.{SleepError}
use Rattle.mono_model.specs.declared.error.SleepError.TheVariants.{Timer, Memory}
use Rattle.mono_model.proofs.CountLemmas.{count_of-with_value, count_of-with_next}
use Rattle.mono_model.proofs.ValidTaskLemmas.{value_before, value_last}
use Rattle.mono_time.specs.Sleeps.{SleepTable, Kept, fresh, armed, elapsed, kept_waker, at_tick, with_table, Added, with_added_sleep, changed_value, with_reset_sleep, removed_value, with_removed_sleep, at_clock_tick, with_fired_sleep}
use Rattle.mono_limit.specs.Schedules.{IsSound, failed_until, at_once, waiting_value, ended_row}
use Rattle.mono_limit.specs.RetryTable.{Holds, wait_of, armed_tick}
use Rattle.mono_limit.specs.declared.schedules.Schedule.{Schedule}

none-some : {X : Type 0} (x : X) → None ≡ Some x → ⊥
none-some x e = cc

pub given : {V : Type 0} (table : Table V) (s : ℕ) (v : V) → value_at table s ≡ Some v → s < length table
given table s v at = elim (cases_lt s (length table)) [ inl inside ↦ inside | inr past ↦ absurd (none-some v (sym (get_or_past table s None past) ∙ at)) ]

same-some : {X : Type 0} (x y : X) → Some x ≡ Some y → x ≡ y
same-some x y e = cc

-- one place of a table is written
set_all : {V : Type 0} (P : V → Type 0) (table : Table V) (i : ℕ) (w : Option V) → ((s : ℕ) (v : V) → value_at table s ≡ Some v → P v) → ((v : V) → w ≡ Some v → P v)
    → (s : ℕ) (v : V) → value_at (set table i w) s ≡ Some v → P v
set_all P table i w all fits s v at = elim (cases_eq s i) [
  | inr apart ↦ all s v (sym (get_or-set_other table i s w None apart) ∙ at)
  | inl same ↦ elim (cases_lt i (length table)) [
    | inl inside ↦ fits v (sym (ap (value_at (set table i w)) same ∙ get_or-set_same table i w None inside) ∙ at)
    | inr past ↦ absurd (none-some v (sym (ap (value_at (set table i w)) same ∙ past_end table i w past) ∙ at))
  ]
]
  where
    past_end : {V : Type 0} (xs : Table V) (i : ℕ) (w : Option V) → length xs ≤ i → value_at (set xs i w) i ≡ None
    past_end [] i w past = refl
    past_end (x ∷ xs) zero w past = absurd (omega (arith, past))
    past_end (x ∷ xs) (suc i) w past = past_end xs i w (omega (arith, past))

-- a refused sleep changes nothing
pub refused_same : (old new : SleepTable) (nanos : ℕ) (e : SleepError) → Added old nanos (Err e) new → new ≡ old
refused_same old new nanos (Timer Shutdown) added = added.1
refused_same old new nanos (Timer AtCapacity) added = added.2
refused_same old new nanos (Timer Invalid) added = absurd added
refused_same old new nanos Memory added = added.2

module _ (rows : Table Schedule) (sleeps : SleepTable) (live : ℕ) (holds : Holds rows sleeps live) where
  -- the sleep of a number is armed at the tick for which the retry waits
  agrees : (r : ℕ) → option_map wait_of (value_at rows r) ≡ option_map armed_tick (value_at sleeps.table r)
  agrees r = sym (get_or-map (option_map wait_of) rows r None) ∙ ap (λ xs. get_or xs r None) holds.waits ∙ get_or-map (option_map armed_tick) sleeps.table r None

  pub sleeps_at : (r : ℕ) (retry : Schedule) → value_at rows r ≡ Some retry → (kept : Kept) × (value_at sleeps.table r ≡ Some kept)
  sleeps_at r retry at = some_of (value_at sleeps.table r) retry.waits_for (sym (ap (option_map wait_of) at) ∙ agrees r)
    where
      some_of : (v : Option Kept) (w : Option ℕ) → Some w ≡ option_map armed_tick v → (kept : Kept) × (v ≡ Some kept)
      some_of None w e = absurd (none-some w (sym e))
      some_of (Some kept) w e = (kept, refl)

  -- A retry whose sleep is armed waits for that tick, and the sleep of a waiting retry is armed.
  pub waits_there : (r tick : ℕ) (waker : Option ℕ) → value_at sleeps.table r ≡ Some (armed tick waker) → waiting_value (value_at rows r) ≡ Some tick
  waits_there r tick waker at = wait_is (value_at rows r) (agrees r ∙ ap (option_map armed_tick) at)
    where
      wait_is : (v : Option Schedule) → option_map wait_of v ≡ Some (Some tick) → waiting_value v ≡ Some tick
      wait_is None e = absurd (none-some (Some tick) e)
      wait_is (Some retry) e = same-some retry.waits_for (Some tick) e

  pub armed_there : (r tick : ℕ) → waiting_value (value_at rows r) ≡ Some tick → (waker : Option ℕ) × (value_at sleeps.table r ≡ Some (armed tick waker))
  armed_there r tick waits = elim_row (value_at rows r) refl waits
    where
      armed_is : (v : Option Kept) → Some (Some tick) ≡ option_map armed_tick v → (waker : Option ℕ) × (v ≡ Some (armed tick waker))
      armed_is None e = absurd (none-some (Some tick) (sym e))
      armed_is (Some (fresh t)) e = absurd (none-some tick (sym (same-some (Some tick) None e)))
      armed_is (Some (armed t waker)) e = (waker, ap (λ n. Some (armed n waker)) (same-some t tick (sym (same-some (Some tick) (Some t) e))))
      armed_is (Some elapsed) e = absurd (none-some tick (sym (same-some (Some tick) None e)))

      elim_row : (v : Option Schedule) → value_at rows r ≡ v → waiting_value v ≡ Some tick → (waker : Option ℕ) × (value_at sleeps.table r ≡ Some (armed tick waker))
      elim_row None at w = absurd (none-some tick w)
      elim_row (Some retry) at w = armed_is (value_at sleeps.table r) (sym (ap Some w) ∙ sym (ap (option_map wait_of) at) ∙ agrees r)

  pub same_next : next_number rows ≡ next_number sleeps.table
  same_next = sym (length-map rows (option_map wait_of)) ∙ ap (λ xs. length xs) holds.waits ∙ length-map sleeps.table (option_map armed_tick)

  -- a further retry waits for nothing, as its sleep is fresh
  pub added_holds : (retry : Schedule) → IsSound retry → retry.waits_for ≡ None → (tick : ℕ) → Holds (with_next rows retry) (with_added_sleep sleeps tick) (live + 1)
  added_holds retry is_sound no_wait tick = record {
    waits = map-append (option_map wait_of) rows (Some retry ∷ []) ∙ ap (λ w. map (option_map wait_of) rows ++ Some w ∷ []) no_wait ∙ ap (λ xs. xs ++ Some None ∷ []) holds.waits
        ∙ sym (map-append (option_map armed_tick) sleeps.table (Some (fresh tick) ∷ []));
    sound = λ r v at. elim (cases_eq r (length rows)) [
      | inl last ↦ subst IsSound (same-some retry v (sym (value_last rows retry) ∙ sym (ap (value_at (with_next rows retry)) last) ∙ at)) is_sound
      | inr apart ↦ holds.sound r v (sym (value_before rows retry r apart) ∙ at)
    ];
    live_count = omega (arith, holds.live_count, count_of-with_next rows retry);
  }

  module _ (r : ℕ) (retry : Schedule) (at : value_at rows r ≡ Some retry) where
    -- A retry is removed, with its sleep.
    one_fewer : count_of (without rows r) + 1 ≡ count_of rows
    one_fewer =
        let one : ℕ = cond (Rattle.std.specs.Prelude.is_some (get_or rows r None)) 1 0 in
        let is_one : one ≡ 1 = ap (λ v. cond (Rattle.std.specs.Prelude.is_some v) 1 0) at in
        omega (arith, is_one, sum_by-set (λ x. cond (Rattle.std.specs.Prelude.is_some x) 1 0) rows r None None (given rows r retry at))

    pub some_live : 0 < live
    some_live = omega (arith, one_fewer, holds.live_count)

    pub without_holds : Holds (without rows r) (with_removed_sleep sleeps r) (live - 1)
    without_holds =
        let (kept, there) = sleeps_at r retry at in
        let same : with_removed_sleep sleeps r ≡ with_table sleeps (without sleeps.table r) = ap (λ v. removed_value v sleeps r) there in
        rw same (record {
          waits = map-set (option_map wait_of) rows r None ∙ ap (λ xs. set xs r None) holds.waits ∙ sym (map-set (option_map armed_tick) sleeps.table r None);
          sound = set_all IsSound rows r None holds.sound (λ v e. absurd (none-some v e));
          live_count = omega (arith, one_fewer, holds.live_count);
        })

    -- a retry waits for a tick above the greatest
    armed_then : (tick : ℕ) (waker : Option ℕ) → sleeps.greatest < tick → armed_tick (at_tick sleeps.greatest (up (tick * 1000000)) waker) ≡ Some tick
    armed_then tick waker later =
        let is : up (tick * 1000000) ≡ tick = omega arith in
        ap (λ t. armed_tick (at_tick sleeps.greatest t waker)) is ∙ ap (λ b. armed_tick (cond b elapsed (armed tick waker))) (lt-leb tick sleeps.greatest later)

    pub waiting_holds : (tick : ℕ) → sleeps.greatest < tick → retry.failures + 1 < retry.most
        → Holds (with_value rows r (failed_until retry (retry.failures + 1) tick)) (with_reset_sleep sleeps r (tick * 1000000)) live
    waiting_holds tick later more =
        let (kept, there) = sleeps_at r retry at in
        let new : Schedule = failed_until retry (retry.failures + 1) tick in
        let to : Kept = at_tick sleeps.greatest (up (tick * 1000000)) (kept_waker kept) in
        let same : with_reset_sleep sleeps r (tick * 1000000) ≡ with_table sleeps (with_value sleeps.table r to) =
        ap (λ v. changed_value v sleeps r (λ k. at_tick sleeps.greatest (up (tick * 1000000)) (kept_waker k))) there in
        rw same (record {
          waits = map-set (option_map wait_of) rows r (Some new) ∙ ap (λ xs. set xs r (Some (Some tick))) holds.waits
              ∙ sym (map-set (option_map armed_tick) sleeps.table r (Some to) ∙ ap (λ w. set (map (option_map armed_tick) sleeps.table) r (Some w)) (armed_then tick (kept_waker kept) later));
          sound = set_all IsSound rows r (Some new) holds.sound (λ v e. subst IsSound (same-some new v e) (record { has_base = (holds.sound r retry at).has_base; has_cap = (holds.sound r retry at).has_cap; goes_on = more }));
          live_count = holds.live_count ∙ sym (count_of-with_value rows r retry new at);
        })

  -- the wait of a retry ends, whose sleep fires
  pub fired_holds : (r n tick : ℕ) (waker : Option ℕ) → value_at sleeps.table r ≡ Some (armed tick waker)
      → Holds (ended_row (value_at rows r) rows r) (with_fired_sleep (at_clock_tick sleeps n) r) live
  fired_holds r n tick waker there = by_row (value_at rows r) refl (waits_there r tick waker there)
    where
      by_row : (v : Option Schedule) → value_at rows r ≡ v → waiting_value v ≡ Some tick → Holds (ended_row v rows r) (with_fired_sleep (at_clock_tick sleeps n) r) live
      by_row None at w = absurd (none-some tick w)
      by_row (Some retry) at w = record {
        waits = map-set (option_map wait_of) rows r (Some (at_once retry)) ∙ ap (λ xs. set xs r (Some None)) holds.waits ∙ sym (map-set (option_map armed_tick) sleeps.table r (Some elapsed));
        sound = set_all IsSound rows r (Some (at_once retry)) holds.sound (λ v e. subst IsSound (same-some (at_once retry) v e) (record { has_base = (holds.sound r retry at).has_base; has_cap = (holds.sound r retry at).has_cap; goes_on = (holds.sound r retry at).goes_on }));
        live_count = holds.live_count ∙ sym (count_of-with_value rows r retry (at_once retry) at);
      }
