use Rattle.std.proofs.Common.{◌≡◌, ◌≢◌, ◌<◌, ◌≤◌, ◌^◌, ℕ, max, Some, refl, ap, sym, subst, ◌∙◌, length, set, arith}
use Rattle.std.specs.Prelude.{slice_get, Option, count_by}
use Rattle.std.proofs.lemmas.Option.{slice_get_read}
use Rattle.mono_model.specs.Ticks.{down}
use Rattle.mono_model.specs.Table.{value_at, with_value}
use Rattle.mono_model.specs.FireOrder.{IsFirstDue}
use Rattle.mono_wheel.specs.Model.{CameOut, NothingDue}
use Rattle.mono_time.specs.Instants.{nanos_of}
use Rattle.mono_time.specs.Sleeps.{armed, elapsed, Kept, is_armed, IsFiredFirst, with_fired_sleep, at_clock_tick}
use Rattle.mono_time.specs.Timers.{sleeps_of}
use Rattle.mono_model.specs.SleepActs as machine
use Rattle.mono_time.specs.Refinement.{Standing}
use Rattle.mono_time.specs.Representation.{kept_at}
use Rattle.mono_time.specs.SlotRegistration.{registered_at, moved_registered}
use Rattle.mono_time.proofs.CountLemmas.{fewer_armed}
use Rattle.mono_time.proofs.SlotRegistrationLemmas.{registered-moved, registered-gone, after-out}
use Rattle.mono_time.proofs.TimersWriteLemmas.{key_inside, table_kept, value-table}
use Rattle.mono_time.proofs.FitLemmas.{all-fit, out-later}
use Rattle.mono_time.proofs.ClockCallLemmas.{max-later, max-below, max-over, holds-none, came-owner, holds-fired, table-fired, table-armed, fired-value, table-least, fired-number, machine-fired, table-none, none-armed, machine-none}
use Rattle.mono_time.proofs.timers.Timers.clock.Goals as goal

pub invariant_of-self-in-Some : goal.invariant_of-self-in-Some
invariant_of-self-in-Some g c =
    let t = c.args.self.now in
    let now = c.max-greatest.result in
    let is : now ≡ max t.greatest (down (nanos_of c.args.now)) = c.max-greatest.ensures ∙ ap (max t.greatest) c.clock_tick.ensures.tick in
    let less : t.greatest ≤ now = max-later t.greatest (down (nanos_of c.args.now)) now is in
    let below : now < 2 ^ 63 = max-below t.greatest c.clock_tick.result now c.max-greatest.ensures t.holds.greatest_below c.clock_tick.ensures.range in
    let left = c.poll.new.self in
    let k = c.in-Some.key in
    let e = c.index_mut-entry.result.now in
    let f = c.elapse-waker.new.entry in
    let came : CameOut t.wheel left now k = c.in-Some.ensures.polled in
    let owned = came-owner t.wheel left t.keys t.entries.items t.greatest t.live t.limit t.holds now less below k came in
    let inside : k < length t.entries.items = key_inside t.wheel t.keys t.entries.items t.greatest t.live t.holds owned.0 k owned.1 in
    let was : slice_get t.entries.items k ≡ Some e = slice_get_read t.entries.items _ k e refl inside c.index_mut-entry.ensures.value in
    record { holds = holds-fired t.wheel left t.keys t.entries.items t.greatest t.live t.limit t.holds now less below k came e f was c.elapse-waker.ensures.entry }

pub returns-in-None-clause-none : goal.returns-in-None-clause-none
returns-in-None-clause-none g c =
    let t = c.args.self.now in
    let now = c.max-greatest.result in
    let is : now ≡ max t.greatest (down (nanos_of c.args.now)) = c.max-greatest.ensures ∙ ap (max t.greatest) c.clock_tick.ensures.tick in
    let less : t.greatest ≤ now = max-later t.greatest (down (nanos_of c.args.now)) now is in
    let below : now < 2 ^ 63 = max-below t.greatest c.clock_tick.result now c.max-greatest.ensures t.holds.greatest_below c.clock_tick.ensures.range in
    let nothing : NothingDue t.wheel c.poll.new.self now = c.in-None.ensures.polled in (
      λ s tick waker at. omega (arith, is, none-armed t.wheel c.poll.new.self t.keys t.entries.items t.greatest t.live t.limit t.holds now less below nothing s tick waker at),
      ap (λ table. record { table = table; greatest = now; limit = t.limit; is_enabled = t.is_enabled }) (table-none t.wheel c.poll.new.self t.keys t.entries.items t.greatest t.live t.limit t.holds now less below nothing)
          ∙ ap (λ n. record { table = table_kept t.wheel t.keys t.entries.items; greatest = n; limit = t.limit; is_enabled = t.is_enabled }) is,
    )

pub returns-in-None-clause-stands : goal.returns-in-None-clause-stands
returns-in-None-clause-stands g c = λ m st.
    let t = c.args.self.now in
    let now = c.max-greatest.result in
    let is : now ≡ max t.greatest (down (nanos_of c.args.now)) = c.max-greatest.ensures ∙ ap (max t.greatest) c.clock_tick.ensures.tick in
    let less : t.greatest ≤ now = max-later t.greatest (down (nanos_of c.args.now)) now is in
    let below : now < 2 ^ 63 = max-below t.greatest c.clock_tick.result now c.max-greatest.ensures t.holds.greatest_below c.clock_tick.ensures.range in
    let nothing : NothingDue t.wheel c.poll.new.self now = c.in-None.ensures.polled in
    machine-none t.wheel c.poll.new.self t.keys t.entries.items t.greatest t.live t.limit t.holds now less below nothing m (nanos_of c.args.now) st (ap (λ x. max x (down (nanos_of c.args.now))) st.same_greatest ∙ sym is)

pub returns-in-Some-clause-some : goal.returns-in-Some-clause-some
returns-in-Some-clause-some g c =
    let t = c.args.self.now in
    let now = c.max-greatest.result in
    let is : now ≡ max t.greatest (down (nanos_of c.args.now)) = c.max-greatest.ensures ∙ ap (max t.greatest) c.clock_tick.ensures.tick in
    let less : t.greatest ≤ now = max-later t.greatest (down (nanos_of c.args.now)) now is in
    let below : now < 2 ^ 63 = max-below t.greatest c.clock_tick.result now c.max-greatest.ensures t.holds.greatest_below c.clock_tick.ensures.range in
    let left = c.poll.new.self in
    let k = c.in-Some.key in
    let e = c.index_mut-entry.result.now in
    let f = c.elapse-waker.new.entry in
    let came : CameOut t.wheel left now k = c.in-Some.ensures.polled in
    let owned = came-owner t.wheel left t.keys t.entries.items t.greatest t.live t.limit t.holds now less below k came in
    let inside : k < length t.entries.items = key_inside t.wheel t.keys t.entries.items t.greatest t.live t.holds owned.0 k owned.1 in
    let was : slice_get t.entries.items k ≡ Some e = slice_get_read t.entries.items _ k e refl inside c.index_mut-entry.ensures.value in
    let number : f.sleep ≡ owned.0 = fired-number t.wheel left t.keys t.entries.items t.greatest t.live t.limit t.holds now less below k came e f was c.elapse-waker.ensures.entry in
    let first : IsFiredFirst (at_clock_tick (sleeps_of t) (nanos_of c.args.now)) owned.0 c.elapse-waker.result = record {
      tick = left.elapsed;
      is_armed_there = table-armed t.wheel left t.keys t.entries.items t.greatest t.live t.limit t.holds now less below k came e f was c.elapse-waker.ensures.entry ∙ ap (λ w. Some (armed left.elapsed w)) (sym c.elapse-waker.ensures.waker);
      is_due = omega (arith, is, came.due.3);
      is_least = table-least t.wheel left t.keys t.entries.items t.greatest t.live t.limit t.holds now less below k came e f was c.elapse-waker.ensures.entry;
    } in (
      subst (λ s. IsFiredFirst (at_clock_tick (sleeps_of t) (nanos_of c.args.now)) s c.elapse-waker.result) (sym number) first,
      ap (λ table. record { table = table; greatest = now; limit = t.limit; is_enabled = t.is_enabled }) (table-fired t.wheel left t.keys t.entries.items t.greatest t.live t.limit t.holds now less below k came e f was c.elapse-waker.ensures.entry)
          ∙ ap (λ n. record { table = with_value (table_kept t.wheel t.keys t.entries.items) owned.0 elapsed; greatest = n; limit = t.limit; is_enabled = t.is_enabled }) is
          ∙ ap (with_fired_sleep (at_clock_tick (sleeps_of t) (nanos_of c.args.now))) (sym number),
    )

pub returns-in-Some-clause-stands : goal.returns-in-Some-clause-stands
returns-in-Some-clause-stands g c = λ m st.
    let t = c.args.self.now in
    let now = c.max-greatest.result in
    let is : now ≡ max t.greatest (down (nanos_of c.args.now)) = c.max-greatest.ensures ∙ ap (max t.greatest) c.clock_tick.ensures.tick in
    let less : t.greatest ≤ now = max-later t.greatest (down (nanos_of c.args.now)) now is in
    let below : now < 2 ^ 63 = max-below t.greatest c.clock_tick.result now c.max-greatest.ensures t.holds.greatest_below c.clock_tick.ensures.range in
    let left = c.poll.new.self in
    let k = c.in-Some.key in
    let e = c.index_mut-entry.result.now in
    let f = c.elapse-waker.new.entry in
    let came : CameOut t.wheel left now k = c.in-Some.ensures.polled in
    let owned = came-owner t.wheel left t.keys t.entries.items t.greatest t.live t.limit t.holds now less below k came in
    let inside : k < length t.entries.items = key_inside t.wheel t.keys t.entries.items t.greatest t.live t.holds owned.0 k owned.1 in
    let was : slice_get t.entries.items k ≡ Some e = slice_get_read t.entries.items _ k e refl inside c.index_mut-entry.ensures.value in
    let number : f.sleep ≡ owned.0 = fired-number t.wheel left t.keys t.entries.items t.greatest t.live t.limit t.holds now less below k came e f was c.elapse-waker.ensures.entry in
    let done = machine-fired t.wheel left t.keys t.entries.items t.greatest t.live t.limit t.holds now less below k came e f was c.elapse-waker.ensures.entry m (nanos_of c.args.now) st (ap (λ x. max x (down (nanos_of c.args.now))) st.same_greatest ∙ sym is) in
    let after = machine.at_clock m (nanos_of c.args.now) in (
      subst (IsFirstDue after.table after.greatest) (sym number) done.0,
      c.elapse-waker.ensures.waker ∙ done.1 ∙ ap (machine.waker_at after) (sym number),
      subst (λ s. Standing left t.keys (set t.entries.items k f) now t.limit (machine.fired after s)) (sym number) done.2,
    )

pub returns-in-None-clause-registered : goal.returns-in-None-clause-registered
returns-in-None-clause-registered g c = λ s same.
    let t = c.args.self.now in
    let now = c.max-greatest.result in
    let is : now ≡ max t.greatest (down (nanos_of c.args.now)) = c.max-greatest.ensures ∙ ap (max t.greatest) c.clock_tick.ensures.tick in
    let less : t.greatest ≤ now = max-later t.greatest (down (nanos_of c.args.now)) now is in
    let below : now < 2 ^ 63 = max-below t.greatest c.clock_tick.result now c.max-greatest.ensures t.holds.greatest_below c.clock_tick.ensures.range in
    let nothing : NothingDue t.wheel c.poll.new.self now = c.in-None.ensures.polled in
    registered-moved t.wheel t.keys t.entries.items t.greatest t.live t.holds now c.poll.new.self s (λ j at. nothing.ticks j)
    ∙ ap (λ n. moved_registered t.wheel.elapsed n (kept_at t.wheel t.keys t.entries.items s) (registered_at t.wheel t.keys s)) (sym nothing.elapsed)
    ∙ ap (λ v. moved_registered t.wheel.elapsed c.poll.new.self.elapsed v (registered_at t.wheel t.keys s)) (sym (value-table t.wheel t.keys t.entries.items s))

pub returns-in-Some-clause-registered : goal.returns-in-Some-clause-registered
returns-in-Some-clause-registered g c = λ s same.
    let t = c.args.self.now in
    let now = c.max-greatest.result in
    let is : now ≡ max t.greatest (down (nanos_of c.args.now)) = c.max-greatest.ensures ∙ ap (max t.greatest) c.clock_tick.ensures.tick in
    let less : t.greatest ≤ now = max-later t.greatest (down (nanos_of c.args.now)) now is in
    let below : now < 2 ^ 63 = max-below t.greatest c.clock_tick.result now c.max-greatest.ensures t.holds.greatest_below c.clock_tick.ensures.range in
    let left = c.poll.new.self in
    let k = c.in-Some.key in
    let e = c.index_mut-entry.result.now in
    let f = c.elapse-waker.new.entry in
    let came : CameOut t.wheel left now k = c.in-Some.ensures.polled in
    let owned = came-owner t.wheel left t.keys t.entries.items t.greatest t.live t.limit t.holds now less below k came in
    let inside : k < length t.entries.items = key_inside t.wheel t.keys t.entries.items t.greatest t.live t.holds owned.0 k owned.1 in
    let was : slice_get t.entries.items k ≡ Some e = slice_get_read t.entries.items _ k e refl inside c.index_mut-entry.ensures.value in
    let apart : s ≢ owned.0 = λ is. elapsed-armed (some-kept (sym (fired-value t.wheel left t.keys t.entries.items t.greatest t.live t.limit t.holds now less below k came e f was c.elapse-waker.ensures.entry) ∙ ap (value_at (table_kept left t.keys (set t.entries.items k f))) (sym is) ∙ same ∙ ap (value_at (table_kept t.wheel t.keys t.entries.items)) is ∙ table-armed t.wheel left t.keys t.entries.items t.greatest t.live t.limit t.holds now less below k came e f was c.elapse-waker.ensures.entry)) in
    registered-moved t.wheel t.keys t.entries.items t.greatest t.live t.holds left.elapsed left s (after-out t.wheel t.keys t.entries.items t.greatest t.live t.holds now left owned.0 k owned.1 came s apart)
    ∙ ap (λ v. moved_registered t.wheel.elapsed left.elapsed v (registered_at t.wheel t.keys s)) (sym (value-table t.wheel t.keys t.entries.items s))
  where
    some-kept : {a b : Kept} → Some a ≡ Some b → a ≡ b
    some-kept e = cc

    elapsed-armed : {tick : ℕ} {waker : Option ℕ} → elapsed ≡ armed tick waker → ⊥
    elapsed-armed e = cc

pub returns-in-Some-clause-gone : goal.returns-in-Some-clause-gone
returns-in-Some-clause-gone g c =
    let t = c.args.self.now in
    let now = c.max-greatest.result in
    let is : now ≡ max t.greatest (down (nanos_of c.args.now)) = c.max-greatest.ensures ∙ ap (max t.greatest) c.clock_tick.ensures.tick in
    let less : t.greatest ≤ now = max-later t.greatest (down (nanos_of c.args.now)) now is in
    let below : now < 2 ^ 63 = max-below t.greatest c.clock_tick.result now c.max-greatest.ensures t.holds.greatest_below c.clock_tick.ensures.range in
    let left = c.poll.new.self in
    let k = c.in-Some.key in
    let e = c.index_mut-entry.result.now in
    let f = c.elapse-waker.new.entry in
    let came : CameOut t.wheel left now k = c.in-Some.ensures.polled in
    let owned = came-owner t.wheel left t.keys t.entries.items t.greatest t.live t.limit t.holds now less below k came in
    let inside : k < length t.entries.items = key_inside t.wheel t.keys t.entries.items t.greatest t.live t.holds owned.0 k owned.1 in
    let was : slice_get t.entries.items k ≡ Some e = slice_get_read t.entries.items _ k e refl inside c.index_mut-entry.ensures.value in
    ap (registered_at left t.keys) (fired-number t.wheel left t.keys t.entries.items t.greatest t.live t.limit t.holds now less below k came e f was c.elapse-waker.ensures.entry) ∙ registered-gone t.wheel t.keys t.entries.items t.greatest t.live t.holds now left owned.0 k owned.1 came

pub returns-in-Some-clause-fewer : goal.returns-in-Some-clause-fewer
returns-in-Some-clause-fewer g c =
    let t = c.args.self.now in
    let now = c.max-greatest.result in
    let is : now ≡ max t.greatest (down (nanos_of c.args.now)) = c.max-greatest.ensures ∙ ap (max t.greatest) c.clock_tick.ensures.tick in
    let less : t.greatest ≤ now = max-later t.greatest (down (nanos_of c.args.now)) now is in
    let below : now < 2 ^ 63 = max-below t.greatest c.clock_tick.result now c.max-greatest.ensures t.holds.greatest_below c.clock_tick.ensures.range in
    let left = c.poll.new.self in
    let k = c.in-Some.key in
    let e = c.index_mut-entry.result.now in
    let f = c.elapse-waker.new.entry in
    let came : CameOut t.wheel left now k = c.in-Some.ensures.polled in
    let owned = came-owner t.wheel left t.keys t.entries.items t.greatest t.live t.limit t.holds now less below k came in
    let inside : k < length t.entries.items = key_inside t.wheel t.keys t.entries.items t.greatest t.live t.holds owned.0 k owned.1 in
    let was : slice_get t.entries.items k ≡ Some e = slice_get_read t.entries.items _ k e refl inside c.index_mut-entry.ensures.value in
    let fewer = fewer_armed (table_kept t.wheel t.keys t.entries.items) owned.0 left.elapsed _ (table-armed t.wheel left t.keys t.entries.items t.greatest t.live t.limit t.holds now less below k came e f was c.elapse-waker.ensures.entry) in
    subst (λ xs. count_by is_armed xs < count_by is_armed (table_kept t.wheel t.keys t.entries.items)) (sym (table-fired t.wheel left t.keys t.entries.items t.greatest t.live t.limit t.holds now less below k came e f was c.elapse-waker.ensures.entry)) fewer

pub returns-in-Some-clause-reached : goal.returns-in-Some-clause-reached
returns-in-Some-clause-reached g c =
    let t = c.args.self.now in
    let now = c.max-greatest.result in
    let is : now ≡ max t.greatest (down (nanos_of c.args.now)) = c.max-greatest.ensures ∙ ap (max t.greatest) c.clock_tick.ensures.tick in
    let less : t.greatest ≤ now = max-later t.greatest (down (nanos_of c.args.now)) now is in
    let below : now < 2 ^ 63 = max-below t.greatest c.clock_tick.result now c.max-greatest.ensures t.holds.greatest_below c.clock_tick.ensures.range in
    let left = c.poll.new.self in
    let k = c.in-Some.key in
    let e = c.index_mut-entry.result.now in
    let f = c.elapse-waker.new.entry in
    let came : CameOut t.wheel left now k = c.in-Some.ensures.polled in
    let owned = came-owner t.wheel left t.keys t.entries.items t.greatest t.live t.limit t.holds now less below k came in
    let inside : k < length t.entries.items = key_inside t.wheel t.keys t.entries.items t.greatest t.live t.holds owned.0 k owned.1 in
    let was : slice_get t.entries.items k ≡ Some e = slice_get_read t.entries.items _ k e refl inside c.index_mut-entry.ensures.value in
    let number : f.sleep ≡ owned.0 = fired-number t.wheel left t.keys t.entries.items t.greatest t.live t.limit t.holds now less below k came e f was c.elapse-waker.ensures.entry in
    ap (value_at (table_kept t.wheel t.keys t.entries.items)) number ∙ table-armed t.wheel left t.keys t.entries.items t.greatest t.live t.limit t.holds now less below k came e f was c.elapse-waker.ensures.entry
    ∙ ap (λ w. Some (armed left.elapsed w)) (sym c.elapse-waker.ensures.waker)

pub poll-requires-clause-ahead : goal.poll-requires-clause-ahead
poll-requires-clause-ahead g c =
    let t = c.args.self.now in
    max-over t.wheel.elapsed t.greatest c.clock_tick.result c.max-greatest.result c.max-greatest.ensures t.holds.elapsed

pub poll-requires-clause-range : goal.poll-requires-clause-range
poll-requires-clause-range g c =
    let t = c.args.self.now in
    max-below t.greatest c.clock_tick.result c.max-greatest.result c.max-greatest.ensures t.holds.greatest_below c.clock_tick.ensures.range

pub index_mut-entry-requires : goal.index_mut-entry-requires
index_mut-entry-requires g c =
    let t = c.args.self.now in
    let now = c.max-greatest.result in
    let is : now ≡ max t.greatest (down (nanos_of c.args.now)) = c.max-greatest.ensures ∙ ap (max t.greatest) c.clock_tick.ensures.tick in
    let less : t.greatest ≤ now = max-later t.greatest (down (nanos_of c.args.now)) now is in
    let below : now < 2 ^ 63 = max-below t.greatest c.clock_tick.result now c.max-greatest.ensures t.holds.greatest_below c.clock_tick.ensures.range in
    let left = c.poll.new.self in
    let k = c.in-Some.key in
    let came : CameOut t.wheel left now k = c.in-Some.ensures.polled in
    let owned = came-owner t.wheel left t.keys t.entries.items t.greatest t.live t.limit t.holds now less below k came in
    subst (λ n. k < n) (sym t.entries.ok.0) (key_inside t.wheel t.keys t.entries.items t.greatest t.live t.holds owned.0 k owned.1)

pub invariant_of-self : goal.invariant_of-self
invariant_of-self g c =
    let t = c.args.self.now in
    let now = c.max-greatest.result in
    let is : now ≡ max t.greatest (down (nanos_of c.args.now)) = c.max-greatest.ensures ∙ ap (max t.greatest) c.clock_tick.ensures.tick in
    let less : t.greatest ≤ now = max-later t.greatest (down (nanos_of c.args.now)) now is in
    let below : now < 2 ^ 63 = max-below t.greatest c.clock_tick.result now c.max-greatest.ensures t.holds.greatest_below c.clock_tick.ensures.range in
    record { holds = holds-none t.wheel c.poll.new.self t.keys t.entries.items t.greatest t.live t.limit t.holds now less below c.in-None.ensures.polled }

pub returns-in-None-clause-elapsed : goal.returns-in-None-clause-elapsed
returns-in-None-clause-elapsed g c = c.in-None.ensures.polled.elapsed

pub returns-in-None-clause-later : goal.returns-in-None-clause-later
returns-in-None-clause-later g c =
    let t = c.args.self.now in
    subst (λ n. t.wheel.elapsed ≤ n) (sym c.in-None.ensures.polled.elapsed) (max-over t.wheel.elapsed t.greatest c.clock_tick.result c.max-greatest.result c.max-greatest.ensures t.holds.elapsed)

pub returns-in-None-clause-steps : goal.returns-in-None-clause-steps
returns-in-None-clause-steps g c = c.in-None.ensures.steps

pub returns-in-Some-clause-later : goal.returns-in-Some-clause-later
returns-in-Some-clause-later g c = out-later c.args.self.now.wheel c.poll.new.self c.max-greatest.result c.in-Some.key (all-fit c.args.self.now.wheel c.args.self.now.holds.ahead) c.in-Some.ensures.polled

pub returns-in-Some-clause-steps : goal.returns-in-Some-clause-steps
returns-in-Some-clause-steps g c = c.in-Some.ensures.steps
