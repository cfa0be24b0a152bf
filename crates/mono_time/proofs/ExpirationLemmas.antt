-- The next tick at which the wheel has something to do.
use Rattle.std.proofs.Common.{◌≡◌, ◌<◌, ◌≤◌, inl, inr, ℕ, true, false, Bool, List, Some, None, refl, ap, sym, subst, ◌∙◌, arith}
use Rattle.std.specs.Prelude.{Option, slice_get, is_some, IfSome}
use Rattle.mono_model.specs.Table.{Table, value_at}
use Rattle.mono_wheel.specs.Start.{start, top_level}
use Rattle.mono_wheel.specs.Model.{Wheel, Timed, timed_at, NextTick, IsPending, AllFit, Fits}
use Rattle.mono_time.specs.Sleeps.{SleepTable, armed, IsOneArmed}
use Rattle.mono_time.specs.Entries.{is_armed_state, kept_in, tick_in, owner_of}
use Rattle.mono_time.specs.Representation.{Holds}
use Rattle.mono_time.specs.SlotRegistration.{registered_in, registered_under, registered_at, NextExpiration, IsOnePending}
use Rattle.mono_time.specs.declared.entry.Entry.{Entry}
use Rattle.mono_time.specs.declared.entry.State.{State}
use Rattle.mono_time.specs.declared.entry.State.TheVariants.{Fresh, Unwatched, Armed, Elapsed}
use Rattle.mono_time.proofs.ClockCallLemmas.{armed_key, table-at}
use Rattle.mono_time.proofs.TimersWriteLemmas.{table_kept, entry_there, table-there, is_in-entry}

module _ (wheel : Wheel) (keys : Table ℕ) (entries : List Entry) (greatest live : ℕ) (holds : Holds wheel keys entries greatest live) where
  -- Each key in the wheel belongs to an armed sleep.
  in_wheel : (k : ℕ) (timed : Timed) → timed_at wheel k ≡ Some timed → (s : ℕ) × (value_at keys s ≡ Some k) × ((waker : Option ℕ) × (value_at (table_kept wheel keys entries) s ≡ Some (armed timed.tick waker)))
  in_wheel k timed is = by (owner_of (slice_get entries k)) refl (holds.owned k (ap is_some is))
    where
      by_state : (s : ℕ) (e : Entry) (state : State) → value_at keys s ≡ Some k → slice_get entries k ≡ Some e → e.state ≡ state → (waker : Option ℕ) × (value_at (table_kept wheel keys entries) s ≡ Some (armed timed.tick waker))
      by_state s e (Fresh tick) at was state = absurd (not_armed (sym (ap is_some is) ∙ is_in-entry wheel keys entries greatest live holds s k e at was ∙ ap is_armed_state state))
        where
          not_armed : true ≡ false → ⊥
          not_armed x = cc
      by_state s e Unwatched at was state = (None, table-there wheel keys entries greatest live holds s k e at was ∙ ap (λ x. Some (kept_in (timed_at wheel k) x)) state ∙ ap (λ t. Some (armed (tick_in t) None)) is)
      by_state s e (Armed task) at was state = (Some task, table-there wheel keys entries greatest live holds s k e at was ∙ ap (λ x. Some (kept_in (timed_at wheel k) x)) state ∙ ap (λ t. Some (armed (tick_in t) (Some task))) is)
      by_state s e Elapsed at was state = absurd (not_armed (sym (ap is_some is) ∙ is_in-entry wheel keys entries greatest live holds s k e at was ∙ ap is_armed_state state))
        where
          not_armed : true ≡ false → ⊥
          not_armed x = cc

      by : (v : Option ℕ) → owner_of (slice_get entries k) ≡ v → is_some v ≡ true → (s : ℕ) × (value_at keys s ≡ Some k) × ((waker : Option ℕ) × (value_at (table_kept wheel keys entries) s ≡ Some (armed timed.tick waker)))
      by None owner there = absurd (cc)
      by (Some s) owner there =
          let at = holds.back k s (ap is_some is) owner in
          let entry = entry_there wheel keys entries greatest live holds s k at in
          (s, at, by_state s entry.0 entry.0.state at entry.1 refl)

  registered_key : (q later : ℕ) → registered_at wheel keys q ≡ Some later → (j : ℕ) × ((timed : Timed) × (timed_at wheel j ≡ Some timed) × (timed.registered ≡ later))
  registered_key q later is = by (value_at keys q) is
    where
      by_timed : (j : ℕ) (v : Option Timed) → timed_at wheel j ≡ v → registered_in v ≡ Some later → (timed : Timed) × (timed_at wheel j ≡ Some timed) × (timed.registered ≡ later)
      by_timed j None at there = absurd (cc)
      by_timed j (Some t) at there = (t, at, some_is t.registered later there)
        where
          some_is : (a b : ℕ) → Some a ≡ Some b → a ≡ b
          some_is a b e = cc

      by : (v : Option ℕ) → registered_under wheel v ≡ Some later → (j : ℕ) × ((timed : Timed) × (timed_at wheel j ≡ Some timed) × (timed.registered ≡ later))
      by None there = absurd (cc)
      by (Some j) there = (j, by_timed j (timed_at wheel j) refl there)

  armed_in : (s tick : ℕ) (waker : Option ℕ) → value_at (table_kept wheel keys entries) s ≡ Some (armed tick waker) → (j : ℕ) × (value_at keys s ≡ Some j) × ((timed : Timed) × (timed_at wheel j ≡ Some timed) × (timed.tick ≡ tick))
  armed_in s tick waker is = armed_key wheel keys entries greatest live holds s tick waker (table-at wheel keys entries s _ is)

  module _ (limit : ℕ) (is_enabled : Bool) where
    abbrev sleeps : SleepTable
    sleeps = record { table = table_kept wheel keys entries; greatest = greatest; limit = limit; is_enabled = is_enabled }

    one-pending : IsOnePending wheel.elapsed sleeps → (k : ℕ) × IsPending wheel k
    one-pending one = let key = armed_in one.0 wheel.elapsed one.1.0 one.1.1 in (key.0, (key.2.0, key.2.1, key.2.2))

    pub next-expiration : (next : Option ℕ) → NextTick wheel next → NextExpiration wheel.elapsed (registered_at wheel keys) sleeps next
    next-expiration None none = λ s tick waker is. let key = armed_in s tick waker is in no_ticks key.2.0 (sym (none key.0) ∙ key.2.1)
      where
        no_ticks : (t : Timed) → None ≡ Some t → ⊥
        no_ticks t e = cc
    next-expiration (Some next) (inl (pending, is)) =
        let there = in_wheel pending.0 pending.1.0 pending.1.1 in
        inl ((there.0, (there.2.0, subst (λ t. value_at (table_kept wheel keys entries) there.0 ≡ Some (armed t there.2.0)) pending.1.2 there.2.1)), is)
    next-expiration (Some next) (inr (none, first)) =
        let there = in_wheel first.key first.timed first.is in
        inr (
          λ one. let key = one-pending one in none key.0 key.1,
          record {
            sleep = there.0;
            tick = first.timed.registered;
            is_there = ap (registered_under wheel) there.1 ∙ ap registered_in first.is;
            is_start = first.here;
            is_least = λ other later is. let key = registered_key other later is in
                subst (λ r. next ≤ start top_level wheel.elapsed r) key.1.2 (first.least key.0 key.1.0 key.1.1);
          },
        )

    pub next-armed : (next : Option ℕ) → NextTick wheel next → IfSome next (λ t. IsOneArmed sleeps)
    next-armed None none = tt
    next-armed (Some next) (inl (pending, is)) = let there = in_wheel pending.0 pending.1.0 pending.1.1 in (there.0, (pending.1.0.tick, (there.2.0, there.2.1)))
    next-armed (Some next) (inr (none, first)) = let there = in_wheel first.key first.timed first.is in (there.0, (first.timed.tick, (there.2.0, there.2.1)))

    pub next-ahead : (next : Option ℕ) → NextTick wheel next → AllFit wheel → wheel.elapsed ≡ greatest → ((s tick : ℕ) (waker : Option ℕ) → value_at (table_kept wheel keys entries) s ≡ Some (armed tick waker) → greatest < tick)
        → ((top now tick : ℕ) → now < start top now tick) → ((top now tick : ℕ) → now < tick → start top now tick ≤ tick)
        → IfSome next (λ t. (greatest < t) × ((s tick : ℕ) (waker : Option ℕ) → value_at (table_kept wheel keys entries) s ≡ Some (armed tick waker) → t ≤ tick))
    next-ahead None next fits rest above starts within = tt
    next-ahead (Some next) (inl (pending, is)) fits rest above starts within =
        let there = in_wheel pending.0 pending.1.0 pending.1.1 in
        absurd (omega (arith, rest, pending.1.2, above there.0 pending.1.0.tick there.2.0 there.2.1))
    next-ahead (Some next) (inr (none, first)) fits rest above starts within = (
      omega (arith, first.here, rest, starts top_level wheel.elapsed first.timed.registered),
      λ s tick waker is. let key = armed_in s tick waker is in
          not_above key.0 key.2.0 tick key.2.1 key.2.2 (above s tick waker is) (subst (Fits wheel.elapsed) key.2.1 (fits key.0)),
    )
      where
        not_above : (j : ℕ) (timed : Timed) (tick : ℕ) → timed_at wheel j ≡ Some timed → timed.tick ≡ tick → greatest < tick → Fits wheel.elapsed (Some timed) → next ≤ tick
        not_above j timed tick is same late (inl now) = absurd (omega (arith, now.1, same, late, rest))
        not_above j timed tick is same late (inr ahead) = omega (arith, first.least j timed is, within top_level wheel.elapsed timed.registered ahead.0, ahead.1, same)
