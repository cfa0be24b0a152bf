-- The actors after a new timeout.
use Rattle.std.proofs.Common.{◌≡◌, ◌<◌, ◌≤◌, ◌^◌, inl, inr, ℕ, ◌+◌, true, Bool, cond, List, length, set, Some, None, Option, refl, ap, sym, subst, ◌∙◌, arith}
use Rattle.std.specs.Prelude.{IfSome, nat_lt}
use Rattle.std.proofs.lemmas.Bool.{cases_lt, lt-ltb, le-ltb}
use Rattle.std.proofs.lemmas.Bool.Decides.{eqb_tells}
use Rattle.mono_model.specs.Table.{value_at}
use Rattle.mono_model.specs.Valid.{once_if}
use Rattle.mono_actor.specs.Actors.{Actor, wait_from, last_tick, timed_value}
use Rattle.mono_actor.specs.Steps.{waiting_in}
use Rattle.mono_actor.specs.QueueInvariants.{is_queued}
use Rattle.mono_actor.specs.Places.{mode_of, table_of, Becomes, timing_of, timed_actor, Place}
use Rattle.mono_actor.specs.Timers.{tick_at, is_known, Sets}
use Rattle.mono_actor.specs.Consistency.{Holds}
use Rattle.mono_actor.specs.declared.timers.Alarms.{Alarms}
use Rattle.mono_actor.specs.declared.places.Timing.{Timing}
use Rattle.mono_actor.specs.declared.places.Timing.TheVariants as timing
use Rattle.mono_actor.proofs.TieLemmas.{Retimed, of_same, of_sets, of_both}
use Rattle.mono_actor.proofs.CountLemmas.{there, table-set}
use Rattle.mono_actor.proofs.TimeoutLemmas.{timed_stands}
use Rattle.mono_actor.proofs.CallLemmas.{timing-keeps, timing-rearms, idle-timed, busy-timed, queued-timed, view, stands-of, lines-of, holds-changed}

-- an actor waits for a tick ahead
pub waits-ahead : (elapsed now timeout : ℕ) → elapsed ≤ now → IfSome (wait_from now timeout) (λ t. (elapsed < t) × (t < 2 ^ 63))
waits-ahead elapsed now timeout past = elim (eqb_tells timeout 0) [
  | inl t ↦ subst (λ b. IfSome (cond b None (cond (nat_lt last_tick (now + timeout)) None (Some (now + timeout)))) (λ t. (elapsed < t) × (t < 2 ^ 63))) (sym t.0) tt
  | inr t ↦ subst (λ b. IfSome (cond b None (cond (nat_lt last_tick (now + timeout)) None (Some (now + timeout)))) (λ t. (elapsed < t) × (t < 2 ^ 63))) (sym t.0) (by t.1)
]
  where
    by : (timeout ≡ 0 → ⊥) → IfSome (cond (nat_lt last_tick (now + timeout)) None (Some (now + timeout))) (λ t. (elapsed < t) × (t < 2 ^ 63))
    by some = elim (cases_lt last_tick (now + timeout)) [
      | inl less ↦ subst (λ b. IfSome (cond b None (Some (now + timeout))) (λ t. (elapsed < t) × (t < 2 ^ 63))) (sym (lt-ltb last_tick (now + timeout) less)) tt
      | inr not_less ↦
          subst (λ b. IfSome (cond b None (Some (now + timeout))) (λ t. (elapsed < t) × (t < 2 ^ 63))) (sym (le-ltb last_tick (now + timeout) not_less))
          (omega (arith, past, some), omega (arith, not_less))
    ]

module _ {M : Type 0} (places : List (Option (Place M))) (timers : Alarms) (queue : List ℕ) (turn : Option ℕ) (greatest live letters : ℕ) (seats : List Bool) (holds : Holds places timers queue turn greatest live letters seats)
    (most_actors most_messages a ms : ℕ) (v w : Option (Place M)) (at : value_at places a ≡ v) (b : Becomes (timed_actor greatest ms) v w) where
  was : value_at places a ≡ Some b.before
  was = at ∙ b.was

  after : view (set places a (Some b.after)) queue turn greatest most_actors most_messages ≡ timed_value (value_at (table_of places) a) (view places queue turn greatest most_actors most_messages) a ms
  after =
      ap (λ t. record { table = t; queue = queue; turn = turn; greatest = greatest; most_actors = most_actors; most_messages = most_messages })
      (table-set places a (Some b.after) ∙ ap (λ x. set (table_of places) a (Some x)) b.actor)
      ∙ sym (ap (λ x. timed_value x (view places queue turn greatest most_actors most_messages) a ms) (there places a b.before was))

  pub timed-after : view (set places a w) queue turn greatest most_actors most_messages ≡ timed_value (value_at (table_of places) a) (view places queue turn greatest most_actors most_messages) a ms
  timed-after = subst (λ x. view (set places a x) queue turn greatest most_actors most_messages ≡ timed_value (value_at (table_of places) a) (view places queue turn greatest most_actors most_messages) a ms) (sym b.is) after

  timed-holds : (alarms2 : Alarms) → Retimed timers alarms2 b.before.timer (waiting_in (mode_of b.after.mode)) → alarms2.wheel.elapsed ≤ greatest → Holds (set places a w) alarms2 queue turn greatest live letters seats
  timed-holds alarms2 re elapsed = subst (λ x. Holds (set places a x) alarms2 queue turn greatest live letters seats) (sym b.is) (
      holds-changed places timers queue turn greatest live letters seats holds a b.before b.after alarms2 queue turn greatest letters was b.timer re elapsed holds.below
      (sym (ap (λ (x : Actor M). letters + length x.mailbox) b.actor))
      (ap (λ q. length queue + once_if q) (sym (ap (λ (x : Actor M). is_queued x.mode) b.actor ∙ queued-timed greatest ms (mode_of b.before.mode))))
      (lines-of (set places a (Some b.after)) queue turn greatest most_actors most_messages _ true after
      (timed_stands (value_at (table_of places) a) (view places queue turn greatest most_actors most_messages) 0 true a ms refl (stands-of places queue turn greatest most_actors most_messages holds.lines))))

  pub timed-keeps : (r : Timing) → r ≡ timing_of greatest ms b.before → r ≡ timing.Keeps → Holds (set places a w) timers queue turn greatest live letters seats
  timed-keeps r is keeps =
      let busy = timing-keeps greatest ms b.before.timer b.before.mode (sym keeps ∙ is) in
      timed-holds timers (of_same timers b.before.timer (waiting_in (mode_of b.after.mode))
      ((holds.ties.tied a b.before was).tick ∙ sym (ap (λ (x : Actor M). waiting_in x.mode) b.actor ∙ ap waiting_in (busy-timed greatest ms (mode_of b.before.mode) busy)))) holds.elapsed

  pub timed-clears : (r : Timing) (k : ℕ) (from to : Option ℕ) → r ≡ timing_of greatest ms b.before → r ≡ timing.Rearms k from to
      → (tick_at timers k ≡ from) × (is_known timers k ≡ true) × IfSome to (λ t. (timers.wheel.elapsed < t) × (t < 2 ^ 63))
  timed-clears r k from to is rearms =
      let told = timing-rearms greatest ms b.before.timer k from to b.before.mode (sym rearms ∙ is) in (
        ap (tick_at timers) told.1 ∙ (holds.ties.tied a b.before was).tick ∙ sym told.2,
        ap (is_known timers) told.1 ∙ (holds.ties.tied a b.before was).known,
        subst (λ x. IfSome x (λ t. (timers.wheel.elapsed < t) × (t < 2 ^ 63))) (sym told.3) (waits-ahead timers.wheel.elapsed greatest ms holds.elapsed),
      )

  pub timed-rearms : (r : Timing) (k : ℕ) (from to : Option ℕ) (mid alarms2 : Alarms) → r ≡ timing_of greatest ms b.before → r ≡ timing.Rearms k from to → Sets timers mid k None → Sets mid alarms2 k to
      → Holds (set places a w) alarms2 queue turn greatest live letters seats
  timed-rearms r k from to mid alarms2 is rearms cleared put =
      let told = timing-rearms greatest ms b.before.timer k from to b.before.mode (sym rearms ∙ is) in
      let re : Retimed timers alarms2 k to = of_both timers mid alarms2 k None to (of_sets timers mid k None cleared) (of_sets mid alarms2 k to put) in
      let waits : to ≡ waiting_in (mode_of b.after.mode) = told.3 ∙ sym (ap (λ (x : Actor M). waiting_in x.mode) b.actor ∙ idle-timed greatest ms (mode_of b.before.mode) told.0) in
      timed-holds alarms2 (subst (λ x. Retimed timers alarms2 x (waiting_in (mode_of b.after.mode))) told.1 (subst (λ x. Retimed timers alarms2 k x) waits re)) (omega (arith, put.elapsed, cleared.elapsed, holds.elapsed))
