-- The actors after the end of a turn.
use Rattle.std.proofs.Common.{◌≡◌, ◌<◌, ◌≤◌, ◌^◌, ℕ, ◌+◌, true, false, Bool, cond, List, [], ◌∷◌, ◌++◌, length, set, get_or, Some, None, Option, refl, ap, sym, subst, ◌∙◌, arith}
use Rattle.std.specs.Prelude.{is_some, ◌==◌, IfSome}
use Rattle.std.specs.Option.{option_map}
use Rattle.std.proofs.lemmas.List.{length-append, map-set}
use Rattle.mono_model.specs.Table.{value_at, without}
use Rattle.mono_wheel.specs.Lists.{IsIn}
use Rattle.mono_model.specs.Valid.{once_if}
use Rattle.mono_actor.specs.Actors.{Mode, idle, queued, running, Actor, in_mode, with_table, with_actor, queued_last, wait_from, ended_value, end_answer}
use Rattle.mono_actor.specs.Steps.{waiting_in}
use Rattle.mono_actor.specs.QueueInvariants.{is_queued, is_running, of_actor}
use Rattle.mono_actor.specs.Places.{mode_of, actor_of, table_of, Becomes, rested, rest_of_turn, Place}
use Rattle.mono_actor.specs.Timers.{tick_at, is_known, Sets, Freed}
use Rattle.mono_actor.specs.Consistency.{Holds}
use Rattle.mono_actor.specs.declared.timers.Alarms.{Alarms}
use Rattle.mono_actor.specs.declared.answers.After.TheVariants as after
use Rattle.mono_actor.specs.declared.places.Rest.{Rest}
use Rattle.mono_actor.specs.declared.places.Rest.TheVariants as rest
use Rattle.mono_actor.proofs.TieLemmas.{of_same, of_sets, ties-gone}
use Rattle.mono_actor.proofs.CountLemmas.{at-table, there, table-set, counts-gone, letters-least, live-least}
use Rattle.mono_actor.proofs.TimeoutLemmas.{gone, ends}
use Rattle.mono_actor.proofs.NewTimeoutLemmas.{waits-ahead}
use Rattle.mono_actor.proofs.CallLemmas.{none-some, true-false, view, stands-of, lines-of, holds-changed, seat-free}

running-mode : (m : Mode) → is_running m ≡ true → (is_queued m ≡ false) × (waiting_in m ≡ None)
running-mode (idle w) is = absurd (true-false (sym is))
running-mode queued is = absurd (true-false (sym is))
running-mode running is = (refl, refl)

again-rest : (b : Bool) (k : ℕ) (t : Option ℕ) → rest.Again ≡ cond b (rest.Waits k t) rest.Again → b ≡ false
again-rest true k t e = absurd (cc)
again-rest false k t e = refl

waits-rest : (b : Bool) (k k2 : ℕ) (t t2 : Option ℕ) → rest.Waits k t ≡ cond b (rest.Waits k2 t2) rest.Again → (b ≡ true) × (k ≡ k2) × (t ≡ t2)
waits-rest true k k2 t t2 e = (refl, cc, cc)
waits-rest false k k2 t t2 e = absurd (cc)

pub some-of : {X : Type 0} (v : Option X) → is_some v ≡ true → (x : X) × (v ≡ Some x)
some-of None is = absurd (true-false (sym is))
some-of (Some x) is = (x, refl)

-- no turn runs any more
pub over-holds : {M : Type 0} (places : List (Option (Place M))) (timers : Alarms) (queue : List ℕ) (turn : Option ℕ) (greatest live letters : ℕ) (seats : List Bool) → Holds places timers queue turn greatest live letters seats
    → Holds places timers queue None greatest live letters seats
over-holds places timers queue turn greatest live letters seats holds = record {
  ties = holds.ties;
  lines = record { queue_is = holds.lines.queue_is; turn_is = λ me is. absurd (none-some me is) };
  counts = holds.counts;
  elapsed = holds.elapsed;
  below = holds.below;
  seated = holds.seated;
}

module _ {M : Type 0} (places : List (Option (Place M))) (timers : Alarms) (queue : List ℕ) (turn : Option ℕ) (greatest live letters : ℕ) (seats : List Bool) (holds : Holds places timers queue turn greatest live letters seats)
    (most_actors most_messages me : ℕ) (runs : of_actor is_running (value_at (table_of places) me) ≡ true) (over : turn ≡ None) where
  found : (v : Option (Place M)) → value_at places me ≡ v → is_some v ≡ true
  found None at = absurd (true-false (sym (sym (ap (of_actor is_running) (at-table places me ∙ ap (option_map actor_of) at)) ∙ runs)))
  found (Some p) at = refl

  pub runs-there : is_some (value_at places me) ≡ true
  runs-there = found (value_at places me) refl

  its-mode : (p : Place M) → value_at places me ≡ Some p → (is_queued (mode_of p.mode) ≡ false) × (waiting_in (mode_of p.mode) ≡ None)
  its-mode p was = running-mode (mode_of p.mode) (sym (ap (of_actor is_running) (there places me p was)) ∙ runs)

  -- The actor is removed.
  module _ (p : Place M) (was : value_at places me ≡ Some p) where
    pub gone-frees : (is_known timers p.timer ≡ true) × (tick_at timers p.timer ≡ None) × (length p.mailbox ≤ letters) × (1 ≤ live)
    gone-frees = (
      (holds.ties.tied me p was).known,
      (holds.ties.tied me p was).tick ∙ (its-mode p was).1,
      letters-least places queue live letters me p holds.counts was,
      live-least places queue live letters me p holds.counts was,
    )

    pub gone-seat : (get_or seats me false ≡ true) × (IsIn me queue → ⊥)
    gone-seat = seat-free places timers queue turn greatest live letters seats holds me p was (its-mode p was).0

    gone-view : view (set places me None) queue turn greatest most_actors most_messages ≡ with_table (view places queue turn greatest most_actors most_messages) (without (table_of places) me)
    gone-view = ap (with_table (view places queue turn greatest most_actors most_messages)) (table-set places me None)

    pub gone-after : (w : Option (Place M)) → w ≡ None → view (set places me w) queue turn greatest most_actors most_messages ≡ with_table (view places queue turn greatest most_actors most_messages) (without (table_of places) me)
    gone-after w is = subst (λ x. view (set places me x) queue turn greatest most_actors most_messages ≡ with_table (view places queue turn greatest most_actors most_messages) (without (table_of places) me)) (sym is) gone-view

    pub gone-holds : (w : Option (Place M)) (alarms2 : Alarms) (live2 letters2 : ℕ) → w ≡ None → Freed timers alarms2 p.timer → live2 + 1 ≡ live → letters2 + length p.mailbox ≡ letters
        → Holds (set places me w) alarms2 queue turn greatest live2 letters2 (set seats me false)
    gone-holds w alarms2 live2 letters2 is freed one mail = subst (λ x. Holds (set places me x) alarms2 queue turn greatest live2 letters2 (set seats me false)) (sym is) (record {
      ties = ties-gone places timers alarms2 me p holds.ties was (its-mode p was).1 freed;
      lines = lines-of (set places me None) queue turn greatest most_actors most_messages _ true gone-view
          (gone (view places queue turn greatest most_actors most_messages) 0 true me over (ap (of_actor is_queued) (there places me p was) ∙ (its-mode p was).0) (stands-of places queue turn greatest most_actors most_messages holds.lines));
      counts = counts-gone places queue live live2 letters letters2 me p holds.counts was one mail (its-mode p was).0;
      elapsed = omega (arith, holds.elapsed, freed.elapsed);
      below = holds.below;
      seated = ap (λ xs. set xs me false) holds.seated ∙ sym (map-set is_some places me None);
    })

  -- The actor stays.
  module _ (v w : Option (Place M)) (at : value_at places me ≡ v) (b : Becomes (rested greatest) v w) where
    was : value_at places me ≡ Some b.before
    was = at ∙ b.was

    stands-after : Rattle.mono_actor.proofs.TimeoutLemmas.Stands (ended_value false (value_at (table_of places) me) (view places queue turn greatest most_actors most_messages) me) 0 true
    stands-after =
        ends false (value_at (table_of places) me) (view places queue turn greatest most_actors most_messages) 0 true me refl
        (ap (of_actor is_queued) (there places me b.before was) ∙ (its-mode b.before was).0) over (stands-of places queue turn greatest most_actors most_messages holds.lines)

    pub rest-room : (get_or seats me false ≡ true) × (IsIn me queue → ⊥)
    rest-room = seat-free places timers queue turn greatest live letters seats holds me b.before was (its-mode b.before was).0

    module _ (some : (length b.before.mailbox == 0) ≡ false) where
      again-actor : actor_of b.after ≡ in_mode (actor_of b.before) queued
      again-actor = b.actor ∙ ap (λ i. cond i (in_mode (actor_of b.before) (idle (wait_from greatest b.before.timeout))) (in_mode (actor_of b.before) queued)) some

      again-view : view (set places me (Some b.after)) (queue ++ me ∷ []) turn greatest most_actors most_messages
          ≡ ended_value false (value_at (table_of places) me) (view places queue turn greatest most_actors most_messages) me
      again-view =
          ap (λ t. record { table = t; queue = queue ++ me ∷ []; turn = turn; greatest = greatest; most_actors = most_actors; most_messages = most_messages })
          (table-set places me (Some b.after) ∙ ap (λ x. set (table_of places) me (Some x)) again-actor)
          ∙ sym (ap (λ x. ended_value false x (view places queue turn greatest most_actors most_messages) me) (there places me b.before was)
          ∙ ap (λ i. cond i (with_actor (view places queue turn greatest most_actors most_messages) me (in_mode (actor_of b.before) (idle (wait_from greatest b.before.timeout))))
          (queued_last (view places queue turn greatest most_actors most_messages) me (actor_of b.before))) some)

      again-holds : Holds (set places me (Some b.after)) timers (queue ++ me ∷ []) turn greatest live letters seats
      again-holds = holds-changed places timers queue turn greatest live letters seats holds me b.before b.after timers (queue ++ me ∷ []) turn greatest letters was b.timer
          (of_same timers b.before.timer (waiting_in (mode_of b.after.mode)) ((holds.ties.tied me b.before was).tick ∙ (its-mode b.before was).1 ∙ sym (ap (λ (x : Actor M). waiting_in x.mode) again-actor)))
          holds.elapsed holds.below (sym (ap (λ (x : Actor M). letters + length x.mailbox) again-actor))
          (omega (arith, length-append queue (me ∷ []), ap once_if (its-mode b.before was).0, ap (λ (x : Actor M). once_if (is_queued x.mode)) again-actor))
          (lines-of (set places me (Some b.after)) (queue ++ me ∷ []) turn greatest most_actors most_messages _ true again-view stands-after)

    module _ (none : (length b.before.mailbox == 0) ≡ true) where
      idle-actor : actor_of b.after ≡ in_mode (actor_of b.before) (idle (wait_from greatest b.before.timeout))
      idle-actor = b.actor ∙ ap (λ i. cond i (in_mode (actor_of b.before) (idle (wait_from greatest b.before.timeout))) (in_mode (actor_of b.before) queued)) none

      idle-view : view (set places me (Some b.after)) queue turn greatest most_actors most_messages
          ≡ ended_value false (value_at (table_of places) me) (view places queue turn greatest most_actors most_messages) me
      idle-view =
          ap (λ t. record { table = t; queue = queue; turn = turn; greatest = greatest; most_actors = most_actors; most_messages = most_messages })
          (table-set places me (Some b.after) ∙ ap (λ x. set (table_of places) me (Some x)) idle-actor)
          ∙ sym (ap (λ x. ended_value false x (view places queue turn greatest most_actors most_messages) me) (there places me b.before was)
          ∙ ap (λ i. cond i (with_actor (view places queue turn greatest most_actors most_messages) me (in_mode (actor_of b.before) (idle (wait_from greatest b.before.timeout))))
          (queued_last (view places queue turn greatest most_actors most_messages) me (actor_of b.before))) none)

      idle-holds : (alarms2 : Alarms) → Sets timers alarms2 b.before.timer (wait_from greatest b.before.timeout) → Holds (set places me (Some b.after)) alarms2 queue turn greatest live letters seats
      idle-holds alarms2 sets = holds-changed places timers queue turn greatest live letters seats holds me b.before b.after alarms2 queue turn greatest letters was b.timer
          (of_sets timers alarms2 b.before.timer _ (subst (λ t. Sets timers alarms2 b.before.timer t) (sym (ap (λ (x : Actor M). waiting_in x.mode) idle-actor)) sets))
          (omega (arith, holds.elapsed, sets.elapsed)) holds.below (sym (ap (λ (x : Actor M). letters + length x.mailbox) idle-actor))
          (omega (arith, ap once_if (its-mode b.before was).0, ap (λ (x : Actor M). once_if (is_queued x.mode)) idle-actor))
          (lines-of (set places me (Some b.after)) queue turn greatest most_actors most_messages _ true idle-view stands-after)

    answers : (i : Bool) → (length b.before.mailbox == 0) ≡ i → end_answer false (value_at (table_of places) me) ≡ cond i after.Idle after.Again
    answers i is = ap (end_answer false) (there places me b.before was) ∙ ap (λ x. cond x after.Idle after.Again) is

    pub rest-again : (r : Rest) (queue2 : List ℕ) → r ≡ rest_of_turn greatest b.before → r ≡ rest.Again → queue2 ≡ queue ++ me ∷ []
        → Holds (set places me w) timers queue2 turn greatest live letters seats
        × (view (set places me w) queue2 turn greatest most_actors most_messages ≡ ended_value false (value_at (table_of places) me) (view places queue turn greatest most_actors most_messages) me)
        × (after.Again ≡ end_answer false (value_at (table_of places) me))
    rest-again r queue2 is again last =
        let some = again-rest (length b.before.mailbox == 0) b.before.timer (wait_from greatest b.before.timeout) (sym again ∙ is) in (
          subst (λ qs. Holds (set places me w) timers qs turn greatest live letters seats) (sym last) (subst (λ x. Holds (set places me x) timers (queue ++ me ∷ []) turn greatest live letters seats) (sym b.is) (again-holds some)),
          subst (λ qs. view (set places me w) qs turn greatest most_actors most_messages ≡ ended_value false (value_at (table_of places) me) (view places queue turn greatest most_actors most_messages) me) (sym last)
              (subst (λ x. view (set places me x) (queue ++ me ∷ []) turn greatest most_actors most_messages ≡ ended_value false (value_at (table_of places) me) (view places queue turn greatest most_actors most_messages) me) (sym b.is) (again-view some)),
          sym (answers false some),
        )

    pub rest-sets : (r : Rest) (k : ℕ) (t : Option ℕ) → r ≡ rest_of_turn greatest b.before → r ≡ rest.Waits k t
        → (is_known timers k ≡ true) × (tick_at timers k ≡ None) × IfSome t (λ x. (timers.wheel.elapsed < x) × (x < 2 ^ 63))
    rest-sets r k t is waits =
        let told = waits-rest (length b.before.mailbox == 0) k b.before.timer t (wait_from greatest b.before.timeout) (sym waits ∙ is) in (
          ap (is_known timers) told.1 ∙ (holds.ties.tied me b.before was).known,
          ap (tick_at timers) told.1 ∙ (holds.ties.tied me b.before was).tick ∙ (its-mode b.before was).1,
          subst (λ x. IfSome x (λ y. (timers.wheel.elapsed < y) × (y < 2 ^ 63))) (sym told.2) (waits-ahead timers.wheel.elapsed greatest b.before.timeout holds.elapsed),
        )

    pub rest-idle : (r : Rest) (k : ℕ) (t : Option ℕ) (alarms2 : Alarms) → r ≡ rest_of_turn greatest b.before → r ≡ rest.Waits k t → Sets timers alarms2 k t
        → Holds (set places me w) alarms2 queue turn greatest live letters seats
        × (view (set places me w) queue turn greatest most_actors most_messages ≡ ended_value false (value_at (table_of places) me) (view places queue turn greatest most_actors most_messages) me)
        × (after.Idle ≡ end_answer false (value_at (table_of places) me))
    rest-idle r k t alarms2 is waits sets =
        let told = waits-rest (length b.before.mailbox == 0) k b.before.timer t (wait_from greatest b.before.timeout) (sym waits ∙ is) in (
          subst (λ x. Holds (set places me x) alarms2 queue turn greatest live letters seats) (sym b.is)
              (idle-holds told.0 alarms2 (subst (λ x. Sets timers alarms2 b.before.timer x) told.2 (subst (λ x. Sets timers alarms2 x t) told.1 sets))),
          subst (λ x. view (set places me x) queue turn greatest most_actors most_messages ≡ ended_value false (value_at (table_of places) me) (view places queue turn greatest most_actors most_messages) me) (sym b.is) (idle-view told.0),
          sym (answers true told.0),
        )
