-- The actors after a clock step, one actor after another.
use Rattle.std.proofs.Common.{◌≡◌, ◌≢◌, ◌≤◌, ℕ, ◌+◌, true, false, Bool, List, [], ◌∷◌, ◌++◌, length, set, get_or, Some, None, Option, refl, ap, sym, subst, ◌∙◌, arith}
use Rattle.std.specs.Prelude.{is_some, sum_by}
use Rattle.std.specs.Option.{option_map}
use Rattle.std.proofs.lemmas.List.{length-append, get_or-set_same, get_or-set_other, append-nil, append_assoc}
use Rattle.std.proofs.lemmas.List.Sums.{sum_by-le-sum_by}
use Rattle.mono_model.specs.Table.{value_at, count_of}
use Rattle.mono_wheel.specs.Lists.{IsIn}
use Rattle.mono_model.specs.Valid.{once_if}
use Rattle.mono_model.specs.Due.{HasCome, ListsDue}
use Rattle.mono_actor.specs.Actors.{Mode, idle, queued, running, Actor, Actors, in_mode}
use Rattle.mono_actor.specs.Steps.{waiting_in, waiting_value, queued_value, all_queued}
use Rattle.mono_actor.specs.QueueInvariants.{is_queued, is_running, of_actor, one_if_live}
use Rattle.mono_actor.specs.Places.{mode_of, actor_of, table_of, Becomes, Place}
use Rattle.mono_actor.specs.Timers.{tick_at, NoneRings, Rings}
use Rattle.mono_actor.specs.Consistency.{Holds}
use Rattle.mono_actor.specs.ClockSteps.{IsNoneDue, RingsFirst, RingsAll, one_if_any, one_if_waits, waiting_count}
use Rattle.mono_actor.specs.declared.timers.Alarms.{Alarms}
use Rattle.mono_actor.proofs.TieLemmas.{given, Retimed, ties-same, Owned, owner}
use Rattle.mono_actor.proofs.CountLemmas.{at-table, there, table-set, sum-set, live-count}
use Rattle.mono_actor.proofs.TimeoutLemmas.{one_queued}
use Rattle.mono_actor.proofs.ListLemmas.{lists-first, lists-none}
use Rattle.mono_actor.proofs.CallLemmas.{none-some, view, stands-of, lines-of, holds-changed, seat-free}

same-some : {X : Type 0} (x y : X) → Some x ≡ Some y → x ≡ y
same-some x y e = cc

-- A waiting actor is idle.
waits-idle : (m : Mode) (tick : ℕ) → waiting_in m ≡ Some tick → (is_queued m ≡ false) × (is_running m ≡ false)
waits-idle (idle w) tick e = (refl, refl)
waits-idle queued tick e = absurd (none-some tick e)
waits-idle running tick e = absurd (none-some tick e)

module _ {M : Type 0} where
  one_waits : (x : Option (Actor M)) → one_if_waits x ≤ one_if_live x
  one_waits None = omega arith
  one_waits (Some actor) = by (waiting_in actor.mode)
    where
      by : (t : Option ℕ) → one_if_any t ≤ 1
      by None = omega arith
      by (Some t) = omega arith

  pub waiting-live : (actors : Actors M) → waiting_count actors ≤ count_of actors.table
  waiting-live actors = omega (arith, sum_by-le-sum_by one_if_waits one_if_live actors.table one_waits, live-count actors.table)

module _ {M : Type 0} (places : List (Option (Place M))) (timers : Alarms) (queue : List ℕ) (turn : Option ℕ) (greatest live letters : ℕ) (seats : List Bool) (holds : Holds places timers queue turn greatest live letters seats)
    (most_actors most_messages : ℕ) where
  -- who waits has a key that waits
  waits-key : (a tick : ℕ) → waiting_value (value_at (table_of places) a) ≡ Some tick → (p : Place M) × (value_at places a ≡ Some p) × (tick_at timers p.timer ≡ Some tick)
  waits-key a tick is = by (value_at places a) refl
    where
      by : (v : Option (Place M)) → value_at places a ≡ v → (p : Place M) × (value_at places a ≡ Some p) × (tick_at timers p.timer ≡ Some tick)
      by None at = absurd (none-some tick (sym (ap waiting_value (at-table places a ∙ ap (option_map actor_of) at)) ∙ is))
      by (Some p) at = (p, at, (holds.ties.tied a p at).tick ∙ sym (ap waiting_value (there places a p at)) ∙ is)

  pub none-due : (alarms2 : Alarms) → NoneRings timers alarms2 greatest → IsNoneDue (view places queue turn greatest most_actors most_messages)
  none-due alarms2 nothing a come = by (waiting_value (value_at (table_of places) a)) refl come
    where
      by : (t : Option ℕ) → waiting_value (value_at (table_of places) a) ≡ t → HasCome greatest t → ⊥
      by None at due = due
      by (Some tick) at due = let found = waits-key a tick at in omega (arith, nothing.none found.0.timer tick found.2, due)

  pub none-holds : (alarms2 : Alarms) → NoneRings timers alarms2 greatest → Holds places alarms2 queue turn greatest live letters seats
  none-holds alarms2 nothing = record {
    ties = ties-same places timers alarms2 holds.ties nothing.ticks nothing.known nothing.numbers;
    lines = holds.lines;
    counts = holds.counts;
    elapsed = omega (arith, nothing.elapsed);
    below = holds.below;
    seated = holds.seated;
  }

  module _ (alarms2 : Alarms) (a : ℕ) (r : Rings timers alarms2 greatest a) where
    owned : Owned places timers r.key
    owned = owner places timers r.key alarms2.wheel.elapsed holds.ties r.due

    at_a : value_at places a ≡ Some owned.place
    at_a = ap (value_at places) r.its_number ∙ owned.at

    pub rings-there : is_some (value_at places a) ≡ true
    rings-there = ap is_some at_a

    waits-tick : waiting_in (mode_of owned.place.mode) ≡ Some alarms2.wheel.elapsed
    waits-tick = sym (holds.ties.tied a owned.place at_a).tick ∙ ap (tick_at timers) owned.timer ∙ r.due

    module _ (v w : Option (Place M)) (at : value_at places a ≡ v) (b : Becomes (λ (actor : Actor M). in_mode actor queued) v w) where
      was : value_at places a ≡ Some b.before
      was = at ∙ b.was

      same_place : owned.place ≡ b.before
      same_place = same-some owned.place b.before (sym at_a ∙ was)

      key_is : r.key ≡ b.before.timer
      key_is = sym owned.timer ∙ ap (λ (x : Place M). x.timer) same_place

      its_tick : waiting_in (mode_of b.before.mode) ≡ Some alarms2.wheel.elapsed
      its_tick = sym (ap (λ (x : Place M). waiting_in (mode_of x.mode)) same_place) ∙ waits-tick

      pub ring-room : (get_or seats a false ≡ true) × (IsIn a queue → ⊥)
      ring-room = seat-free places timers queue turn greatest live letters seats holds a b.before was (waits-idle (mode_of b.before.mode) alarms2.wheel.elapsed its_tick).0

      after : view (set places a (Some b.after)) (queue ++ a ∷ []) turn greatest most_actors most_messages
          ≡ queued_value (value_at (table_of places) a) (view places queue turn greatest most_actors most_messages) a
      after =
          ap (λ t. record { table = t; queue = queue ++ a ∷ []; turn = turn; greatest = greatest; most_actors = most_actors; most_messages = most_messages })
          (table-set places a (Some b.after) ∙ ap (λ x. set (table_of places) a (Some x)) b.actor)
          ∙ sym (ap (λ x. queued_value x (view places queue turn greatest most_actors most_messages) a) (there places a b.before was))

      re : Retimed timers alarms2 b.before.timer (waiting_in (mode_of b.after.mode))
      re = record {
        here = ap (tick_at alarms2) (sym key_is) ∙ r.gone ∙ sym (ap (λ (x : Actor M). waiting_in x.mode) b.actor);
        others = λ other apart. r.others other (λ e. apart (e ∙ key_is));
        known = r.known;
        numbers = r.numbers;
      }

      pub ring-holds : (queue2 : List ℕ) → turn ≡ None → queue2 ≡ queue ++ a ∷ [] → Holds (set places a w) alarms2 queue2 turn greatest live letters seats
      ring-holds queue2 over last =
          subst (λ qs. Holds (set places a w) alarms2 qs turn greatest live letters seats) (sym last) (
          subst (λ x. Holds (set places a x) alarms2 (queue ++ a ∷ []) turn greatest live letters seats) (sym b.is) (
          holds-changed places timers queue turn greatest live letters seats holds a b.before b.after alarms2 (queue ++ a ∷ []) turn greatest letters was b.timer re r.come holds.below
          (sym (ap (λ (x : Actor M). letters + length x.mailbox) b.actor))
          (omega (
            arith,
            length-append queue (a ∷ []),
            ap once_if (waits-idle (mode_of b.before.mode) alarms2.wheel.elapsed its_tick).0,
            ap (λ (x : Actor M). once_if (is_queued x.mode)) b.actor,
          ))
          (lines-of (set places a (Some b.after)) (queue ++ a ∷ []) turn greatest most_actors most_messages _ true after
          (one_queued (value_at (table_of places) a) (view places queue turn greatest most_actors most_messages) 0 a true refl
          (ap (of_actor is_queued) (there places a b.before was) ∙ (waits-idle (mode_of b.before.mode) alarms2.wheel.elapsed its_tick).0) over (λ e. refl)
          (stands-of places queue turn greatest most_actors most_messages holds.lines)))))

      pub rings-first : (queue2 : List ℕ) → queue2 ≡ queue ++ a ∷ [] → RingsFirst (view places queue turn greatest most_actors most_messages) (view (set places a w) queue2 turn greatest most_actors most_messages) a
      rings-first queue2 last = record {
        is_due = subst (λ t. HasCome greatest t) (sym (ap waiting_value (there places a b.before was) ∙ its_tick)) r.come;
        first = λ other x y at_x at_y. (
            let found = waits-key other y at_y in
            omega (arith, r.least found.0.timer y found.2, same-some x alarms2.wheel.elapsed (sym at_x ∙ ap waiting_value (there places a b.before was) ∙ its_tick)));
        queued =
            subst (λ qs. view (set places a w) qs turn greatest most_actors most_messages ≡ queued_value (value_at (table_of places) a) (view places queue turn greatest most_actors most_messages) a) (sym last) (
            subst (λ x. view (set places a x) (queue ++ a ∷ []) turn greatest most_actors most_messages ≡ queued_value (value_at (table_of places) a) (view places queue turn greatest most_actors most_messages) a) (sym b.is) after);
      }

      pub ring-fewer : (queue2 : List ℕ) → waiting_count (view (set places a w) queue2 turn greatest most_actors most_messages) + 1 ≡ waiting_count (view places queue turn greatest most_actors most_messages)
      ring-fewer queue2 = subst (λ x. sum_by one_if_waits (table_of (set places a x)) + 1 ≡ sum_by one_if_waits (table_of places)) (sym b.is) (
          omega (arith, sum-set one_if_waits places a b.before (Some b.after) was, ap one_if_any its_tick, ap (λ (x : Actor M). one_if_any (waiting_in x.mode)) b.actor))

-- The actors so far, and the remaining ones.
module _ {M : Type 0} where
  one_turn : (v : Option (Actor M)) (actors : Actors M) (a : ℕ) → ((queued_value v actors a).turn ≡ actors.turn) × ((queued_value v actors a).greatest ≡ actors.greatest)
  one_turn None actors a = (refl, refl)
  one_turn (Some actor) actors a = (refl, refl)

  -- An actor that rings exists and waits no longer, and the others are as they were.
  pub record Follows (old new : Actors M) (a : ℕ) : Type 0 where
    pub gone : waiting_value (value_at new.table a) ≡ None
    pub others : (other : ℕ) → other ≢ a → value_at new.table other ≡ value_at old.table other
    pub turn : new.turn ≡ old.turn
    pub greatest : new.greatest ≡ old.greatest

  follows : (old : Actors M) (a : ℕ) (v : Option (Actor M)) → value_at old.table a ≡ v → HasCome old.greatest (waiting_value v) → Follows old (queued_value v old a) a
  follows old a None at come = absurd come
  follows old a (Some actor) at come = record {
    gone = ap waiting_value (get_or-set_same old.table a (Some (in_mode actor queued)) None (given old.table a actor at));
    others = λ other apart. get_or-set_other old.table a other (Some (in_mode actor queued)) None apart;
    turn = refl;
    greatest = refl;
  }

  pub ring-follows : (old new : Actors M) (a : ℕ) → RingsFirst old new a → Follows old new a
  ring-follows old new a rings = subst (λ x. Follows old x a) (sym rings.queued) (follows old a (value_at old.table a) refl rings.is_due)

  -- one, and then the rest
  pub rings-step : (old mid new : Actors M) (a : ℕ) (items with_due : List ℕ) → RingsFirst old mid a → RingsAll mid (items ++ a ∷ []) with_due new → RingsAll old items with_due new
  rings-step old mid new a items with_due rings all =
      let f = ring-follows old mid a rings in
      record {
        due = a ∷ all.due;
        appended = all.appended ∙ append_assoc items (a ∷ []) all.due;
        lists = lists-first waiting_value old.table mid.table old.greatest a rings.is_due rings.first f.gone f.others all.due (subst (λ g. ListsDue waiting_value mid.table g all.due) f.greatest all.lists);
        queued = all.queued ∙ ap (λ (x : Actors M). all_queued x all.due) rings.queued;
      }

  pub rings-done : (old new : Actors M) (items : List ℕ) → IsNoneDue old → new ≡ old → RingsAll old items items new
  rings-done old new items none same = record {
    due = [];
    appended = sym (append-nil items);
    lists = lists-none waiting_value old.table old.greatest none;
    queued = same;
  }
