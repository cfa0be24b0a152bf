-- The actors after a call that changes one place, and the invariant of the code.
use Rattle.std.proofs.Common.{◌≡◌, ◌<◌, ◌≤◌, ◌^◌, ℕ, zero, suc, inl, inr, ◌+◌, true, false, Bool, cond, List, [], ◌∷◌, ◌++◌, length, map, set, get_or, Some, None, Option, refl, ap, sym, subst, ◌∙◌, arith, eq-eqb}
use Rattle.std.specs.Prelude.{is_some}
use Rattle.std.proofs.Math.ListN.{get_or-map}
use Rattle.mono_wheel.specs.Lists.{IsIn}
use Rattle.std.proofs.lemmas.List.{length-append}
use Rattle.mono_model.specs.Table.{value_at}
use Rattle.mono_model.specs.Valid.{times, once_if}
use Rattle.mono_actor.specs.Actors.{Mode, idle, queued, running, Actor, Actors, is_idle, mode_with, wait_from, with_letter, with_actor, in_mode, queued_last, received_value}
use Rattle.mono_actor.specs.Steps.{waiting_in}
use Rattle.mono_actor.specs.QueueInvariants.{is_queued, is_running, of_actor}
use Rattle.mono_actor.specs.Places.{mode_of, receipt_in, timing_in, actor_of, table_of, Becomes, receipt_of, delivered, Place}
use Rattle.mono_actor.specs.Timers.{tick_at, Sets}
use Rattle.mono_actor.specs.Consistency.{Lines, Holds}
use Rattle.mono_actor.specs.declared.timers.Alarms.{Alarms}
use Rattle.mono_actor.specs.declared.mailboxes.Letter.{Letter}
use Rattle.mono_actor.specs.declared.places.Mode as declared
use Rattle.mono_actor.specs.declared.places.Mode.TheVariants as place
use Rattle.mono_actor.specs.declared.places.Receipt.{Receipt}
use Rattle.mono_actor.specs.declared.places.Receipt.TheVariants as receipt
use Rattle.mono_actor.specs.declared.places.Timing.TheVariants as timing
use Rattle.mono_actor.proofs.TieLemmas.{Retimed, ties-changed, of_same, of_sets}
use Rattle.mono_actor.proofs.CountLemmas.{there, table-set, counts-changed}
use Rattle.mono_actor.proofs.TimeoutLemmas.{Stands, received}

pub none-some : {X : Type 0} (x : X) → None ≡ Some x → ⊥
none-some x e = cc

pub true-false : true ≡ false → ⊥
true-false e = cc

-- The work after a message, by the mode.
receipt-waits : (timer : ℕ) (m : declared.Mode) → receipt.Waits ≡ receipt_in timer m → is_idle (mode_of m) ≡ false
receipt-waits timer (place.Idle w) e = absurd (cc)
receipt-waits timer place.Queued e = refl
receipt-waits timer place.Running e = refl

receipt-queues : (timer k : ℕ) (t : Option ℕ) (m : declared.Mode) → receipt.Queues k t ≡ receipt_in timer m → (is_idle (mode_of m) ≡ true) × (k ≡ timer) × (t ≡ waiting_in (mode_of m))
receipt-queues timer k t (place.Idle w) e = (refl, cc, cc)
receipt-queues timer k t place.Queued e = absurd (cc)
receipt-queues timer k t place.Running e = absurd (cc)

pub timing-keeps : (now ms timer : ℕ) (m : declared.Mode) → timing.Keeps ≡ timing_in now ms timer m → is_idle (mode_of m) ≡ false
timing-keeps now ms timer (place.Idle w) e = absurd (cc)
timing-keeps now ms timer place.Queued e = refl
timing-keeps now ms timer place.Running e = refl

pub timing-rearms : (now ms timer k : ℕ) (from to : Option ℕ) (m : declared.Mode) → timing.Rearms k from to ≡ timing_in now ms timer m
    → (is_idle (mode_of m) ≡ true) × (k ≡ timer) × (from ≡ waiting_in (mode_of m)) × (to ≡ wait_from now ms)
timing-rearms now ms timer k from to (place.Idle w) e = (refl, cc, cc, cc)
timing-rearms now ms timer k from to place.Queued e = absurd (cc)
timing-rearms now ms timer k from to place.Running e = absurd (cc)

pub idle-mode : (m : Mode) → is_idle m ≡ true → (is_queued m ≡ false) × (is_running m ≡ false)
idle-mode (idle w) is = (refl, refl)
idle-mode queued is = absurd (cc)
idle-mode running is = absurd (cc)

pub idle-timed : (now ms : ℕ) (m : Mode) → is_idle m ≡ true → waiting_in (mode_with now ms m) ≡ wait_from now ms
idle-timed now ms (idle w) is = refl
idle-timed now ms queued is = absurd (cc)
idle-timed now ms running is = absurd (cc)

pub busy-timed : (now ms : ℕ) (m : Mode) → is_idle m ≡ false → mode_with now ms m ≡ m
busy-timed now ms (idle w) is = absurd (cc)
busy-timed now ms queued is = refl
busy-timed now ms running is = refl

pub queued-timed : (now ms : ℕ) (m : Mode) → is_queued (mode_with now ms m) ≡ is_queued m
queued-timed now ms (idle w) = refl
queued-timed now ms queued = refl
queued-timed now ms running = refl

-- Who is in a list occurs in it.
pub in-none : (a : ℕ) (xs : List ℕ) → IsIn a xs → times xs a ≡ 0 → ⊥
in-none a [] h none = h
in-none a (x ∷ xs) (inl e) none = omega (arith, none, ap once_if (eq-eqb x a (sym e)))
in-none a (x ∷ xs) (inr h) none = in-none a xs h (omega (arith, none))

pub seats-kept : {M : Type 0} (places : List (Option (Place M))) (a : ℕ) (p q : Place M) → value_at places a ≡ Some p → map is_some (set places a (Some q)) ≡ map is_some places
seats-kept [] a p q was = refl
seats-kept (x ∷ xs) zero p q was = ap (λ y. y ∷ map is_some xs) (sym (ap is_some was))
seats-kept (x ∷ xs) (suc a) p q was = ap (λ ys. is_some x ∷ ys) (seats-kept xs a p q was)

module _ {M : Type 0} where
  -- The actors that these fields view.
  abbrev pub view : List (Option (Place M)) → List ℕ → Option ℕ → ℕ → ℕ → ℕ → Actors M
  view places queue turn greatest most_actors most_messages = record {
    table = table_of places;
    queue = queue;
    turn = turn;
    greatest = greatest;
    most_actors = most_actors;
    most_messages = most_messages;
  }

  pub stands-of : (places : List (Option (Place M))) (queue : List ℕ) (turn : Option ℕ) (greatest most_actors most_messages : ℕ) → Lines places queue turn
      → Stands (view places queue turn greatest most_actors most_messages) 0 true
  stands-of places queue turn greatest most_actors most_messages lines = record { queue = lines.queue_is; turn = lines.turn_is; due = λ actor its queues none. refl }

  pub lines-of : (places : List (Option (Place M))) (queue : List ℕ) (turn : Option ℕ) (greatest most_actors most_messages : ℕ) (other : Actors M) (was : Bool)
      → view places queue turn greatest most_actors most_messages ≡ other → Stands other 0 was → Lines places queue turn
  lines-of places queue turn greatest most_actors most_messages other was same stands =
      let mine : Stands (view places queue turn greatest most_actors most_messages) 0 was = subst (λ (k : Actors M). Stands k 0 was) (sym same) stands in
      record { queue_is = mine.queue; turn_is = mine.turn }

  module _ (places : List (Option (Place M))) (timers : Alarms) (queue : List ℕ) (turn : Option ℕ) (greatest live letters : ℕ) (seats : List Bool) (holds : Holds places timers queue turn greatest live letters seats) where
    -- a place changed
    pub holds-changed : (a : ℕ) (p q : Place M) (alarms2 : Alarms) (queue2 : List ℕ) (turn2 : Option ℕ) (greatest2 letters2 : ℕ) → value_at places a ≡ Some p → q.timer ≡ p.timer
        → Retimed timers alarms2 p.timer (waiting_in (mode_of q.mode)) → alarms2.wheel.elapsed ≤ greatest2 → greatest2 < 2 ^ 63
        → letters2 + length p.mailbox ≡ letters + length q.mailbox → length queue2 + once_if (is_queued (mode_of p.mode)) ≡ length queue + once_if (is_queued (mode_of q.mode))
        → Lines (set places a (Some q)) queue2 turn2 → Holds (set places a (Some q)) alarms2 queue2 turn2 greatest2 live letters2 seats
    holds-changed a p q alarms2 queue2 turn2 greatest2 letters2 was same_timer re elapsed below mail line lines = record {
      ties = ties-changed places timers alarms2 a p q holds.ties was same_timer re;
      lines = lines;
      counts = counts-changed places queue queue2 live letters letters2 a p q holds.counts was mail line;
      elapsed = elapsed;
      below = below;
      seated = holds.seated ∙ sym (seats-kept places a p q was);
    }

    -- An actor that is not in the queue has a seat.
    pub seat-free : (a : ℕ) (p : Place M) → value_at places a ≡ Some p → is_queued (mode_of p.mode) ≡ false → (get_or seats a false ≡ true) × (IsIn a queue → ⊥)
    seat-free a p was not_queued = (
      ap (λ xs. get_or xs a false) holds.seated ∙ get_or-map is_some places a None ∙ ap is_some was,
      (λ h. in-none a queue h (holds.lines.queue_is a ∙ ap once_if (ap (of_actor is_queued) (there places a p was) ∙ not_queued))),
    )

    module _ (most_actors most_messages : ℕ) where
      before : Actors M
      before = view places queue turn greatest most_actors most_messages

      before-stands : Stands (view places queue turn greatest most_actors most_messages) 0 true
      before-stands = stands-of places queue turn greatest most_actors most_messages holds.lines

      -- a message comes
      module _ (a : ℕ) (letter : Letter M) (v w : Option (Place M)) (at : value_at places a ≡ v) (b : Becomes (delivered letter) v w) where
        was : value_at places a ≡ Some b.before
        was = at ∙ b.was

        module _ (is_busy : is_idle (mode_of b.before.mode) ≡ false) where
          busy-actor : actor_of b.after ≡ with_letter (actor_of b.before) letter.sender letter.message
          busy-actor = b.actor ∙ ap (λ i. cond i (in_mode (with_letter (actor_of b.before) letter.sender letter.message) queued) (with_letter (actor_of b.before) letter.sender letter.message)) is_busy

          busy-view : view (set places a (Some b.after)) queue turn greatest most_actors most_messages
              ≡ received_value (value_at (table_of places) a) (view places queue turn greatest most_actors most_messages) letter.sender a letter.message
          busy-view =
              ap (λ t. record { table = t; queue = queue; turn = turn; greatest = greatest; most_actors = most_actors; most_messages = most_messages })
              (table-set places a (Some b.after) ∙ ap (λ x. set (table_of places) a (Some x)) busy-actor)
              ∙ sym (ap (λ x. received_value x (view places queue turn greatest most_actors most_messages) letter.sender a letter.message) (there places a b.before was)
              ∙ ap (λ i. cond i (queued_last (view places queue turn greatest most_actors most_messages) a (with_letter (actor_of b.before) letter.sender letter.message))
              (with_actor (view places queue turn greatest most_actors most_messages) a (with_letter (actor_of b.before) letter.sender letter.message))) is_busy)

          busy-holds : Holds (set places a (Some b.after)) timers queue turn greatest live (letters + 1) seats
          busy-holds = holds-changed a b.before b.after timers queue turn greatest (letters + 1) was b.timer
              (of_same timers b.before.timer (waiting_in (mode_of b.after.mode)) ((holds.ties.tied a b.before was).tick ∙ sym (ap (λ (x : Actor M). waiting_in x.mode) busy-actor)))
              holds.elapsed holds.below (omega (arith, ap (λ (x : Actor M). length x.mailbox) busy-actor, length-append b.before.mailbox (record { sender = letter.sender; message = letter.message } ∷ [])))
              (sym (ap (λ (x : Actor M). length queue + once_if (is_queued x.mode)) busy-actor))
              (lines-of (set places a (Some b.after)) queue turn greatest most_actors most_messages _ true busy-view
              (received (value_at (table_of places) a) (view places queue turn greatest most_actors most_messages) 0 true letter.sender a letter.message refl before-stands))

        module _ (is_free : is_idle (mode_of b.before.mode) ≡ true) where
          free-actor : actor_of b.after ≡ in_mode (with_letter (actor_of b.before) letter.sender letter.message) queued
          free-actor = b.actor ∙ ap (λ i. cond i (in_mode (with_letter (actor_of b.before) letter.sender letter.message) queued) (with_letter (actor_of b.before) letter.sender letter.message)) is_free

          free-view : view (set places a (Some b.after)) (queue ++ a ∷ []) turn greatest most_actors most_messages
              ≡ received_value (value_at (table_of places) a) (view places queue turn greatest most_actors most_messages) letter.sender a letter.message
          free-view =
              ap (λ t. record { table = t; queue = queue ++ a ∷ []; turn = turn; greatest = greatest; most_actors = most_actors; most_messages = most_messages })
              (table-set places a (Some b.after) ∙ ap (λ x. set (table_of places) a (Some x)) free-actor)
              ∙ sym (ap (λ x. received_value x (view places queue turn greatest most_actors most_messages) letter.sender a letter.message) (there places a b.before was)
              ∙ ap (λ i. cond i (queued_last (view places queue turn greatest most_actors most_messages) a (with_letter (actor_of b.before) letter.sender letter.message))
              (with_actor (view places queue turn greatest most_actors most_messages) a (with_letter (actor_of b.before) letter.sender letter.message))) is_free)

          free-holds : (alarms2 : Alarms) → Sets timers alarms2 b.before.timer None → Holds (set places a (Some b.after)) alarms2 (queue ++ a ∷ []) turn greatest live (letters + 1) seats
          free-holds alarms2 sets = holds-changed a b.before b.after alarms2 (queue ++ a ∷ []) turn greatest (letters + 1) was b.timer
              (subst (λ t. Retimed timers alarms2 b.before.timer t) (sym (ap (λ (x : Actor M). waiting_in x.mode) free-actor)) (of_sets timers alarms2 b.before.timer None sets))
              (omega (arith, holds.elapsed, sets.elapsed)) holds.below
              (omega (arith, ap (λ (x : Actor M). length x.mailbox) free-actor, length-append b.before.mailbox (record { sender = letter.sender; message = letter.message } ∷ [])))
              (omega (arith, length-append queue (a ∷ []), ap once_if (idle-mode (mode_of b.before.mode) is_free).0, ap (λ (x : Actor M). once_if (is_queued x.mode)) free-actor))
              (lines-of (set places a (Some b.after)) (queue ++ a ∷ []) turn greatest most_actors most_messages _ true free-view
              (received (value_at (table_of places) a) (view places queue turn greatest most_actors most_messages) 0 true letter.sender a letter.message refl before-stands))

        pub deliver-waits : (r : Receipt) → r ≡ receipt_of b.before → r ≡ receipt.Waits → Holds (set places a w) timers queue turn greatest live (letters + 1) seats
            × (view (set places a w) queue turn greatest most_actors most_messages ≡ received_value (value_at (table_of places) a) (view places queue turn greatest most_actors most_messages) letter.sender a letter.message)
        deliver-waits r is waits =
            let busy = receipt-waits b.before.timer b.before.mode (sym waits ∙ is) in
            subst (λ x. Holds (set places a x) timers queue turn greatest live (letters + 1) seats
            × (view (set places a x) queue turn greatest most_actors most_messages ≡ received_value (value_at (table_of places) a) (view places queue turn greatest most_actors most_messages) letter.sender a letter.message))
            (sym b.is) (busy-holds busy, busy-view busy)

        pub deliver-clears : (r : Receipt) (k : ℕ) (t : Option ℕ) → r ≡ receipt_of b.before → r ≡ receipt.Queues k t → (tick_at timers k ≡ t) × (get_or seats a false ≡ true) × (IsIn a queue → ⊥)
        deliver-clears r k t is queues =
            let told = receipt-queues b.before.timer k t b.before.mode (sym queues ∙ is) in
            let seat = seat-free a b.before was (idle-mode (mode_of b.before.mode) told.0).0 in
            (ap (tick_at timers) told.1 ∙ (holds.ties.tied a b.before was).tick ∙ sym told.2, seat.0, seat.1)

        pub deliver-queues : (r : Receipt) (k : ℕ) (t : Option ℕ) (alarms2 : Alarms) (queue2 : List ℕ) → r ≡ receipt_of b.before → r ≡ receipt.Queues k t → Sets timers alarms2 k None → queue2 ≡ queue ++ a ∷ []
            → Holds (set places a w) alarms2 queue2 turn greatest live (letters + 1) seats
            × (view (set places a w) queue2 turn greatest most_actors most_messages ≡ received_value (value_at (table_of places) a) (view places queue turn greatest most_actors most_messages) letter.sender a letter.message)
        deliver-queues r k t alarms2 queue2 is queues sets last =
            let told = receipt-queues b.before.timer k t b.before.mode (sym queues ∙ is) in
            subst (λ qs. Holds (set places a w) alarms2 qs turn greatest live (letters + 1) seats
            × (view (set places a w) qs turn greatest most_actors most_messages ≡ received_value (value_at (table_of places) a) (view places queue turn greatest most_actors most_messages) letter.sender a letter.message))
            (sym last)
            (subst (λ x. Holds (set places a x) alarms2 (queue ++ a ∷ []) turn greatest live (letters + 1) seats
            × (view (set places a x) (queue ++ a ∷ []) turn greatest most_actors most_messages ≡ received_value (value_at (table_of places) a) (view places queue turn greatest most_actors most_messages) letter.sender a letter.message))
            (sym b.is) (free-holds told.0 alarms2 (subst (λ x. Sets timers alarms2 x None) told.1 sets), free-view told.0))
