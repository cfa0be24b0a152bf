-- The answer of a spawn, and the actors after it.
use Rattle.std.proofs.Common.{◌≡◌, ◌<◌, ◌≤◌, ◌^◌, ◌-◌, ℕ, ◌+◌, true, false, Bool, cond, List, [], ◌∷◌, ◌++◌, length, Some, None, Option, refl, ap, sym, subst, ◌∙◌, arith, ne_eqb}
use Rattle.std.specs.Prelude.{◌==◌, ◌||◌, is_some, Ok, Err, IsOk}
use Rattle.std.specs.Option.{option_map}
use Rattle.std.proofs.lemmas.Bool.{le-leb, lt-leb}
use Rattle.std.proofs.lemmas.Bool.Decides.{nat_tests}
use Rattle.std.proofs.lemmas.List.{map-append, length-map, get_or_past}
use Rattle.mono_model.specs.Table.{count_of, is_full, with_next, next_number}
use Rattle.mono_actor.specs.Actors.{Actor, idle, with_table, if_granted, spawn_answer, spawned}
use Rattle.mono_actor.specs.Steps.{waiting_in}
use Rattle.mono_model.specs.Valid.{once_if}
use Rattle.mono_actor.specs.QueueInvariants.{is_queued, of_actor}
use Rattle.mono_actor.specs.Places.{actor_of, table_of, Place}
use Rattle.mono_actor.specs.Timers.{tick_at, is_known, Added, Stays, Freed}
use Rattle.mono_actor.specs.Consistency.{Holds}
use Rattle.mono_actor.specs.declared.timers.Alarms.{Alarms}
use Rattle.mono_actor.specs.declared.answers.ActorError.TheVariants.{AtCapacity}
use Rattle.mono_actor.proofs.TieLemmas.{given, ties-same, ties-added, ties-undone}
use Rattle.mono_actor.proofs.CountLemmas.{live-count, counts-added}
use Rattle.mono_actor.proofs.TimeoutLemmas.{spawned_stands}
use Rattle.mono_actor.proofs.CallLemmas.{view, stands-of, lines-of}

or_true : (a b : Bool) → b ≡ true → (a || b) ≡ true
or_true true b at_b = refl
or_true false b at_b = at_b

eqb_same : (a b : ℕ) → a ≡ b → (a == b) ≡ true
eqb_same a b e = grind (arith, nat_tests)

or_false : (a b : Bool) → a ≡ false → b ≡ false → (a || b) ≡ false
or_false a b at_a at_b = ap (λ x. x || b) at_a ∙ at_b

true-false : true ≡ false → ⊥
true-false e = cc

none-some : {X : Type 0} (x : X) → None ≡ Some x → ⊥
none-some x e = cc

-- with no actor
pub none-hold : {M : Type 0} (timers : Alarms) (seats : List Bool) → seats ≡ [] → timers.wheel.elapsed ≡ 0 → ((key : ℕ) → tick_at timers key ≡ None) → ((key : ℕ) → is_known timers key ≡ false) → Holds {M = M} [] timers [] None 0 0 0 seats
none-hold {M} timers seats no_seat elapsed none free = record {
  ties = record {
    tied = λ a place at. absurd (omega (arith, given {V = Place M} [] a place at));
    owned = λ key tick at. absurd (none-some tick (sym (none key) ∙ at));
    held = λ key is. absurd (true-false (sym is ∙ free key));
  };
  lines = record {
    queue_is = λ a. sym (ap (λ (v : Option (Actor M)). once_if (of_actor is_queued v)) (get_or_past {X = Option (Actor M)} [] a None (omega arith)));
    turn_is = λ me is. absurd (none-some me is);
  };
  counts = record { live_is = refl; letters_is = refl; listed = refl };
  elapsed = omega (arith, elapsed);
  below = omega arith;
  seated = no_seat;
}

module _ {M : Type 0} (places : List (Option (Place M))) (timers : Alarms) (queue : List ℕ) (turn : Option ℕ) (greatest live letters : ℕ) (seats : List Bool) (holds : Holds places timers queue turn greatest live letters seats)
    (most_actors most_messages : ℕ) where
  abbrev newcomer : Actor M
  newcomer = record { mode = idle None; mailbox = []; timeout = 0 }

  count : live ≡ count_of (table_of places)
  count = holds.counts.live_is ∙ live-count (table_of places)

  pub live-is : live ≡ count_of (table_of places)
  live-is = count

  pub full : most_actors ≤ live → is_full (table_of places) most_actors ≡ true
  full most = ap (λ b. b || (next_number (table_of places) == 2 ^ 64 - 1)) (le-leb most_actors (count_of (table_of places)) (omega (arith, most, count)))

  pub full-not : live < most_actors → length places < 2 ^ 64 - 1 → is_full (table_of places) most_actors ≡ false
  full-not room small =
      or_false _ _ (lt-leb most_actors (count_of (table_of places)) (omega (arith, room, count)))
      (ne_eqb (length (table_of places)) (2 ^ 64 - 1) (λ e. omega (arith, e, small, length-map places (option_map actor_of))))

  pub used-up : 2 ^ 64 - 1 ≤ length places → length places ≤ 2 ^ 64 - 1 → is_full (table_of places) most_actors ≡ true
  used-up all no_more = or_true _ _ (eqb_same (length (table_of places)) (2 ^ 64 - 1) (omega (arith, all, no_more, length-map places (option_map actor_of))))

  pub last-answer : 2 ^ 64 - 1 ≤ length places → length places ≤ 2 ^ 64 - 1 → Err AtCapacity ≡ spawn_answer (view places queue turn greatest most_actors most_messages)
  last-answer all no_more = sym (ap (λ b. cond b (Err AtCapacity) (Ok (next_number (table_of places)))) (used-up all no_more))

  pub refused-answer : most_actors ≤ live → Err AtCapacity ≡ spawn_answer (view places queue turn greatest most_actors most_messages)
  refused-answer most = sym (ap (λ b. cond b (Err AtCapacity) (Ok (next_number (table_of places)))) (full most))

  granted-answer : live < most_actors → length places < 2 ^ 64 - 1 → spawn_answer (view places queue turn greatest most_actors most_messages) ≡ Ok (next_number (table_of places))
  granted-answer room small = ap (λ b. cond b (Err AtCapacity) (Ok (next_number (table_of places)))) (full-not room small)

  pub number-answer : live < most_actors → length places < 2 ^ 64 - 1 → (n : ℕ) → n ≡ length places → Ok n ≡ spawn_answer (view places queue turn greatest most_actors most_messages)
  number-answer room small n is = ap Ok (is ∙ sym (length-map places (option_map actor_of))) ∙ sym (granted-answer room small)

  pub is-granted : live < most_actors → length places < 2 ^ 64 - 1 → IsOk (spawn_answer (view places queue turn greatest most_actors most_messages))
  is-granted room small = subst (λ r. IsOk r) (sym (granted-answer room small)) refl

  pub stays-hold : (alarms2 : Alarms) → Stays timers alarms2 → Holds places alarms2 queue turn greatest live letters seats
  stays-hold alarms2 stays = record {
    ties = ties-same places timers alarms2 holds.ties stays.ticks stays.known stays.numbers;
    lines = holds.lines;
    counts = holds.counts;
    elapsed = omega (arith, holds.elapsed, stays.elapsed);
    below = holds.below;
    seated = holds.seated;
  }

  -- the key of an actor that found no memory is given back
  pub undone-hold : (alarms2 alarms3 : Alarms) (number key : ℕ) → Added timers alarms2 number key → Freed alarms2 alarms3 key → Holds places alarms3 queue turn greatest live letters seats
  undone-hold alarms2 alarms3 number key added freed = record {
    ties = ties-undone places timers alarms2 alarms3 number key holds.ties added freed;
    lines = holds.lines;
    counts = holds.counts;
    elapsed = omega (arith, holds.elapsed, added.elapsed, freed.elapsed);
    below = holds.below;
    seated = holds.seated;
  }

  module _ (q : Place M) (actor : actor_of q ≡ record { mode = idle None; mailbox = []; timeout = 0 }) where
    new-view : view (places ++ Some q ∷ []) queue turn greatest most_actors most_messages ≡ with_table (view places queue turn greatest most_actors most_messages) (with_next (table_of places) newcomer)
    new-view = ap (with_table (view places queue turn greatest most_actors most_messages)) (map-append (option_map actor_of) places (Some q ∷ []) ∙ ap (λ x. table_of places ++ Some x ∷ []) actor)

    pub entered-after : live < most_actors → length places < 2 ^ 64 - 1 → view (places ++ Some q ∷ []) queue turn greatest most_actors most_messages ≡ spawned (view places queue turn greatest most_actors most_messages)
    entered-after room small =
        new-view
        ∙ sym (ap (λ r. if_granted r (view places queue turn greatest most_actors most_messages) (with_table (view places queue turn greatest most_actors most_messages) (with_next (table_of places) newcomer))) (granted-answer room small))

    pub entered-holds : (alarms2 : Alarms) → Added timers alarms2 (length places) q.timer → Holds (places ++ Some q ∷ []) alarms2 queue turn greatest (live + 1) letters (seats ++ true ∷ [])
    entered-holds alarms2 added = record {
      ties = ties-added places timers alarms2 q holds.ties (ap (λ (x : Actor M). waiting_in x.mode) actor) added;
      lines = lines-of (places ++ Some q ∷ []) queue turn greatest most_actors most_messages _ true new-view
          (spawned_stands (Ok 0) (view places queue turn greatest most_actors most_messages) 0 true newcomer refl (stands-of places queue turn greatest most_actors most_messages holds.lines));
      counts = counts-added places queue live letters q holds.counts (ap (λ (x : Actor M). x.mailbox) actor) (ap (λ (x : Actor M). is_queued x.mode) actor);
      elapsed = omega (arith, holds.elapsed, added.elapsed);
      below = holds.below;
      seated = ap (λ xs. xs ++ true ∷ []) holds.seated ∙ sym (map-append is_some places (Some q ∷ []));
    }
