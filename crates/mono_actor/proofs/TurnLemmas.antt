-- The actors after a turn's start and end.
use Rattle.std.proofs.Common.{◌≡◌, ◌≤◌, ℕ, ◌+◌, ◌-◌, true, Bool, List, [], ◌∷◌, length, set, Some, None, Option, refl, ap, sym, subst, ◌∙◌, arith, eq-eqb}
use Rattle.std.specs.Prelude.{is_some}
use Rattle.std.specs.Option.{option_map}
use Rattle.mono_model.specs.Table.{value_at}
use Rattle.mono_model.specs.Valid.{times, once_if}
use Rattle.mono_actor.specs.Actors.{Mode, Actor, idle, queued, running, got_in, rest_of, begun_for, begun_table}
use Rattle.mono_actor.specs.Steps.{waiting_in}
use Rattle.mono_actor.specs.QueueInvariants.{is_queued, of_actor}
use Rattle.mono_actor.specs.Places.{mode_of, actor_of, table_of, Becomes, taken_by, begun_actor, Place}
use Rattle.mono_actor.specs.Consistency.{Holds}
use Rattle.mono_actor.specs.declared.timers.Alarms.{Alarms}
use Rattle.mono_actor.specs.declared.answers.Got.{Got}
use Rattle.mono_actor.specs.declared.mailboxes.Letter.{Letter}
use Rattle.mono_actor.proofs.TieLemmas.{of_same}
use Rattle.mono_actor.proofs.CountLemmas.{at-table, there, table-set, letters-least}
use Rattle.mono_actor.proofs.TimeoutLemmas.{begins, is_once}
use Rattle.mono_actor.proofs.CallLemmas.{true-false, view, stands-of, lines-of, holds-changed}

pub waits-not : (m : Mode) → is_queued m ≡ true → waiting_in m ≡ None
waits-not (idle x) e = absurd (true-false (sym e))
waits-not queued e = refl
waits-not running e = refl

module _ {M : Type 0} where
  pub taken-rest : (mailbox : List (Letter M)) → taken_by (got_in mailbox) + length (rest_of mailbox) ≡ length mailbox
  taken-rest [] = refl
  taken-rest (letter ∷ mailbox) = omega arith

  pub queued-there : (v : Option (Place M)) → of_actor is_queued (option_map actor_of v) ≡ true → is_some v ≡ true
  queued-there None is = absurd (true-false (sym is))
  queued-there (Some p) is = refl

module _ {M : Type 0} (places : List (Option (Place M))) (timers : Alarms) (queue : List ℕ) (turn : Option ℕ) (greatest live letters : ℕ) (seats : List Bool) (holds : Holds places timers queue turn greatest live letters seats)
    (most_actors most_messages front : ℕ) (rest : List ℕ) (is : queue ≡ front ∷ rest) where
  front-queued : of_actor is_queued (value_at (table_of places) front) ≡ true
  front-queued = is_once _ (omega (arith, ap (λ q. times q front) (sym is) ∙ holds.lines.queue_is front, ap once_if (eq-eqb front front refl)))

  pub front-there : is_some (value_at places front) ≡ true
  front-there = queued-there (value_at places front) (ap (of_actor is_queued) (sym (at-table places front)) ∙ front-queued)

  module _ (no_turn : turn ≡ None) (v w : Option (Place M)) (at : value_at places front ≡ v) (b : Becomes begun_actor v w) (got : Got M) (got_is : got ≡ got_in b.before.mailbox) where
    was : value_at places front ≡ Some b.before
    was = at ∙ b.was

    before-queued : is_queued (mode_of b.before.mode) ≡ true
    before-queued = ap (of_actor is_queued) (sym (there places front b.before was)) ∙ front-queued

    pub taken-least : taken_by got ≤ letters
    taken-least = omega (arith, ap taken_by got_is, taken-rest b.before.mailbox, letters-least places queue live letters front b.before holds.counts was)

    after : view (set places front (Some b.after)) rest (Some front) greatest most_actors most_messages ≡ begun_for queue (view places queue turn greatest most_actors most_messages)
    after =
        ap (λ t. record { table = t; queue = rest; turn = Some front; greatest = greatest; most_actors = most_actors; most_messages = most_messages })
        (table-set places front (Some b.after) ∙ ap (λ x. set (table_of places) front (Some x)) b.actor
        ∙ sym (ap (λ x. begun_table x (table_of places) front) (there places front b.before was)))
        ∙ sym (ap (λ q. begun_for q (view places queue turn greatest most_actors most_messages)) is)

    pub begun-after : view (set places front w) rest (Some front) greatest most_actors most_messages ≡ begun_for queue (view places queue turn greatest most_actors most_messages)
    begun-after = subst (λ x. view (set places front x) rest (Some front) greatest most_actors most_messages ≡ begun_for queue (view places queue turn greatest most_actors most_messages)) (sym b.is) after

    pub begun-holds : (letters2 : ℕ) → letters2 ≡ letters - taken_by got → Holds (set places front w) timers rest (Some front) greatest live letters2 seats
    begun-holds letters2 fewer = subst (λ x. Holds (set places front x) timers rest (Some front) greatest live letters2 seats) (sym b.is) (
        holds-changed places timers queue turn greatest live letters seats holds front b.before b.after timers rest (Some front) greatest letters2 was b.timer
        (of_same timers b.before.timer (waiting_in (mode_of b.after.mode))
        ((holds.ties.tied front b.before was).tick ∙ waits-not (mode_of b.before.mode) before-queued ∙ sym (ap (λ (x : Actor M). waiting_in x.mode) b.actor)))
        holds.elapsed holds.below
        (omega (arith, fewer, taken-least, ap taken_by got_is, taken-rest b.before.mailbox, ap (λ (x : Actor M). length x.mailbox) b.actor))
        (omega (arith, ap length is, ap once_if before-queued, ap (λ (x : Actor M). once_if (is_queued x.mode)) b.actor))
        (lines-of (set places front (Some b.after)) rest (Some front) greatest most_actors most_messages _ _ after
        (begins queue (view places queue turn greatest most_actors most_messages) 0 true refl no_turn (stands-of places queue turn greatest most_actors most_messages holds.lines))))
