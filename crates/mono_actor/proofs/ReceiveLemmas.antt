-- The actors after the turn of a given actor began.
use Rattle.std.proofs.Common.{◌≡◌, ◌≢◌, ◌<◌, ◌≤◌, ℕ, inl, inr, ◌+◌, ◌-◌, true, false, not, Bool, cond, List, [], ◌∷◌, length, set, Some, None, Option, refl, ap, sym, subst, ◌∙◌, arith}
use Rattle.std.specs.Prelude.{is_some, ◌==◌, Ok, Err}
use Rattle.std.specs.Option.{option_map}
use Rattle.std.proofs.lemmas.List.{get_or-set_same, get_or-set_other}
use Rattle.std.proofs.Math.ListN.{get_or-map}
use Rattle.std.proofs.lemmas.Bool.Decides.{eqb_tells}
use Rattle.mono_model.specs.Table.{value_at}
use Rattle.mono_model.specs.Valid.{times, once_if}
use Rattle.mono_wheel.specs.Lists.{IsIn}
use Rattle.mono_actor.specs.Actors.{Actor, Actors, got_in, begun_table}
use Rattle.mono_actor.specs.Steps.{waiting_in}
use Rattle.mono_actor.specs.QueueInvariants.{is_queued, is_running, of_actor}
use Rattle.mono_actor.specs.Receives.{left_by, begin_of_value, begin_of_answer, begun_one, begun_of}
use Rattle.mono_actor.specs.Places.{mode_of, actor_of, table_of, Becomes, taken_by, begun_actor, Place}
use Rattle.mono_actor.specs.Consistency.{Holds, Lines}
use Rattle.mono_actor.specs.Mailboxes.{place_of, places_in}
use Rattle.mono_actor.specs.declared.mailboxes.Link.{Link}
use Rattle.mono_actor.specs.declared.places.Entry.{Entry}
use Rattle.mono_actor.specs.declared.timers.Alarms.{Alarms}
use Rattle.mono_actor.specs.declared.answers.ActorError.TheVariants.{NoActor}
use Rattle.mono_actor.specs.declared.answers.Got.{Got}
use Rattle.mono_actor.proofs.TieLemmas.{given, of_same}
use Rattle.mono_actor.proofs.CountLemmas.{at-table, there, table-set, letters-least}
use Rattle.mono_actor.proofs.TurnLemmas.{taken-rest, queued-there, waits-not}
use Rattle.mono_actor.proofs.CallLemmas.{true-false, view, holds-changed}

left-step : (a x : ℕ) (xs : List ℕ) (b : Bool) → (x == a) ≡ b → left_by a (x ∷ xs) ≡ cond (not b) (x ∷ left_by a xs) (left_by a xs)
left-step a x xs b is = ap (λ c. cond (not c) (x ∷ left_by a xs) (left_by a xs)) is

times-left-same : (a : ℕ) (xs : List ℕ) → times (left_by a xs) a ≡ 0
times-left-same a [] = refl
times-left-same a (x ∷ xs) = elim (eqb_tells x a) [
  | inl e ↦ ap (λ l. times l a) (left-step a x xs true e.0) ∙ times-left-same a xs
  | inr e ↦ ap (λ l. times l a) (left-step a x xs false e.0) ∙ omega (arith, ap once_if e.0, times-left-same a xs)
]

times-left-other : (a q : ℕ) (xs : List ℕ) → q ≢ a → times (left_by a xs) q ≡ times xs q
times-left-other a q [] apart = refl
times-left-other a q (x ∷ xs) apart = elim (eqb_tells x a) [
  | inl e ↦
      ap (λ l. times l q) (left-step a x xs true e.0) ∙ times-left-other a q xs apart
      ∙ elim (eqb_tells x q) [ inl f ↦ absurd (apart (sym f.1 ∙ e.1)) | inr f ↦ omega (arith, ap once_if f.0) ]
  | inr e ↦ ap (λ l. times l q) (left-step a x xs false e.0) ∙ ap (λ n. once_if (x == q) + n) (times-left-other a q xs apart)
]

length-left : (a : ℕ) (xs : List ℕ) → length (left_by a xs) + times xs a ≡ length xs
length-left a [] = refl
length-left a (x ∷ xs) = elim (eqb_tells x a) [
  | inl e ↦ omega (arith, ap length (left-step a x xs true e.0), ap once_if e.0, length-left a xs)
  | inr e ↦ omega (arith, ap length (left-step a x xs false e.0), ap once_if e.0, length-left a xs)
]

in-some : (a : ℕ) (xs : List ℕ) → 0 < times xs a → IsIn a xs
in-some a [] some = absurd (omega (arith, some))
in-some a (x ∷ xs) some = elim (eqb_tells x a) [
  | inl e ↦ inl (sym e.1)
  | inr e ↦ inr (in-some a xs (omega (arith, some, ap once_if e.0)))
]

module _ {M : Type 0} where
  -- the answers
  pub no-actor : (places : List (Option (Place M))) (a : ℕ) (queue : List ℕ) (turn : Option ℕ) (greatest most_actors most_messages : ℕ) → is_some (value_at places a) ≡ false
      → begin_of_answer (view places queue turn greatest most_actors most_messages) a ≡ Err NoActor
  no-actor places a queue turn greatest most_actors most_messages is = by (value_at places a) refl is
    where
      by : (v : Option (Place M)) → value_at places a ≡ v → is_some v ≡ false → begin_of_value (value_at (table_of places) a) ≡ Err NoActor
      by None at none = ap begin_of_value (at-table places a ∙ ap (option_map actor_of) at)
      by (Some p) at none = absurd (true-false none)

  pub not-queued : (places : List (Option (Place M))) (a : ℕ) (queue : List ℕ) (turn : Option ℕ) (greatest most_actors most_messages : ℕ) → is_some (value_at places a) ≡ true
      → of_actor is_queued (value_at (table_of places) a) ≡ false → begin_of_answer (view places queue turn greatest most_actors most_messages) a ≡ Ok None
  not-queued places a queue turn greatest most_actors most_messages is idles = by (value_at places a) refl is
    where
      by : (v : Option (Place M)) → value_at places a ≡ v → is_some v ≡ true → begin_of_value (value_at (table_of places) a) ≡ Ok None
      by None at some = absurd (true-false (sym some))
      by (Some p) at some =
          ap begin_of_value (there places a p at)
          ∙ ap (λ b. cond b (Ok (Some (got_in p.mailbox))) (Ok None)) (sym (ap (of_actor is_queued) (there places a p at)) ∙ idles)

  -- the entry of an actor
  pub none-queued : (slots : List (Option (Link M))) (entries : List (Option Entry)) (a : ℕ) → None ≡ value_at entries a → false ≡ of_actor is_queued (value_at (table_of (places_in slots entries)) a)
  none-queued slots entries a at =
      sym (ap (of_actor is_queued) (at-table (places_in slots entries) a ∙ ap (option_map actor_of) (get_or-map (option_map (place_of slots)) entries a None ∙ ap (option_map (place_of slots)) (sym at))))

  pub some-queued : (slots : List (Option (Link M))) (entries : List (Option Entry)) (a : ℕ) (e : Entry) (b : Bool) → Some e ≡ value_at entries a → b ≡ is_queued (mode_of e.mode)
      → b ≡ of_actor is_queued (value_at (table_of (places_in slots entries)) a)
  some-queued slots entries a e b at is =
      is ∙ sym (ap (of_actor is_queued) (at-table (places_in slots entries) a ∙ ap (option_map actor_of) (get_or-map (option_map (place_of slots)) entries a None ∙ ap (option_map (place_of slots)) (sym at))))

  pub not-begun : (actors : Actors M) (a : ℕ) → of_actor is_queued (value_at actors.table a) ≡ false → actors ≡ begun_of actors a
  not-begun actors a idles = sym (ap (λ b. cond b (begun_one actors a) actors) idles)

  pub none-begun : (places : List (Option (Place M))) (a : ℕ) → is_some (value_at places a) ≡ false → of_actor is_queued (value_at (table_of places) a) ≡ false
  none-begun places a is = by (value_at places a) refl is
    where
      by : (v : Option (Place M)) → value_at places a ≡ v → is_some v ≡ false → of_actor is_queued (value_at (table_of places) a) ≡ false
      by None at none = ap (of_actor is_queued) (at-table places a ∙ ap (option_map actor_of) at)
      by (Some p) at none = absurd (true-false none)

module _ {M : Type 0} (places : List (Option (Place M))) (timers : Alarms) (queue : List ℕ) (turn : Option ℕ) (greatest live letters : ℕ) (seats : List Bool) (holds : Holds places timers queue turn greatest live letters seats)
    (most_actors most_messages a : ℕ) (is : of_actor is_queued (value_at (table_of places) a) ≡ true) where
  one : times queue a ≡ 1
  one = holds.lines.queue_is a ∙ ap once_if is

  pub its-place : is_some (value_at places a) ≡ true
  its-place = queued-there (value_at places a) (ap (of_actor is_queued) (sym (at-table places a)) ∙ is)

  pub its-line : IsIn a queue
  its-line = in-some a queue (omega (arith, one))

  module _ (no_turn : turn ≡ None) (v w : Option (Place M)) (at : value_at places a ≡ v) (b : Becomes begun_actor v w) (got : Got M) (got_is : got ≡ got_in b.before.mailbox) where
    was : value_at places a ≡ Some b.before
    was = at ∙ b.was

    before-queued : is_queued (mode_of b.before.mode) ≡ true
    before-queued = ap (of_actor is_queued) (sym (there places a b.before was)) ∙ is

    pub of-taken : taken_by got ≤ letters
    of-taken = omega (arith, ap taken_by got_is, taken-rest b.before.mailbox, letters-least places queue live letters a b.before holds.counts was)

    pub of-answer : Ok (Some got) ≡ begin_of_answer (view places queue turn greatest most_actors most_messages) a
    of-answer = sym (
        ap begin_of_value (there places a b.before was)
        ∙ ap (λ q. cond q (Ok (Some (got_in b.before.mailbox))) (Ok None)) before-queued
        ∙ ap (λ x. Ok (Some x)) (sym got_is))

    after : view (set places a (Some b.after)) (left_by a queue) (Some a) greatest most_actors most_messages ≡ begun_of (view places queue turn greatest most_actors most_messages) a
    after =
        ap (λ t. record { table = t; queue = left_by a queue; turn = Some a; greatest = greatest; most_actors = most_actors; most_messages = most_messages })
        (table-set places a (Some b.after) ∙ ap (λ x. set (table_of places) a (Some x)) b.actor
        ∙ sym (ap (λ x. begun_table x (table_of places) a) (there places a b.before was)))
        ∙ sym (ap (λ q. cond q (begun_one (view places queue turn greatest most_actors most_messages) a) (view places queue turn greatest most_actors most_messages)) is)

    pub of-after : view (set places a w) (left_by a queue) (Some a) greatest most_actors most_messages ≡ begun_of (view places queue turn greatest most_actors most_messages) a
    of-after = subst (λ x. view (set places a x) (left_by a queue) (Some a) greatest most_actors most_messages ≡ begun_of (view places queue turn greatest most_actors most_messages) a) (sym b.is) after

    here : value_at (table_of (set places a (Some b.after))) a ≡ Some (actor_of b.after)
    here = there (set places a (Some b.after)) a b.after (get_or-set_same places a (Some b.after) None (given places a b.before was))

    elsewhere : (q : ℕ) → q ≢ a → value_at (table_of (set places a (Some b.after))) q ≡ value_at (table_of places) q
    elsewhere q apart = at-table (set places a (Some b.after)) q ∙ ap (option_map actor_of) (get_or-set_other places a q (Some b.after) None apart) ∙ sym (at-table places q)

    lines : Lines (set places a (Some b.after)) (left_by a queue) (Some a)
    lines = record {
      queue_is = λ q. elim (eqb_tells q a) [
        | inl e ↦ ap (times (left_by a queue)) e.1 ∙ times-left-same a queue
            ∙ sym (ap once_if (ap (λ n. of_actor is_queued (value_at (table_of (set places a (Some b.after))) n)) e.1 ∙ ap (of_actor is_queued) here ∙ ap (λ (x : Actor M). is_queued x.mode) b.actor))
        | inr e ↦ times-left-other a q queue e.1 ∙ holds.lines.queue_is q ∙ sym (ap (λ x. once_if (of_actor is_queued x)) (elsewhere q e.1))
      ];
      turn_is = λ me turns. ap (λ n. of_actor is_running (value_at (table_of (set places a (Some b.after))) n)) (sym (same-number a me turns)) ∙ ap (of_actor is_running) here ∙ ap (λ (x : Actor M). is_running x.mode) b.actor;
    }
      where
        same-number : (x y : ℕ) → Some x ≡ Some y → x ≡ y
        same-number x y e = cc

    pub of-holds : (letters2 : ℕ) → letters2 ≡ letters - taken_by got → Holds (set places a w) timers (left_by a queue) (Some a) greatest live letters2 seats
    of-holds letters2 fewer = subst (λ x. Holds (set places a x) timers (left_by a queue) (Some a) greatest live letters2 seats) (sym b.is) (
        holds-changed places timers queue turn greatest live letters seats holds a b.before b.after timers (left_by a queue) (Some a) greatest letters2 was b.timer
        (of_same timers b.before.timer (waiting_in (mode_of b.after.mode))
        ((holds.ties.tied a b.before was).tick ∙ waits-not (mode_of b.before.mode) before-queued ∙ sym (ap (λ (x : Actor M). waiting_in x.mode) b.actor)))
        holds.elapsed holds.below
        (omega (arith, fewer, of-taken, ap taken_by got_is, taken-rest b.before.mailbox, ap (λ (x : Actor M). length x.mailbox) b.actor))
        (omega (arith, length-left a queue, one, ap once_if before-queued, ap (λ (x : Actor M). once_if (is_queued x.mode)) b.actor))
        lines)
