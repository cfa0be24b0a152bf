-- A timeout comes only if no message waits and a clock step has listed the actor.
use Rattle.std.proofs.Common.{◌≡◌, ◌≢◌, ◌<◌, ◌≤◌, inl, inr, ℕ, ◌+◌, zero, suc, true, false, Bool, cond, List, [], ◌∷◌, ◌++◌, length, Some, None, Option, refl, ap, sym, subst, ◌∙◌, arith}
use Rattle.std.specs.Prelude.{⊤, Result, Ok, Err, ◌==◌, ◌||◌, AllPairs, Contains}
use Rattle.std.proofs.lemmas.Bool.{cases_eq, cases_lt}
use Rattle.std.proofs.lemmas.Bool.Decides.{eqb_tells}
use Rattle.std.proofs.lemmas.List.{get_or-set_other, get_or-set_same, get_or_past, length-set, length-append}
use Rattle.mono_model.specs.Table.{Table, value_at, with_next, with_value, without}
use Rattle.mono_model.specs.Valid.{times, once_if}
use Rattle.mono_model.specs.Inbox.{is_waiting}
use Rattle.mono_model.specs.Due.{HasCome}
use Rattle.mono_actor.specs.Actors.{Mode, idle, queued, running, Actor, Actors, no_actors, with_actor, with_table, in_mode, queued_last, is_idle, wait_from, mode_with, if_granted, spawn_answer, send_answer, timeout_answer, with_letter, received_value, timed_value, begin_for, begun_for, begun_table, got_value, got_in, rest_of, ended_value, no_turn}
use Rattle.mono_actor.specs.declared.mailboxes.Letter.{Letter}
use Rattle.mono_actor.specs.QueueInvariants.{is_queued, is_running, of_actor}
use Rattle.mono_actor.specs.Calls.{Call}
use Rattle.mono_actor.specs.Calls as call
use Rattle.mono_actor.specs.Answers.{Answer, of_number, of_send, of_done, of_begin}
use Rattle.mono_actor.specs.Answers as answer
use Rattle.mono_actor.specs.Steps.{waiting_in, waiting_value, queued_value, all_queued, at_tick, greatest_at, ClockStep, EndStep, Step, Run}
use Rattle.mono_actor.specs.Laws.{got_by, due_after, was_due, TimeoutsAreDue}
use Rattle.mono_actor.specs.declared.answers.ActorError.{ActorError}
use Rattle.mono_actor.specs.declared.answers.ActorError.TheVariants as error
use Rattle.mono_actor.specs.declared.answers.Sent.{Sent}
use Rattle.mono_actor.specs.declared.answers.Got.{Got}
use Rattle.mono_actor.specs.declared.answers.Got.TheVariants.{Message, Timeout}
use Rattle.mono_actor.proofs.MessageLemmas.{run_holds, told_at, nil}

true-false : true ≡ false → ⊥
true-false e = cc

none-some : {X : Type 0} (x : X) → None ≡ Some x → ⊥
none-some x e = cc

times-last : (xs : List ℕ) (x s : ℕ) → times (xs ++ x ∷ []) s ≡ times xs s + once_if (x == s)
times-last [] x s = omega arith
times-last (y ∷ ys) x s = omega (arith, times-last ys x s)

same-turn : (x y : ℕ) → Some x ≡ Some y → x ≡ y
same-turn x y e = cc

-- an idle actor does not run
idle_not : (mode : Mode) → is_idle mode ≡ true → (is_queued mode ≡ false) × (is_running mode ≡ false)
idle_not (idle w) is = (refl, refl)
idle_not queued is = absurd (true-false (sym is))
idle_not running is = absurd (true-false (sym is))

once_at_most : (b : Bool) → once_if b ≤ 1
once_at_most true = omega arith
once_at_most false = omega arith

mode_queued : (g ms : ℕ) (mode : Mode) → is_queued (mode_with g ms mode) ≡ is_queued mode
mode_queued g ms (idle w) = refl
mode_queued g ms queued = refl
mode_queued g ms running = refl

mode_running : (g ms : ℕ) (mode : Mode) → is_running (mode_with g ms mode) ≡ is_running mode
mode_running g ms (idle w) = refl
mode_running g ms queued = refl
mode_running g ms running = refl

running_not : (mode : Mode) → is_running mode ≡ true → is_queued mode ≡ false
running_not (idle w) is = refl
running_not queued is = absurd (true-false (sym is))
running_not running is = refl

waiting_not : (mode : Mode) (g : ℕ) → HasCome g (waiting_in mode) → is_queued mode ≡ false
waiting_not (idle w) g come = refl
waiting_not queued g come = absurd come
waiting_not running g come = absurd come

waiting-tells : (xs : List ℕ) (a : ℕ) → Contains xs a → is_waiting xs a ≡ true
waiting-tells [] a (k, inside, at) = absurd (omega (arith, inside))
waiting-tells (x ∷ xs) a (zero, inside, at) = elim (eqb_tells x a) [ inl t ↦ ap (λ b. b || is_waiting xs a) t.0 | inr t ↦ absurd (t.1 at) ]
waiting-tells (x ∷ xs) a (suc k, inside, at) = by (x == a) (waiting-tells xs a (k, omega (arith, inside), at))
  where
    by : (b : Bool) → is_waiting xs a ≡ true → (b || is_waiting xs a) ≡ true
    by true rest = refl
    by false rest = rest

later_was : (b was : Bool) → was ≡ true → cond b true was ≡ true
later_was true was is = refl
later_was false was is = is

number_told : (M : Type 0) (r : Result ℕ ActorError) (a : ℕ) (was : Bool) → due_after {M = M} a was (of_number r) ≡ was
number_told M (Ok n) a was = refl
number_told M (Err e) a was = refl

send_told : (M : Type 0) (r : Result Sent ActorError) (a : ℕ) (was : Bool) → due_after {M = M} a was (of_send r) ≡ was
send_told M (Ok n) a was = refl
send_told M (Err e) a was = refl

done_told : (M : Type 0) (r : Result ⊤ ActorError) (a : ℕ) (was : Bool) → due_after {M = M} a was (of_done r) ≡ was
done_told M (Ok n) a was = refl
done_told M (Err e) a was = refl

pub is_once : (b : Bool) → 0 < once_if b → b ≡ true
is_once true more = refl
is_once false more = absurd (omega (arith, more))

module _ {M : Type 0} where
  same-actor : (x y : Actor M) → Some x ≡ Some y → x ≡ y
  same-actor x y e = cc

  pub record Stands (actors : Actors M) (a : ℕ) (was : Bool) : Type 0 where
    pub queue : (q : ℕ) → times actors.queue q ≡ once_if (of_actor is_queued (value_at actors.table q))
    pub turn : (me : ℕ) → actors.turn ≡ Some me → of_actor is_running (value_at actors.table me) ≡ true
    pub due : (actor : Actor M) → value_at actors.table a ≡ Some actor → is_queued actor.mode ≡ true → actor.mailbox ≡ [] → was ≡ true

  given : (table : Table (Actor M)) (s : ℕ) (v : Actor M) → value_at table s ≡ Some v → s < length table
  given table s v at = elim (cases_lt s (length table)) [ inl inside ↦ inside | inr past ↦ absurd (none-some v (sym (get_or_past table s None past) ∙ at)) ]

  pub put_here : (table : Table (Actor M)) (x q : ℕ) (actor new : Actor M) → value_at table x ≡ Some actor → q ≡ x → value_at (with_value table x new) q ≡ Some new
  put_here table x q actor new at same = ap (value_at (with_value table x new)) same ∙ get_or-set_same table x (Some new) None (given table x actor at)

  pub put_there : (table : Table (Actor M)) (x q : ℕ) (new : Actor M) → q ≢ x → value_at (with_value table x new) q ≡ value_at table q
  put_there table x q new apart = get_or-set_other table x q (Some new) None apart

  -- The test gives the same for each actor, if one actor changed and the test gives the same for it.
  put_same : (test : Mode → Bool) (table : Table (Actor M)) (x q : ℕ) (actor new : Actor M) → value_at table x ≡ Some actor → test new.mode ≡ test actor.mode
      → of_actor test (value_at (with_value table x new) q) ≡ of_actor test (value_at table q)
  put_same test table x q actor new at same = elim (cases_eq q x) [
    | inl here ↦ ap (of_actor test) (put_here table x q actor new at here) ∙ same ∙ sym (ap (of_actor test) (ap (value_at table) here ∙ at))
    | inr apart ↦ ap (of_actor test) (put_there table x q new apart)
  ]

  -- one actor changes in a way that the queue and the turn do not see
  changed : (actors : Actors M) (a : ℕ) (was : Bool) (x : ℕ) (actor new : Actor M) → value_at actors.table x ≡ Some actor → is_queued new.mode ≡ is_queued actor.mode → is_running new.mode ≡ is_running actor.mode
      → (is_queued new.mode ≡ true → new.mailbox ≡ [] → (is_queued actor.mode ≡ true) × (actor.mailbox ≡ [])) → Stands actors a was → Stands (with_actor actors x new) a was
  changed actors a was x actor new at same_queued same_running empty stands = record {
    queue = λ q. stands.queue q ∙ ap once_if (sym (put_same is_queued actors.table x q actor new at same_queued));
    turn = λ me is. put_same is_running actors.table x me actor new at same_running ∙ stands.turn me is;
    due = λ found its queues none. elim (cases_eq a x) [
      | inr apart ↦ stands.due found (sym (put_there actors.table x a new apart) ∙ its) queues none
      | inl here ↦ (
          let is_new : new ≡ found = same-actor new found (sym (put_here actors.table x a actor new at here) ∙ its) in
          let before = empty (ap (λ (n : Actor M). is_queued n.mode) is_new ∙ queues) (ap (λ (n : Actor M). n.mailbox) is_new ∙ none) in
          stands.due actor (ap (value_at actors.table) here ∙ at) before.0 before.1)
    ];
  }

  -- An actor that was not queued and did not run is queued last.
  queues : (actors : Actors M) (a : ℕ) (was now : Bool) (x : ℕ) (actor new : Actor M) → value_at actors.table x ≡ Some actor → is_queued actor.mode ≡ false
      → (actors.turn ≡ Some x → ⊥) → (was ≡ true → now ≡ true) → (a ≡ x → new.mailbox ≡ [] → now ≡ true) → Stands actors a was → Stands (queued_last actors x new) a now
  queues actors a was now x actor new at not_queued no_turn grows told stands = record {
    queue = λ q. elim (eqb_tells x q) [
      | inl same ↦
          omega (
            arith,
            times-last actors.queue x q,
            ap once_if same.0,
            stands.queue q,
            ap once_if (ap (of_actor is_queued) (ap (value_at actors.table) (sym same.1) ∙ at) ∙ not_queued),
            ap once_if (ap (of_actor is_queued) (put_here actors.table x q actor (in_mode new queued) at (sym same.1))),
          )
      | inr apart ↦
          omega (arith, times-last actors.queue x q, ap once_if apart.0, stands.queue q, ap once_if (ap (of_actor is_queued) (put_there actors.table x q (in_mode new queued) (λ e. apart.1 (sym e)))))
    ];
    turn = λ me is. ap (of_actor is_running) (put_there actors.table x me (in_mode new queued) (λ e. no_turn (is ∙ ap Some e))) ∙ stands.turn me is;
    due = λ found its queues none. elim (cases_eq a x) [
      | inr apart ↦ grows (stands.due found (sym (put_there actors.table x a (in_mode new queued) apart) ∙ its) queues none)
      | inl here ↦ told here (ap (λ (n : Actor M). n.mailbox) (same-actor (in_mode new queued) found (sym (put_here actors.table x a actor (in_mode new queued) at here) ∙ its)) ∙ none)
    ];
  }

  pub moved : (actors other : Actors M) (a : ℕ) (was : Bool) → actors ≡ other → Stands other a was → Stands actors a was
  moved actors other a was same stands = subst (λ (k : Actors M). Stands k a was) (sym same) stands

  longer : (xs : List (Letter M)) (l : Letter M) → xs ++ l ∷ [] ≡ [] → ⊥
  longer xs l e = omega (arith, length-append xs (l ∷ []), ap length e)

  pub received : (v : Option (Actor M)) (old : Actors M) (a : ℕ) (was : Bool) (from to : ℕ) (message : M) → value_at old.table to ≡ v → Stands old a was → Stands (received_value v old from to message) a was
  received None old a was from to message at stands = stands
  received (Some actor) old a was from to message at stands = by (is_idle actor.mode) refl
    where
      by : (b : Bool) → is_idle actor.mode ≡ b → Stands (cond b (queued_last old to (with_letter actor from message)) (with_actor old to (with_letter actor from message))) a was
      by true is =
          queues old a was was to actor (with_letter actor from message) at (idle_not actor.mode is).0
          (λ turns. true-false (sym (stands.turn to turns) ∙ ap (of_actor is_running) at ∙ (idle_not actor.mode is).1)) (λ e. e) (λ here none. absurd (longer actor.mailbox _ none)) stands
      by false is = changed old a was to actor (with_letter actor from message) at refl refl (λ queues none. absurd (longer actor.mailbox _ none)) stands

  pub timed_stands : (v : Option (Actor M)) (old : Actors M) (a : ℕ) (was : Bool) (x ms : ℕ) → value_at old.table x ≡ v → Stands old a was → Stands (timed_value v old x ms) a was
  timed_stands None old a was x ms at stands = stands
  timed_stands (Some actor) old a was x ms at stands =
      changed old a was x actor _ at (mode_queued old.greatest ms actor.mode) (mode_running old.greatest ms actor.mode) (λ queues none. (sym (mode_queued old.greatest ms actor.mode) ∙ queues, none)) stands

  pub spawned_stands : (r : Result ℕ ActorError) (old : Actors M) (a : ℕ) (was : Bool) (new : Actor M) → is_queued new.mode ≡ false → Stands old a was
      → Stands (if_granted r old (with_table old (with_next old.table new))) a was
  spawned_stands (Err e) old a was new idles stands = stands
  spawned_stands (Ok n) old a was new idles stands = record {
    queue = λ q. elim (cases_eq q (length old.table)) [
      | inr apart ↦ stands.queue q ∙ ap (λ v. once_if (of_actor is_queued v)) (sym (value_other old.table new q apart))
      | inl last ↦
          stands.queue q ∙ ap (λ v. once_if (of_actor is_queued v)) (get_or_past old.table q None (omega (arith, last)))
          ∙ sym (ap once_if (ap (of_actor is_queued) (ap (value_at (with_next old.table new)) last ∙ value_last old.table new) ∙ idles))
    ];
    turn = λ me is. elim (cases_eq me (length old.table)) [
      | inr apart ↦ ap (of_actor is_running) (value_other old.table new me apart) ∙ stands.turn me is
      | inl last ↦ absurd (true-false (sym (stands.turn me is) ∙ ap (of_actor is_running) (get_or_past old.table me None (omega (arith, last)))))
    ];
    due = λ found its queues none. elim (cases_eq a (length old.table)) [
      | inr apart ↦ stands.due found (sym (value_other old.table new a apart) ∙ its) queues none
      | inl last ↦ absurd (true-false (sym queues ∙ sym (ap (λ (n : Actor M). is_queued n.mode) (same-actor new found (sym (ap (value_at (with_next old.table new)) last ∙ value_last old.table new) ∙ its))) ∙ idles))
    ];
  }
    where
      value_last : (table : Table (Actor M)) (v : Actor M) → value_at (with_next table v) (length table) ≡ Some v
      value_last [] v = refl
      value_last (x ∷ xs) v = value_last xs v

      value_other : (table : Table (Actor M)) (v : Actor M) (q : ℕ) → q ≢ length table → value_at (with_next table v) q ≡ value_at table q
      value_other [] v zero apart = absurd (apart refl)
      value_other [] v (suc q) apart = refl
      value_other (x ∷ xs) v zero apart = refl
      value_other (x ∷ xs) v (suc q) apart = value_other xs v q (λ e. apart (omega (arith, e)))

  -- the front begins its turn
  front_begins : (v : Option (Actor M)) (old : Actors M) (a : ℕ) (was : Bool) (front : ℕ) (rest : List ℕ) → value_at old.table front ≡ v → old.queue ≡ front ∷ rest → old.turn ≡ None → Stands old a was
      → Stands (record { table = begun_table v old.table front; queue = rest; turn = Some front; greatest = old.greatest; most_actors = old.most_actors; most_messages = old.most_messages }) a (cond (front == a) false was)
  front_begins None old a was front rest at is no_turn stands =
      absurd (omega (arith, ap (λ q. times q front) (sym is) ∙ stands.queue front, ap once_if (ap (of_actor is_queued) at), ap once_if (elim (eqb_tells front front) [ inl t ↦ t.0 | inr t ↦ absurd (t.1 refl) ])))
  front_begins (Some actor) old a was front rest at is no_turn stands = record {
    queue = λ q. elim (eqb_tells front q) [
      | inl same ↦
          omega (
            arith,
            ap (λ l. times l q) (sym is) ∙ stands.queue q,
            ap once_if same.0,
            once_at_most (of_actor is_queued (value_at old.table q)),
            ap once_if (ap (of_actor is_queued) (put_here old.table front q actor (record { mode = running; mailbox = rest_of actor.mailbox; timeout = actor.timeout }) at (sym same.1))),
          )
      | inr apart ↦
          omega (
            arith,
            ap (λ l. times l q) (sym is) ∙ stands.queue q,
            ap once_if apart.0,
            ap once_if (ap (of_actor is_queued) (put_there old.table front q (record { mode = running; mailbox = rest_of actor.mailbox; timeout = actor.timeout }) (λ e. apart.1 (sym e)))),
          )
    ];
    turn = λ me turns. ap (of_actor is_running) (put_here old.table front me actor (record { mode = running; mailbox = rest_of actor.mailbox; timeout = actor.timeout }) at (sym (same-turn front me turns)));
    due = λ found its queues none. elim (eqb_tells front a) [
      | inl same ↦ absurd (true-false (sym queues ∙ sym (ap (λ (n : Actor M). is_queued n.mode) (same-actor _ found (sym (put_here old.table front a actor (record { mode = running; mailbox = rest_of actor.mailbox; timeout = actor.timeout }) at (sym same.1)) ∙ its)))))
      | inr apart ↦ ap (λ b. cond b false was) apart.0 ∙ stands.due found (sym (put_there old.table front a _ (λ e. apart.1 (sym e))) ∙ its) queues none
    ];
  }

  pub begins : (queue : List ℕ) (old : Actors M) (a : ℕ) (was : Bool) → old.queue ≡ queue → old.turn ≡ None → Stands old a was → Stands (begun_for queue old) a (due_after a was (of_begin (begin_for queue old)))
  begins [] old a was is no_turn stands = stands
  begins (front ∷ rest) old a was is no_turn stands = front_begins (value_at old.table front) old a was front rest refl is no_turn stands

  -- the turn is over
  without_turn : (old : Actors M) (a : ℕ) (was : Bool) → Stands old a was → Stands (no_turn old) a was
  without_turn old a was stands = record { queue = stands.queue; turn = λ me is. absurd (none-some me is); due = stands.due }

  pub gone : (actors : Actors M) (a : ℕ) (was : Bool) (me : ℕ) → actors.turn ≡ None → of_actor is_queued (value_at actors.table me) ≡ false → Stands actors a was → Stands (with_table actors (without actors.table me)) a was
  gone actors a was me no_one not_queued stands = record {
    queue = λ q. elim (cases_eq q me) [
      | inl here ↦ stands.queue q ∙ ap once_if (ap (of_actor is_queued) (ap (value_at actors.table) here) ∙ not_queued) ∙ sym (ap once_if (ap (of_actor is_queued) (none_at q here)))
      | inr apart ↦ stands.queue q ∙ ap once_if (ap (of_actor is_queued) (sym (get_or-set_other actors.table me q None None apart)))
    ];
    turn = λ x is. absurd (none-some x (sym no_one ∙ is));
    due = λ found its queues none. elim (cases_eq a me) [
      | inl here ↦ absurd (none-some found (sym (none_at a here) ∙ its))
      | inr apart ↦ stands.due found (sym (get_or-set_other actors.table me a None None apart) ∙ its) queues none
    ];
  }
    where
      none_at : (q : ℕ) → q ≡ me → value_at (without actors.table me) q ≡ None
      none_at q here = elim (cases_lt me (length actors.table)) [
        | inl inside ↦ ap (value_at (without actors.table me)) here ∙ get_or-set_same actors.table me None None inside
        | inr past ↦ get_or_past (without actors.table me) q None (omega (arith, here, past, length-set actors.table me None))
      ]

  idles : (actors : Actors M) (a : ℕ) (was : Bool) (me : ℕ) (actor : Actor M) (w : Option ℕ) → value_at actors.table me ≡ Some actor → actors.turn ≡ None → is_queued actor.mode ≡ false → Stands actors a was
      → Stands (with_actor actors me (in_mode actor (idle w))) a was
  idles actors a was me actor w at no_one not_queued stands = record {
    queue = λ q. stands.queue q ∙ ap once_if (sym (put_same is_queued actors.table me q actor (in_mode actor (idle w)) at (sym not_queued)));
    turn = λ x is. absurd (none-some x (sym no_one ∙ is));
    due = λ found its queues none. elim (cases_eq a me) [
      | inl here ↦ absurd (true-false (sym queues ∙ sym (ap (λ (n : Actor M). is_queued n.mode) (same-actor (in_mode actor (idle w)) found (sym (put_here actors.table me a actor (in_mode actor (idle w)) at here) ∙ its)))))
      | inr apart ↦ stands.due found (sym (put_there actors.table me a (in_mode actor (idle w)) apart) ∙ its) queues none
    ];
  }

  pub ends : (stop : Bool) (v : Option (Actor M)) (actors : Actors M) (a : ℕ) (was : Bool) (me : ℕ) → value_at actors.table me ≡ v → of_actor is_queued v ≡ false → actors.turn ≡ None → Stands actors a was
      → Stands (ended_value stop v actors me) a was
  ends true v actors a was me at not_queued no_one stands = gone actors a was me no_one (ap (of_actor is_queued) at ∙ not_queued) stands
  ends false None actors a was me at not_queued no_one stands = stands
  ends false (Some actor) actors a was me at not_queued no_one stands = by (length actor.mailbox == 0) refl
    where
      by : (b : Bool) → (length actor.mailbox == 0) ≡ b → Stands (cond b (with_actor actors me (in_mode actor (idle (wait_from actors.greatest actor.timeout)))) (queued_last actors me actor)) a was
      by true none = idles actors a was me actor (wait_from actors.greatest actor.timeout) at no_one not_queued stands
      by false some =
          queues actors a was was me actor actor at not_queued (λ turns. none-some me (sym no_one ∙ turns)) (λ e. e)
          (λ here empty. absurd (elim (eqb_tells (length actor.mailbox) 0) [ inl t ↦ true-false (sym t.0 ∙ some) | inr t ↦ t.1 (ap length empty) ])) stands

  running_value : (v : Option (Actor M)) → of_actor is_running v ≡ true → of_actor is_queued v ≡ false
  running_value None is = refl
  running_value (Some actor) is = running_not actor.mode is

  pub end_stands : (turn : Option ℕ) (stop : Bool) (old : Actors M) (a : ℕ) (was : Bool) (told : Answer M) (mid : Actors M) → old.turn ≡ turn → EndStep turn stop old told mid → Stands old a was → Stands mid a (due_after a was told)
  end_stands None stop old a was told mid is step stands = absurd step
  end_stands (Some me) stop old a was told mid is step stands =
      subst (λ t. Stands mid a (due_after a was t)) (sym step.0)
      (moved mid _ a was step.1 (ends stop (value_at old.table me) (no_turn old) a was me refl (running_value (value_at old.table me) (stands.turn me is)) refl (without_turn old a was stands)))

  -- a clock step between two turns: those that it lists were idle
  abbrev AreIdle : List ℕ → Table (Actor M) → Type 0
  AreIdle due table = (x : ℕ) → Contains due x → of_actor is_queued (value_at table x) ≡ false

  pub one_queued : (v : Option (Actor M)) (actors : Actors M) (a x : ℕ) (now : Bool) → value_at actors.table x ≡ v → of_actor is_queued v ≡ false → actors.turn ≡ None → (a ≡ x → now ≡ true) → Stands actors a now → Stands (queued_value v actors x) a now
  one_queued None actors a x now at not_queued no_one told stands = stands
  one_queued (Some actor) actors a x now at not_queued no_one told stands =
      queues actors a now now x actor actor at not_queued (λ turns. none-some x (sym no_one ∙ turns)) (λ e. e) (λ here empty. told here) stands

  pub one_turn : (v : Option (Actor M)) (actors : Actors M) (x : ℕ) → (queued_value v actors x).turn ≡ actors.turn
  one_turn None actors x = refl
  one_turn (Some actor) actors x = refl

  pub one_other : (v : Option (Actor M)) (actors : Actors M) (x q : ℕ) → q ≢ x → value_at (queued_value v actors x).table q ≡ value_at actors.table q
  one_other None actors x q apart = refl
  one_other (Some actor) actors x q apart = put_there actors.table x q (in_mode actor queued) apart

  all_stand : (due : List ℕ) (actors : Actors M) (a : ℕ) (now : Bool) → AllPairs (λ s t. s ≢ t) due → AreIdle due actors.table → actors.turn ≡ None → (Contains due a → now ≡ true) → Stands actors a now → Stands (all_queued actors due) a now
  all_stand [] actors a now once idle_ones no_one told stands = stands
  all_stand (x ∷ due) actors a now once idle_ones no_one told stands =
      all_stand due (queued_value (value_at actors.table x) actors x) a now
      (λ i j d below inside. once (suc i) (suc j) d (omega (arith, below)) (omega (arith, inside)))
      (λ q c. ap (of_actor is_queued) (one_other (value_at actors.table x) actors x q (λ same. once 0 (suc c.0) q (omega arith) (omega (arith, c.1)) (sym same ∙ sym c.2))) ∙ idle_ones q (suc c.0, omega (arith, c.1), c.2))
      (one_turn (value_at actors.table x) actors x ∙ no_one)
      (λ c. told (suc c.0, omega (arith, c.1), c.2))
      (one_queued (value_at actors.table x) actors a x now refl (idle_ones x (0, omega arith, refl)) no_one (λ same. told (0, omega arith, sym same)) stands)

  pub come_not : (g : ℕ) (v : Option (Actor M)) → HasCome g (waiting_value v) → of_actor is_queued v ≡ false
  come_not g None come = refl
  come_not g (Some actor) come = waiting_not actor.mode g come

  grown : (actors : Actors M) (a : ℕ) (was now : Bool) → (was ≡ true → now ≡ true) → Stands actors a was → Stands actors a now
  grown actors a was now grows stands = record { queue = stands.queue; turn = stands.turn; due = λ found its queues none. grows (stands.due found its queues none) }

  clock_stands : (old : Actors M) (n : ℕ) (a : ℕ) (was : Bool) (told : Answer M) (mid : Actors M) → ClockStep old n told mid → Stands old a was → Stands mid a (due_after a was told)
  clock_stands old n a was (answer.Due due) mid step stands =
      let here : Stands (at_tick old (greatest_at old n)) a was = record { queue = stands.queue; turn = stands.turn; due = stands.due } in
      moved mid _ a (cond (is_waiting due a) true was) step.3
      (all_stand due (at_tick old (greatest_at old n)) a (cond (is_waiting due a) true was) step.2.no_doubles (λ x c. come_not (greatest_at old n) (value_at old.table x) ((step.2.all_due x).0 c)) step.0
      (λ c. ap (λ b. cond b true was) (waiting-tells due a c)) (grown (at_tick old (greatest_at old n)) a was _ (later_was (is_waiting due a) was) here))
  clock_stands old n a was answer.Invalid mid step stands = moved mid old a was step.2 stands
  clock_stands old n a was (answer.Refused e) mid step stands = absurd step
  clock_stands old n a was (answer.Actor x) mid step stands = absurd step
  clock_stands old n a was (answer.Posted what) mid step stands = absurd step
  clock_stands old n a was answer.Done mid step stands = absurd step
  clock_stands old n a was (answer.Turn x got) mid step stands = absurd step
  clock_stands old n a was (answer.Ended how) mid step stands = absurd step

  goes : (mid other : Actors M) (a : ℕ) (was : Bool) (told as_told : Answer M) → told ≡ as_told → mid ≡ other → due_after a was as_told ≡ was → Stands other a was → Stands mid a (due_after a was told)
  goes mid other a was told as_told same_told same stays stands = subst (Stands mid a) (sym (ap (due_after a was) same_told ∙ stays)) (moved mid other a was same stands)

  either_way : {A : Type 0} (r : Result A ActorError) (before after : Actors M) (a : ℕ) (was : Bool) → Stands before a was → Stands after a was → Stands (if_granted r before after) a was
  either_way (Ok x) before after a was old new = new
  either_way (Err e) before after a was old new = old

  pub step_stands : (old : Actors M) (a : ℕ) (was : Bool) (c : Call M) (told : Answer M) (mid : Actors M) → Step old c told mid → Stands old a was → Stands mid a (due_after a was told)
  step_stands old a was call.Spawn told mid step stands =
      goes mid _ a was told _ step.0 step.1 (number_told M (spawn_answer old) a was) (spawned_stands (spawn_answer old) old a was (record { mode = idle None; mailbox = []; timeout = 0 }) refl stands)
  step_stands old a was (call.Send from to message) told mid step stands =
      goes mid _ a was told _ step.0 step.1 (send_told M (send_answer old from to) a was) (either_way (send_answer old from to) old _ a was stands (received (value_at old.table to) old a was from to message refl stands))
  step_stands old a was (call.Timeout x ms) told mid step stands =
      goes mid _ a was told _ step.0 step.1 (done_told M (timeout_answer old x) a was) (timed_stands (value_at old.table x) old a was x ms refl stands)
  step_stands old a was call.Begin told mid step stands =
      subst (λ t. Stands mid a (due_after a was t)) (sym step.1) (moved mid _ a _ step.2 (begins old.queue old a was refl step.0 stands))
  step_stands old a was (call.End stop) told mid step stands = end_stands old.turn stop old a was told mid refl step stands
  step_stands old a was (call.Clock n) told mid step stands = clock_stands old n a was told mid step stands

  run_stands : (calls : List (Call M)) (answers : List (Answer M)) (old new : Actors M) (a : ℕ) (was : Bool) → Run old calls answers new → Stands old a was → Stands new a (was_due a was answers)
  run_stands [] [] old new a was run stands = moved new old a was run stands
  run_stands [] (told ∷ answers) old new a was run stands = absurd run
  run_stands (c ∷ calls) [] old new a was run stands = absurd run
  run_stands (c ∷ calls) (told ∷ answers) old new a was (mid, step, run) stands = run_stands calls answers mid new a (due_after a was told) run (step_stands old a was c told mid step stands)

  turn-parts : (a b : ℕ) (g h : Got M) → answer.Turn a g ≡ answer.Turn b h → (a ≡ b) × (g ≡ h)
  turn-parts a b g h e = (cc, cc)

  turn-refused : (a : ℕ) (g : Got M) (e : ActorError) → answer.Turn a g ≡ answer.Refused e → ⊥
  turn-refused a g e same = cc

  timeout-message : (from : ℕ) (message : M) → Timeout ≡ Message from message → ⊥
  timeout-message from message e = cc

  -- the front that gets a timeout is queued, and has no message
  front_empty : (mailbox : List (Letter M)) → Timeout ≡ got_in mailbox → mailbox ≡ []
  front_empty [] e = refl
  front_empty (letter ∷ rest) e = absurd (timeout-message letter.sender letter.message e)

  front_is : (v : Option (Actor M)) → of_actor is_queued v ≡ true → Timeout ≡ got_value v → (actor : Actor M) × (v ≡ Some actor) × (is_queued actor.mode ≡ true) × (actor.mailbox ≡ [])
  front_is None queues got = absurd (true-false (sym queues))
  front_is (Some actor) queues got = (actor, refl, queues, front_empty actor.mailbox got)

  by_queue : (queue : List ℕ) (old : Actors M) (a : ℕ) (was : Bool) → old.queue ≡ queue → Stands old a was → answer.Turn a Timeout ≡ of_begin (begin_for queue old)
      → (actor : Actor M) × (value_at old.table a ≡ Some actor) × (is_queued actor.mode ≡ true) × (actor.mailbox ≡ [])
  by_queue [] old a was is stands told = absurd (turn-refused a Timeout error.Idle told)
  by_queue (front ∷ rest) old a was is stands told =
      let parts = turn-parts a front Timeout (got_value (value_at old.table front)) told in
      let same : value_at old.table a ≡ value_at old.table front = ap (value_at old.table) parts.0 in
      let queues : of_actor is_queued (value_at old.table front) ≡ true =
      is_once (of_actor is_queued (value_at old.table front)) (omega (arith, ap (λ q. times q front) (sym is) ∙ stands.queue front, ap once_if (self front))) in
      let found = front_is (value_at old.table front) queues parts.1 in
      (found.0, same ∙ found.1, found.2, found.3)
    where
      self : (x : ℕ) → (x == x) ≡ true
      self x = elim (eqb_tells x x) [ inl t ↦ t.0 | inr t ↦ absurd (t.1 refl) ]

pub timeouts_are_due : (M : Type 0) → TimeoutsAreDue M
timeouts_are_due M calls answers most_actors most_messages old new a run step =
    let start : Stands (no_actors {M = M} most_actors most_messages) a false = record { queue = λ q. refl; turn = λ me is. absurd (none-some me is); due = λ found its queues none. absurd (none-some found its) } in
    let stands = run_stands calls answers (no_actors most_actors most_messages) old a false run start in
    let found = by_queue old.queue old a (was_due a false answers) refl stands step.1 in
    let letters = run_holds calls answers (no_actors most_actors most_messages) old a [] [] (([], refl), λ le. refl) run in
    (told_at old.table a found.0 _ _ found.1 letters ∙ ap (λ z. got_by a answers ++ z) found.3 ∙ nil (got_by a answers), stands.due found.0 found.1 found.2 found.3)
