-- A timeout comes only if a tick has come for which the actor waited.
use Rattle.std.proofs.Common.{◌≡◌, ◌≤◌, ◌⊎◌, inl, inr, ℕ, suc, true, false, Bool, cond, List, [], ◌∷◌, Some, None, Option, refl, ap, sym, ◌∙◌, arith}
use Rattle.std.specs.Prelude.{⊤, Result, Ok, Err, ◌==◌, ◌||◌, Contains}
use Rattle.std.proofs.lemmas.Bool.Decides.{eqb_tells}
use Rattle.mono_model.specs.Table.{value_at}
use Rattle.mono_model.specs.Inbox.{is_waiting}
use Rattle.mono_model.specs.Due.{HasCome}
use Rattle.mono_actor.specs.Actors.{Actor, Actors, no_actors, spawn_answer, send_answer, timeout_answer, begin_answer}
use Rattle.mono_actor.specs.Calls.{Call}
use Rattle.mono_actor.specs.Calls as call
use Rattle.mono_actor.specs.Answers.{Answer, of_number, of_send, of_done, of_begin}
use Rattle.mono_actor.specs.Answers as answer
use Rattle.mono_actor.specs.Steps.{waiting_at, queued_value, all_queued, at_tick, greatest_at, EndStep, Step, Run}
use Rattle.mono_actor.specs.Laws.{due_after, was_due, has_no_turn, HasRung, TimeoutsHaveCome}
use Rattle.mono_actor.specs.declared.answers.ActorError.{ActorError}
use Rattle.mono_actor.specs.declared.answers.Sent.{Sent}
use Rattle.mono_actor.specs.declared.answers.After.{After}
use Rattle.mono_actor.specs.declared.answers.Got.{Got}
use Rattle.mono_actor.proofs.CallLemmas.{true-false}
use Rattle.mono_actor.proofs.TimeoutLemmas.{timeouts_are_due}

waiting-told : (xs : List ℕ) (a : ℕ) → is_waiting xs a ≡ true → Contains xs a
waiting-told [] a e = absurd (true-false (sym e))
waiting-told (x ∷ xs) a e = elim (eqb_tells x a) [
  | inl t ↦ (0, omega arith, t.1)
  | inr t ↦ (let c = waiting-told xs a (ap (λ b. b || is_waiting xs a) (sym t.0) ∙ e) in (suc c.0, omega (arith, c.1), c.2))
]

come-tick : (g : ℕ) (v : Option ℕ) → HasCome g v → (tick : ℕ) × (v ≡ Some tick) × (tick ≤ g)
come-tick g None come = absurd come
come-tick g (Some tick) come = (tick, refl, come)

module _ {M : Type 0} where
  one-greatest : (v : Option (Actor M)) (actors : Actors M) (x : ℕ) → (queued_value v actors x).greatest ≡ actors.greatest
  one-greatest None actors x = refl
  one-greatest (Some actor) actors x = refl

  all-greatest : (due : List ℕ) (actors : Actors M) → (all_queued actors due).greatest ≡ actors.greatest
  all-greatest [] actors = refl
  all-greatest (x ∷ due) actors = all-greatest due (queued_value (value_at actors.table x) actors x) ∙ one-greatest (value_at actors.table x) actors x

  number-due : (due : List ℕ) (r : Result ℕ ActorError) → answer.Due due ≡ of_number {M = M} r → ⊥
  number-due due (Ok n) e = cc
  number-due due (Err x) e = cc

  send-due : (due : List ℕ) (r : Result Sent ActorError) → answer.Due due ≡ of_send {M = M} r → ⊥
  send-due due (Ok n) e = cc
  send-due due (Err x) e = cc

  done-due : (due : List ℕ) (r : Result ⊤ ActorError) → answer.Due due ≡ of_done {M = M} r → ⊥
  done-due due (Ok n) e = cc
  done-due due (Err x) e = cc

  begin-due : (due : List ℕ) (r : Result (ℕ × Got M) ActorError) → answer.Due due ≡ of_begin r → ⊥
  begin-due due (Ok (n, g)) e = cc
  begin-due due (Err x) e = cc

  ended-due : (due : List ℕ) (how : After) (x : Answer M) → x ≡ answer.Due due → x ≡ answer.Ended how → ⊥
  ended-due due how x e f = cc

  end-due : (turn : Option ℕ) (stop : Bool) (old new : Actors M) (due : List ℕ) → EndStep turn stop old (answer.Due due) new → ⊥
  end-due None stop old new due step = step
  end-due (Some me) stop old new due step = ended-due due _ (answer.Due due) refl step.0

  -- only a clock step lists anybody
  rung-here : (old mid new : Actors M) (c : Call M) (due : List ℕ) (calls : List (Call M)) (answers : List (Answer M)) (a : ℕ) → Step old c (answer.Due due) mid → Run mid calls answers new
      → Contains due a → has_no_turn a answers ≡ true → HasRung old (c ∷ calls) (answer.Due due ∷ answers) new a
  rung-here old mid new call.Spawn due calls answers a step run there no_turn = absurd (number-due due (spawn_answer old) step.0)
  rung-here old mid new (call.Send from to message) due calls answers a step run there no_turn = absurd (send-due due (send_answer old from to) step.0)
  rung-here old mid new (call.Timeout x ms) due calls answers a step run there no_turn = absurd (done-due due (timeout_answer old x) step.0)
  rung-here old mid new call.Begin due calls answers a step run there no_turn = absurd (begin-due due (begin_answer old) step.1)
  rung-here old mid new (call.End stop) due calls answers a step run there no_turn = absurd (end-due old.turn stop old mid due step)
  rung-here old mid new (call.Clock n) due calls answers a step run there no_turn =
      let found = come-tick (greatest_at old n) (waiting_at old a) ((step.2.all_due a).0 there) in
      record {
        calls_before = [];
        answers_before = [];
        nanos = n;
        due = due;
        calls_after = calls;
        answers_after = answers;
        before = old;
        after = mid;
        tick = found.0;
        calls_are = refl;
        answers_are = refl;
        run_before = refl;
        step = step;
        run_after = run;
        waited = found.1;
        come = omega (arith, found.2, ap (λ (x : Actors M). x.greatest) step.3 ∙ all-greatest due (at_tick old (greatest_at old n)));
        listed = there;
        no_turn = no_turn;
      }

  rung-later : (old mid new : Actors M) (c : Call M) (told : Answer M) (calls : List (Call M)) (answers : List (Answer M)) (a : ℕ) → Step old c told mid → HasRung mid calls answers new a → HasRung old (c ∷ calls) (told ∷ answers) new a
  rung-later old mid new c told calls answers a step r = record {
    calls_before = c ∷ r.calls_before;
    answers_before = told ∷ r.answers_before;
    nanos = r.nanos;
    due = r.due;
    calls_after = r.calls_after;
    answers_after = r.answers_after;
    before = r.before;
    after = r.after;
    tick = r.tick;
    calls_are = ap (λ xs. c ∷ xs) r.calls_are;
    answers_are = ap (λ xs. told ∷ xs) r.answers_are;
    run_before = (mid, step, r.run_before);
    step = r.step;
    run_after = r.run_after;
    waited = r.waited;
    come = r.come;
    listed = r.listed;
    no_turn = r.no_turn;
  }

  abbrev Either : Actors M → List (Call M) → List (Answer M) → Actors M → ℕ → Bool → Type 0
  Either old calls answers new a was = ((was ≡ true) × (has_no_turn a answers ≡ true)) ⊎ HasRung old calls answers new a

  by_told : (old mid new : Actors M) (c : Call M) (told : Answer M) (calls : List (Call M)) (answers : List (Answer M)) (a : ℕ) (was : Bool) → Step old c told mid → Run mid calls answers new
      → due_after a was told ≡ true → has_no_turn a answers ≡ true → Either old (c ∷ calls) (told ∷ answers) new a was
  by_told old mid new c (answer.Turn me what) calls answers a was step run w none = by (me == a) refl
    where
      by : (b : Bool) → (me == a) ≡ b → Either old (c ∷ calls) (answer.Turn me what ∷ answers) new a was
      by true is = absurd (true-false (sym w ∙ ap (λ b. cond b false was) is))
      by false is = inl (sym (ap (λ b. cond b false was) is) ∙ w, ap (λ b. cond b false (has_no_turn a answers)) is ∙ none)
  by_told old mid new c (answer.Due due) calls answers a was step run w none = by (is_waiting due a) refl
    where
      by : (b : Bool) → is_waiting due a ≡ b → Either old (c ∷ calls) (answer.Due due ∷ answers) new a was
      by true is = inr (rung-here old mid new c due calls answers a step run (waiting-told due a is) none)
      by false is = inl (sym (ap (λ b. cond b true was) is) ∙ w, none)
  by_told old mid new c answer.Invalid calls answers a was step run w none = inl (w, none)
  by_told old mid new c (answer.Refused e) calls answers a was step run w none = inl (w, none)
  by_told old mid new c (answer.Actor x) calls answers a was step run w none = inl (w, none)
  by_told old mid new c (answer.Posted what) calls answers a was step run w none = inl (w, none)
  by_told old mid new c answer.Done calls answers a was step run w none = inl (w, none)
  by_told old mid new c (answer.Ended how) calls answers a was step run w none = inl (w, none)

  rung : (calls : List (Call M)) (answers : List (Answer M)) (old new : Actors M) (a : ℕ) (was : Bool) → Run old calls answers new → was_due a was answers ≡ true → Either old calls answers new a was
  rung [] [] old new a was run w = inl (w, refl)
  rung [] (told ∷ answers) old new a was run w = absurd run
  rung (c ∷ calls) [] old new a was run w = absurd run
  rung (c ∷ calls) (told ∷ answers) old new a was (mid, step, run) w = elim (rung calls answers mid new a (due_after a was told) run w) [
    | inl t ↦ by_told old mid new c told calls answers a was step run t.0 t.1
    | inr r ↦ inr (rung-later old mid new c told calls answers a step r)
  ]

pub timeouts_have_come : (M : Type 0) → TimeoutsHaveCome M
timeouts_have_come M calls answers most_actors most_messages old new a run step =
    elim (rung calls answers (no_actors most_actors most_messages) old a false run (timeouts_are_due M calls answers most_actors most_messages old new a run step).1) [
      | inl t ↦ absurd (true-false (sym t.0))
      | inr r ↦ r
    ]
