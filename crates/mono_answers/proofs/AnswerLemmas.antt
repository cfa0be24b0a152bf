-- No passage adds to what a task may answer.
use Rattle.std.proofs.Common.{◌≡◌, ◌≢◌, ◌<◌, ℕ, true, false, Bool, cond, List, [], ◌∷◌, length, Some, None, Option, Result, Ok, Err, refl, ap, sym, subst, ◌∙◌, inl, inr, arith}
use Rattle.std.proofs.lemmas.Bool.{cases_eq}
use Rattle.std.proofs.lemmas.List.{get_or-set_other, length-set}
use Rattle.mono_model.specs.Table.{value_at, is_issued}
use Rattle.mono_model.specs.Tasks.{Tasks, Task, Phase, idle, queued, running, done, taken}
use Rattle.mono_model.specs.Joins.{kept_value, join_value, join_answer, drop_answer, output_of}
use Rattle.mono_model.specs.Joins as joins
use Rattle.mono_model.specs.declared.Ended.{Ended}
use Rattle.mono_model.specs.declared.poll.Poll.{Poll}
use Rattle.mono_model.specs.declared.poll.Poll.TheVariants.{Ready, Pending}
use Rattle.mono_model.specs.declared.task_error.TaskError.{TaskError}
use Rattle.mono_model.specs.declared.task_error.TaskError.TheVariants.{NoTask, NoHandle}
use Rattle.mono_task.specs.Members.{FutureOf, SharedOf}
use Rattle.mono_task.specs.Schedule as schedule
use Rattle.mono_rt.specs.Outputs.{output_in, output_at, AddsNone}
use Rattle.mono_rt.specs.Payments.{PaysOwed}
use Rattle.mono_rt.specs.Reaches.{ReachesSharing}
use Rattle.mono_rt.specs.Turns.{AfterPoll}
use Rattle.mono_rt.specs.PossibleAnswers.{MayAnswer, AnswersNoMore}
use Rattle.mono_rt.specs.declared.contexts.Cx.{Cx}
use Rattle.mono_rt.proofs.OutputLemmas.{adds_paused, output_completed, output_dropped}
use Rattle.mono_rt.proofs.PartTurnLemmas.{after_poll}
use Rattle.mono_rt.proofs.PossibleAnswerLemmas.{starts, inside_spawned, gives_spawned}
use Rattle.mono_answers.specs.declared.passages.Passage.{Passage}
use Rattle.mono_answers.specs.declared.passages.Passage.TheVariants as passage
use Rattle.mono_answers.specs.Passages.{Comes, Passes, Spawns, PollsGive, DropsGive}

some_none : {X : Type 0} (v : Option X) (x : X) → v ≡ None → v ≡ Some x → ⊥
some_none v x none some = cc

-- ---- an output that a handle gives is the task's

module _ {O : Type 0} where
  abbrev polled_as : Result (Poll O) TaskError → Result (Poll O) TaskError
  polled_as r = r

  phase_output : (phase : Phase O) (x : O) → joins.output_in phase ≡ Ok (Ready x) → output_of phase ≡ Some x
  phase_output idle x is = cc
  phase_output queued x is = cc
  phase_output (running noted) x is = cc
  phase_output (done output) x is = cc
  phase_output taken x is = cc

  kept_output : (kept : Bool) (task : Task O) (x : O) → task.is_kept ≡ kept → join_value (kept_value (Some task)) ≡ Ok (Ready x) → output_in (Some task) ≡ Some x
  kept_output true task x kept is = phase_output task.phase x (rw kept at is)
  kept_output false task x kept is = absurd (no_output x (rw kept at is))
    where
      no_output : (x : O) → polled_as (Err NoHandle) ≡ Ok (Ready x) → ⊥
      no_output x is = cc

  issued_output : (b : Bool) (v : Option (Task O)) (x : O) → join_value (cond b (kept_value v) (Err NoTask)) ≡ Ok (Ready x) → output_in v ≡ Some x
  issued_output false v x is = cc
  issued_output true None x is = cc
  issued_output true (Some task) x is = kept_output task.is_kept task x refl is

  output_joined : (tasks : Tasks O) (t : ℕ) (x : O) → join_answer tasks t ≡ Ok (Ready x) → output_at tasks t ≡ Some x
  output_joined tasks t x is = issued_output (is_issued tasks.table t) (value_at tasks.table t) x is

-- ---- what a task may answer in a later context

module _ {F O P U W J A V : Type 0} (number : O → ℕ) (sharing : SharedOf W) (future : FutureOf F (Cx F O P U W J A V) O) (t : ℕ) where
  -- it has its place still, and may answer no more
  record Narrows (c d : Cx F O P U W J A V) : Type 0 where
    has : t < length d.futures.items
    answers : (x : O) → MayAnswer future.gives d t x → MayAnswer future.gives c t x

  calls_narrow : (c d : Cx F O P U W J A V) → t < length c.futures.items → ReachesSharing number sharing c d → Narrows c d
  calls_narrow c d below reached = record {
    has = omega (arith, below, reached.grows);
    answers = λ x may. elim may [
      | inl out ↦ inl (reached.parts.outputs t x out)
      | inr held ↦ inr (held.0, sym (reached.keeps t below) ∙ held.1, held.2)
    ];
  }

  paid_narrows : (c d : Cx F O P U W J A V) → t < length c.futures.items → PaysOwed number sharing c d → Narrows c d
  paid_narrows c d below pays =
      let items : d.futures.items ≡ c.futures.items = ap (λ f. f.items) pays.paying.same_futures in
      record {
        has = omega (arith, below, ap length items);
        answers = λ x may. elim may [
          | inl out ↦ inl (pays.paying.parts.outputs t x out)
          | inr held ↦ inr (held.0, sym (ap (λ v. value_at v t) items) ∙ held.1, held.2)
        ];
      }

  turns_narrow : (c d : Cx F O P U W J A V) → t < length c.futures.items → AnswersNoMore future.gives c d → Narrows c d
  turns_narrow c d below less = record { has = omega (arith, below, less.grows); answers = λ x may. less.answers t x below may }

  beginning_narrows : (c d : Cx F O P U W J A V) (r : ℕ) → t < length c.futures.items → Comes number sharing future t c (passage.Begin r) d → Narrows c d
  beginning_narrows c d r below (now, acts, begins) =
      let way = starts number sharing c d r now acts begins.parts begins.futures in
      record {
        has = omega (arith, below, way.grows);
        answers = λ x may. elim may [
          | inl out ↦ inl (way.outputs t x out)
          | inr held ↦ elim (cases_eq t r) [
            | inl same ↦ absurd (some_none (value_at d.futures.items r) held.0 (way.own (omega (arith, below, same))) (ap (λ n. value_at d.futures.items n) (sym same) ∙ held.1))
            | inr apart ↦ inr (held.0, sym (way.others t below apart) ∙ held.1, held.2)
          ]
        ];
      }

  -- another task's turn ends
  module _ (r : ℕ) (apart : t ≢ r) where
    pausing_narrows : (c d : Cx F O P U W J A V) (left : F) (ended : Ended) → t < length c.futures.items → c.parts.tasks.turn ≡ Some r → AfterPoll number sharing future Pending r left ended c d → Narrows c d
    pausing_narrows c d left ended below turn (paid, (pays, pauses)) =
        let before = paid_narrows c paid below pays in
        let at_end = pays.paying.parts.same_turn ∙ turn in
        let is : d.parts.tasks.tasks ≡ schedule.tasks_after paid.parts.tasks.tasks r Pending = ap (λ s. s.tasks) (pauses.parts.tasks ∙ after_poll paid.parts.tasks r Pending at_end) in
        let adds : AddsNone paid.parts.tasks.tasks d.parts.tasks.tasks = subst (AddsNone paid.parts.tasks.tasks) (sym is) (adds_paused (value_at paid.parts.tasks.tasks.table r) paid.parts.tasks.tasks r) in
        let long : length d.futures.items ≡ length paid.futures.items = ap length pauses.futures ∙ length-set paid.futures.items r (Some left) in
        record {
          has = omega (arith, before.has, long);
          answers = λ x may. before.answers x (elim may [
            | inl out ↦ inl (adds.outputs t x out)
            | inr held ↦ inr (held.0, sym (get_or-set_other paid.futures.items r t (Some left) None apart) ∙ sym (ap (λ v. value_at v t) pauses.futures) ∙ held.1, held.2)
          ]);
        }

    completing_narrows : (c d : Cx F O P U W J A V) (output : O) (left : F) (ended : Ended) → t < length c.futures.items → c.parts.tasks.turn ≡ Some r → AfterPoll number sharing future (Ready output) r left ended c d → Narrows c d
    completing_narrows c d output left ended below turn (e, cancels, on, (paid, (pays, completes))) =
        let first = calls_narrow c e below on in
        let before = paid_narrows e paid first.has pays in
        let at_end = pays.paying.parts.same_turn ∙ on.parts.same_turn ∙ turn in
        let is : d.parts.tasks.tasks ≡ schedule.tasks_after paid.parts.tasks.tasks r (Ready output) = ap (λ s. s.tasks) (completes.parts.tasks ∙ after_poll paid.parts.tasks r (Ready output) at_end) in
        record {
          has = omega (arith, before.has, ap length completes.futures);
          answers = λ x may. first.answers x (before.answers x (elim may [
            | inl out ↦ elim (output_completed (value_at paid.parts.tasks.tasks.table r) paid.parts.tasks.tasks r t output x (sym (ap (λ s. output_at s t) is) ∙ out)) [
              | inl here ↦ absurd (apart here.0)
              | inr there ↦ inl there
            ]
            | inr held ↦ inr (held.0, sym (ap (λ v. value_at v t) completes.futures) ∙ held.1, held.2)
          ]));
        }

    ending_narrows : (c d : Cx F O P U W J A V) (answer : Poll O) (left : F) (ended : Ended) → t < length c.futures.items → c.parts.tasks.turn ≡ Some r → AfterPoll number sharing future answer r left ended c d → Narrows c d
    ending_narrows c d Pending left ended below turn after = pausing_narrows c d left ended below turn after
    ending_narrows c d (Ready output) left ended below turn after = completing_narrows c d output left ended below turn after

  passage_narrows : (c d : Cx F O P U W J A V) (p : Passage) → t < length c.futures.items → Comes number sharing future t c p d → Narrows c d
  passage_narrows c d passage.Calls below comes = calls_narrow c d below comes
  passage_narrows c d (passage.Begin r) below comes = beginning_narrows c d r below comes
  passage_narrows c d (passage.End r) below (apart, turn, (answer, left, ended, after)) = ending_narrows r apart c d answer left ended below turn after
  passage_narrows c d passage.Turns below comes = turns_narrow c d below comes

  passages_narrow : (c d : Cx F O P U W J A V) (ps : List Passage) → t < length c.futures.items → Passes number sharing future t c ps d → Narrows c d
  passages_narrow c d [] below same = subst (Narrows c) (sym same) (record { has = below; answers = λ x may. may })
  passages_narrow c d (p ∷ ps) below (mid, comes, rest) =
      let first = passage_narrows c mid p below comes in
      let later = passages_narrow mid d ps first.has rest in
      record { has = later.has; answers = λ x may. first.answers x (later.answers x may) }

-- ---- from the spawn to the handle

module _ {F O P U W J A V : Type 0} (number : O → ℕ) (sharing : SharedOf W) (future : FutureOf F (Cx F O P U W J A V) O) where
  given_by : (c d e : Cx F O P U W J A V) (t : ℕ) (spawn : F) (ps : List Passage) (x : O) → Spawns t spawn c d → Passes number sharing future t d ps e → output_at e.parts.tasks.tasks t ≡ Some x → future.gives spawn x
  given_by c d e t spawn ps x spawns passes out =
      let narrow = passages_narrow number sharing future t d e ps (inside_spawned future.gives c d spawn spawns.tasks spawns.futures t spawns.number spawns.aligned) passes in
      gives_spawned future.gives c d spawn spawns.tasks spawns.futures t spawns.number spawns.aligned x (narrow.answers x (inl out))

  pub polls_give : PollsGive number sharing future
  polls_give c d e t spawn ps x spawns passes is = given_by c d e t spawn ps x spawns passes (output_joined e.parts.tasks.tasks t x is)

  pub drops_give : DropsGive number sharing future
  drops_give c d e t spawn ps x spawns passes is = given_by c d e t spawn ps x spawns passes (output_dropped e.parts.tasks.tasks t x is)
