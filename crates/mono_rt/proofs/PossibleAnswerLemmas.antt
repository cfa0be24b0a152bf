-- No call and no turn adds to what a task may answer.
use Rattle.std.proofs.Common.{◌≡◌, ◌≢◌, ◌<◌, ◌≤◌, ◌+◌, ℕ, true, false, Bool, List, [], ◌∷◌, ◌++◌, length, set, get_or, Some, None, Option, refl, ap, sym, subst, ◌∙◌, ◌⊎◌, inl, inr, arith}
use Rattle.std.specs.Prelude.{slice_set, Result, Ok, Err, IfOk}
use Rattle.std.proofs.lemmas.Bool.{cases_eq}
use Rattle.std.proofs.lemmas.List.{get_or-set_same, get_or-set_other, length-set, get_or_append_left, get_or_push, length_push}
use Rattle.mono_model.specs.Table.{value_at, next_number}
use Rattle.mono_model.specs.Tasks.{begun, spawned}
use Rattle.mono_model.specs.declared.Ended.{Ended}
use Rattle.mono_model.specs.declared.poll.Poll.{Poll}
use Rattle.mono_model.specs.declared.poll.Poll.TheVariants.{Ready, Pending}
use Rattle.mono_model.specs.Poll.{IfReady, OnPending}
use Rattle.mono_task.specs.Members.{FutureOf, SharedOf}
use Rattle.mono_rt.specs.Outputs.{output_in, output_at, KeepsOutputs, AddsNone}
use Rattle.mono_task.specs.Schedule as schedule
use Rattle.mono_rt.proofs.OutputLemmas.{adds_itself, keeps_spawned, output_next, adds_begun, adds_paused, output_completed, next_completed}
use Rattle.mono_task.proofs.ScheduleLemmas.{front_is}
use Rattle.mono_time.specs.declared.instant.Instant.{Instant}
use Rattle.mono_machine.specs.declared.events.End.{End}
use Rattle.mono_machine.specs.Machine.{Machine}
use Rattle.mono_rt.specs.Record.{Record}
use Rattle.mono_rt.specs.Refinement.{hosting_of, MatchesValid}
use Rattle.mono_rt.proofs.NumberLemmas.{next_numbered}
use Rattle.mono_rt.specs.Reaches.{ReachesSharing, IsAligned}
use Rattle.mono_rt.specs.PartTurns.{BeginsParts, EndsParts}
use Rattle.mono_rt.specs.Payments.{PaysOwed}
use Rattle.mono_rt.specs.Turns.{Pauses, Completes, AfterPoll, Polls, UnlessSpent, Runs, Turn}
use Rattle.mono_rt.specs.PossibleAnswers.{MayAnswer, AnswersNoMore}
use Rattle.mono_rt.specs.declared.contexts.Cx.{Cx}
use Rattle.mono_rt.proofs.PartTurnLemmas.{begun_turn, after_poll}

-- a value beside none
some_none : {X : Type 0} (v : Option X) (x : X) → v ≡ None → v ≡ Some x → ⊥
some_none v x none some = cc

the_same : {X : Type 0} (v : Option X) (x y : X) → v ≡ Some x → v ≡ Some y → x ≡ y
the_same v x y p q = cc

module _ {F O P U W J A V : Type 0} where
  -- a task is made of a future
  pub aligned_spawned : (c d : Cx F O P U W J A V) (future : F) → d.parts.tasks.tasks ≡ spawned c.parts.tasks.tasks → d.futures.items ≡ c.futures.items ++ Some future ∷ [] → IsAligned c → IsAligned d
  aligned_spawned c d future tasks items h =
      ap length items ∙ length_push c.futures.items (Some future) ∙ ap (λ n. n + 1) h ∙ sym (length_push c.parts.tasks.tasks.table _) ∙ sym (ap (λ s. next_number s.table) tasks)

  pub aligned_same : (c d : Cx F O P U W J A V) → d.parts.tasks.tasks ≡ c.parts.tasks.tasks → d.futures.items ≡ c.futures.items → IsAligned c → IsAligned d
  aligned_same c d tasks items h = ap length items ∙ h ∙ sym (ap (λ s. next_number s.table) tasks)

  -- a new runtime has no task and no future
  pub aligned_new : (number : O → ℕ) (c : Cx F O P U W J A V) (m : Machine) → MatchesValid number hosting_of c.parts m → next_number m.tasks.table ≡ 0 → c.futures.items ≡ [] → IsAligned c
  aligned_new number c m st none items = ap length items ∙ sym none ∙ sym (ap (λ x. next_number x.table) st.matches.tasks) ∙ next_numbered number c.parts.tasks.tasks

-- a fact of a result by two others
pub ok_by : {A E : Type 0} (P Q R : A → Type 0) (r : Result A E) → ((x : A) → P x → Q x → R x) → IfOk r P → IfOk r Q → IfOk r R
ok_by P Q R (Ok x) by p q = by x p q
ok_by P Q R (Err e) by p q = tt

-- a fact of a result under a premise that holds
pub ok_given : {A E : Type 0} (P : Type 0) (Q : A → Type 0) (r : Result A E) → P → IfOk r (λ x. P → Q x) → IfOk r Q
ok_given P Q (Ok x) p by = by p
ok_given P Q (Err e) p by = tt

module _ {F O P U W J A V : Type 0} (gives : F → O → Type 0) where
  pub no_more_itself : (c : Cx F O P U W J A V) → AnswersNoMore gives c c
  no_more_itself c = record { grows = omega arith; aligned = λ h. h; answers = λ t x below may. may }

  pub no_more_on : (a b c : Cx F O P U W J A V) → AnswersNoMore gives a b → AnswersNoMore gives b c → AnswersNoMore gives a c
  no_more_on a b c p q = record {
    grows = omega (arith, p.grows, q.grows);
    aligned = λ h. q.aligned (p.aligned h);
    answers = λ t x below may. p.answers t x below (q.answers t x (omega (arith, below, p.grows)) may);
  }

  -- the tasks have no more outputs, and the futures stay
  pub no_more_by : (c d : Cx F O P U W J A V) → AddsNone c.parts.tasks.tasks d.parts.tasks.tasks → d.futures.items ≡ c.futures.items → AnswersNoMore gives c d
  no_more_by c d adds same = record {
    grows = omega (arith, ap length same);
    aligned = λ h. ap length same ∙ h ∙ sym adds.next;
    answers = λ t x below may. elim may [
      | inl out ↦ inl (adds.outputs t x out)
      | inr held ↦ inr (held.0, sym (ap (λ v. value_at v t) same) ∙ held.1, held.2)
    ];
  }

  pub no_more_same : (c d : Cx F O P U W J A V) → d.parts.tasks ≡ c.parts.tasks → d.futures.items ≡ c.futures.items → AnswersNoMore gives c d
  no_more_same c d tasks same = no_more_by c d (subst (λ s. AddsNone c.parts.tasks.tasks s.tasks) (sym tasks) (adds_itself c.parts.tasks.tasks)) same

  -- before and after a turn the tasks and the futures stay
  pub no_more_around : (a b c d : Cx F O P U W J A V) → b.parts.tasks ≡ a.parts.tasks → b.futures.items ≡ a.futures.items → AnswersNoMore gives b c → d.parts.tasks ≡ c.parts.tasks → d.futures.items ≡ c.futures.items → AnswersNoMore gives a d
  no_more_around a b c d before had turn after has = no_more_on a c d (no_more_on a b c (no_more_same a b before had) turn) (no_more_same c d after has)

  -- a task is made of this future
  module _ (c d : Cx F O P U W J A V) (future : F) (tasks : d.parts.tasks.tasks ≡ spawned c.parts.tasks.tasks) (items : d.futures.items ≡ c.futures.items ++ Some future ∷ []) where
    long : length d.futures.items ≡ length c.futures.items + 1
    long = ap length items ∙ length_push c.futures.items (Some future)

    pub no_more_spawned : AnswersNoMore gives c d
    no_more_spawned = record {
      grows = omega (arith, long);
      aligned = aligned_spawned c d future tasks items;
      answers = λ t x below may. elim may [
        | inl out ↦ inl (keeps_spawned c.parts.tasks.tasks t x (sym (ap (λ s. output_at s t) tasks) ∙ out))
        | inr held ↦ inr (held.0, sym (get_or_append_left c.futures.items (Some future ∷ []) None t below) ∙ sym (ap (λ v. value_at v t) items) ∙ held.1, held.2)
      ];
    }

    -- it may answer what the future gives
    module _ (t : ℕ) (at : t ≡ next_number c.parts.tasks.tasks.table) (aligned : IsAligned c) where
      here : t ≡ length c.futures.items
      here = at ∙ sym aligned

      pub inside_spawned : t < length d.futures.items
      inside_spawned = omega (arith, here, long)

      no_output : output_at d.parts.tasks.tasks t ≡ None
      no_output = ap (λ s. output_at s t) tasks ∙ ap (λ n. output_at (spawned c.parts.tasks.tasks) n) at ∙ ap output_in (output_next c.parts.tasks.tasks.table _)

      its_future : value_at d.futures.items t ≡ Some future
      its_future = ap (λ v. value_at v t) items ∙ get_or_push c.futures.items (Some future) None t (sym here)

      pub gives_spawned : (x : O) → MayAnswer gives d t x → gives future x
      gives_spawned x may = elim may [
        | inl out ↦ absurd (some_none (output_at d.parts.tasks.tasks t) x no_output out)
        | inr held ↦ subst (λ f. gives f x) (the_same (value_at d.futures.items t) held.0 future held.1 its_future) held.2
      ]

      -- and later no more than that
      pub given_later : (e : Cx F O P U W J A V) (x : O) → AnswersNoMore gives d e → output_at e.parts.tasks.tasks t ≡ Some x → gives future x
      given_later e x later out = gives_spawned x (later.answers t x inside_spawned (inl out))

module _ {F O P U W J A V : Type 0} (number : O → ℕ) (sharing : SharedOf W) where
  -- The turn of t has begun, and calls have led on.
  pub record IsUnderWay (t : ℕ) (c e : Cx F O P U W J A V) : Type 0 where
    pub grows : length c.futures.items ≤ length e.futures.items
    pub aligned : IsAligned c → IsAligned e
    pub turn : e.parts.tasks.turn ≡ Some t
    pub outputs : KeepsOutputs c.parts.tasks.tasks e.parts.tasks.tasks
    pub others : (q : ℕ) → q < length c.futures.items → q ≢ t → value_at e.futures.items q ≡ value_at c.futures.items q
    pub own : t < length c.futures.items → value_at e.futures.items t ≡ None

  begun_adds : (c d : Cx F O P U W J A V) (t : ℕ) (now : Instant) (acts : Record) → BeginsParts t now acts c.parts d.parts → AddsNone c.parts.tasks.tasks d.parts.tasks.tasks
  begun_adds c d t now acts b =
      let front = front_is c.parts.tasks.tasks.queue t b.front in
      let is : d.parts.tasks.tasks ≡ begun c.parts.tasks.tasks t front.0 = ap (λ x. x.tasks) b.tasks ∙ ap (λ q. (schedule.begun_by q c.parts.tasks).tasks) front.1 in
      subst (AddsNone c.parts.tasks.tasks) (sym is) (adds_begun c.parts.tasks.tasks t front.0)

  pub starts : (c b : Cx F O P U W J A V) (t : ℕ) (now : Instant) (acts : Record) → BeginsParts t now acts c.parts b.parts → b.futures.items ≡ slice_set c.futures.items t None → IsUnderWay t c b
  starts c b t now acts begins taken =
      let adds = begun_adds c b t now acts begins in
      let long : length b.futures.items ≡ length c.futures.items = ap length taken ∙ length-set c.futures.items t None in
      record {
        grows = omega (arith, long);
        aligned = λ h. long ∙ h ∙ sym adds.next;
        turn = begun_turn number c.parts b.parts t now acts begins;
        outputs = adds.outputs;
        others = λ q below apart. ap (λ v. value_at v q) taken ∙ get_or-set_other c.futures.items t q None None apart;
        own = λ below. ap (λ v. value_at v t) taken ∙ get_or-set_same c.futures.items t None None below;
      }

  pub goes_on : (c b e : Cx F O P U W J A V) (t : ℕ) → IsUnderWay t c b → ReachesSharing number sharing b e → IsUnderWay t c e
  goes_on c b e t way reached = record {
    grows = omega (arith, way.grows, reached.grows);
    aligned = λ h. reached.aligned (way.aligned h);
    turn = reached.parts.same_turn ∙ way.turn;
    outputs = λ q x is. way.outputs q x (reached.parts.outputs q x is);
    others = λ q below apart. reached.keeps q (omega (arith, below, way.grows)) ∙ way.others q below apart;
    own = λ below. reached.keeps t (omega (arith, below, way.grows)) ∙ way.own below;
  }

  -- what is owed is paid
  pub goes_paid : (c b e : Cx F O P U W J A V) (t : ℕ) → IsUnderWay t c b → PaysOwed number sharing b e → IsUnderWay t c e
  goes_paid c b e t way pays =
      let by = pays.paying in
      let items : e.futures.items ≡ b.futures.items = ap (λ f. f.items) by.same_futures in
      record {
        grows = omega (arith, way.grows, ap length items);
        aligned = λ h. ap length items ∙ way.aligned h ∙ sym by.same_next;
        turn = by.parts.same_turn ∙ way.turn;
        outputs = λ q x is. way.outputs q x (by.parts.outputs q x is);
        others = λ q below apart. ap (λ v. value_at v q) items ∙ way.others q below apart;
        own = λ below. ap (λ v. value_at v t) items ∙ way.own below;
      }

  module _ (gives : F → O → Type 0) where
    -- The future that is put back gives no more than the task might answer.
    pub pauses_on : (c e d : Cx F O P U W J A V) (t : ℕ) (left : Option F) (ended : Ended) → IsUnderWay t c e → ((g : F) → left ≡ Some g → (x : O) → gives g x → MayAnswer gives c t x) → Pauses t left ended e d → AnswersNoMore gives c d
    pauses_on c e d t left ended way less pauses =
        let is : d.parts.tasks.tasks ≡ schedule.tasks_after e.parts.tasks.tasks t Pending = ap (λ s. s.tasks) (pauses.parts.tasks ∙ after_poll e.parts.tasks t Pending way.turn) in
        let adds : AddsNone e.parts.tasks.tasks d.parts.tasks.tasks = subst (AddsNone e.parts.tasks.tasks) (sym is) (adds_paused (value_at e.parts.tasks.tasks.table t) e.parts.tasks.tasks t) in
        let long : length d.futures.items ≡ length e.futures.items = ap length pauses.futures ∙ length-set e.futures.items t left in
        record {
          grows = omega (arith, long, way.grows);
          aligned = λ h. long ∙ way.aligned h ∙ sym adds.next;
          answers = λ q x below may. elim may [
            | inl out ↦ inl (way.outputs q x (adds.outputs q x out))
            | inr held ↦ elim (cases_eq q t) [
              | inl same ↦
                  let here : t < length e.futures.items = omega (arith, below, way.grows, same) in
                  let put : left ≡ Some held.0 = sym (get_or-set_same e.futures.items t left None here) ∙ sym (ap (λ v. value_at v t) pauses.futures) ∙ ap (λ n. value_at d.futures.items n) (sym same) ∙ held.1 in
                  subst (λ n. MayAnswer gives c n x) (sym same) (less held.0 put x held.2)
              | inr apart ↦ inr (held.0, sym (way.others q below apart) ∙ sym (get_or-set_other e.futures.items t q left None apart) ∙ sym (ap (λ v. value_at v q) pauses.futures) ∙ held.1, held.2)
            ]
          ];
        }

    pub completes_on : (c e d : Cx F O P U W J A V) (t : ℕ) (output : O) (ended : Ended) → IsUnderWay t c e → MayAnswer gives c t output → Completes output ended e d → AnswersNoMore gives c d
    completes_on c e d t output ended way may_output completes =
        let is : d.parts.tasks.tasks ≡ schedule.tasks_after e.parts.tasks.tasks t (Ready output) = ap (λ s. s.tasks) (completes.parts.tasks ∙ after_poll e.parts.tasks t (Ready output) way.turn) in
        let next : next_number d.parts.tasks.tasks.table ≡ next_number e.parts.tasks.tasks.table = ap (λ s. next_number s.table) is ∙ next_completed (value_at e.parts.tasks.tasks.table t) e.parts.tasks.tasks t output in
        record {
          grows = omega (arith, ap length completes.futures, way.grows);
          aligned = λ h. ap length completes.futures ∙ way.aligned h ∙ sym next;
          answers = λ q x below may. elim may [
            | inl out ↦ elim (output_completed (value_at e.parts.tasks.tasks.table t) e.parts.tasks.tasks t q output x (sym (ap (λ s. output_at s q) is) ∙ out)) [
              | inl here ↦ subst (λ n. MayAnswer gives c n x) (sym here.0) (subst (MayAnswer gives c t) here.1 may_output)
              | inr before ↦ inl (way.outputs q x before)
            ]
            | inr held ↦ elim (cases_eq q t) [
              | inl same ↦ absurd (some_none (value_at e.futures.items t) held.0 (way.own (omega (arith, below, same))) (ap (λ n. value_at e.futures.items n) (sym same) ∙ sym (ap (λ v. value_at v q) completes.futures) ∙ held.1))
              | inr apart ↦ inr (held.0, sym (way.others q below apart) ∙ sym (ap (λ v. value_at v q) completes.futures) ∙ held.1, held.2)
            ]
          ];
        }

  module _ (future : FutureOf F (Cx F O P U W J A V) O) where
    ends_on : (c x d : Cx F O P U W J A V) (t : ℕ) (f g : F) (answer : Poll O) (ended : Ended) → value_at c.futures.items t ≡ Some f → IsUnderWay t c x → IfReady answer (future.gives f) → OnPending answer ((y : O) → future.gives g y → future.gives f y)
        → AfterPoll number sharing future answer t g ended x d → AnswersNoMore future.gives c d
    ends_on c x d t f g Pending ended had way given same (paid, (pays, pauses)) =
        pauses_on future.gives c paid d t (Some g) ended (goes_paid c x paid t way pays) (λ h put y h_gives. inr (f, had, same y (subst (λ k. future.gives k y) (sym (the_same (Some g) g h refl put)) h_gives))) pauses
    ends_on c x d t f g (Ready output) ended had way given same (e, cancels, on, (paid, (pays, completes))) =
        completes_on future.gives c paid d t output ended (goes_paid c e paid t (goes_on c x e t way on) pays) (inr (f, had, given)) completes

    spent_on : (s : Bool) (c b d : Cx F O P U W J A V) (t : ℕ) (f : F) (e : End) (ended : Ended) → value_at c.futures.items t ≡ Some f → IsUnderWay t c b → UnlessSpent number sharing future s t f e ended b d → AnswersNoMore future.gives c d
    spent_on true c b d t f e ended had way (is, (paid, (pays, pauses))) =
        pauses_on future.gives c paid d t (Some f) ended (goes_paid c b paid t way pays) (λ h put y h_gives. inr (f, had, subst (λ k. future.gives k y) (sym (the_same (Some f) f h refl put)) h_gives)) pauses
    spent_on false c b d t f e ended had way runs = ends_on c runs.middle d t f runs.left runs.answer ended had (goes_on c b runs.middle t way runs.reached) runs.given runs.same runs.rest

    runs_on : (taken : Option F) (c b d : Cx F O P U W J A V) (t : ℕ) (e : End) (ended : Ended) → value_at c.futures.items t ≡ taken → IsUnderWay t c b → Runs number sharing future taken t e ended b d → AnswersNoMore future.gives c d
    runs_on None c b d t e ended had way (is, (paid, (pays, pauses))) = pauses_on future.gives c paid d t None ended (goes_paid c b paid t way pays) (λ h put. absurd (some_none None h refl put)) pauses
    runs_on (Some f) c b d t e ended had way runs = spent_on (future.is_spent f) c b d t f e ended had way runs

    -- in a turn of any task
    pub no_more_in_turn : (c d : Cx F O P U W J A V) (t : ℕ) (now : Instant) (acts : Record) (e : End) (ended : Ended) → Turn number sharing future t now acts e ended c d → AnswersNoMore future.gives c d
    no_more_in_turn c d t now acts e ended turn =
        runs_on (value_at c.futures.items t) c turn.begun d t e ended refl (starts c turn.begun t now acts turn.begins.parts turn.begins.futures) turn.runs
