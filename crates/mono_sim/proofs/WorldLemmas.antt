-- How runtimes go on along the steps of a world.
use Rattle.std.proofs.Common.{◌≡◌, ◌<◌, ◌≤◌, ◌+◌, ◌-◌, ◌^◌, ℕ, zero, suc, Bool, true, false, List, [], ◌∷◌, ◌++◌, get_or, Some, None, Ok, Err, refl, ap, sym, subst, ◌∙◌, arith}
use Rattle.std.specs.Prelude.{⊤, length, min, slice_get, slice_set, Result, IfOk, OnErr}
use Rattle.std.specs.List.{All, AllZip}
use Rattle.std.proofs.lemmas.List.{length_push, length-set}
use Rattle.std.proofs.lemmas.List.Elements.{All-nil, All-push, All-set, All-take}
use Rattle.mono_task.specs.Members.{FutureOf, SharedOf}
use Rattle.mono_driver.specs.declared.clock.Clock
use Rattle.mono_rt.specs.Views.{Rests, CanRun}
use Rattle.mono_rt.specs.declared.contexts.Cx.{Cx}
use Rattle.mono_rt.specs.declared.runtimes.Runtime.{Runtime}
use Rattle.mono_rt.specs.declared.parts.errors.RunError.{RunError}
use Rattle.mono_rt.specs.declared.parts.errors.RunError.TheVariants as error
use Rattle.mono_model.specs.Random.{drawn_below}
use Rattle.mono_sim.specs.declared.nodes.Node.{Node}
use Rattle.mono_sim.specs.declared.worlds.World.{World}
use Rattle.mono_sim.specs.declared.schedules.Draw.{Draw}
use Rattle.mono_sim.specs.declared.steps.Step.{Step}
use Rattle.mono_sim.specs.declared.steps.Step.TheVariants as step
use Rattle.mono_sim.specs.declared.steps.End.{End}
use Rattle.mono_sim.specs.declared.steps.End.TheVariants as end
use Rattle.mono_sim.specs.Endings.{end_of}
use Rattle.mono_sim.specs.Plans.{Plan, added, place_in, number_in, after_place, draw_of, after_drawing, after_run}
use Rattle.mono_sim.specs.Worlds.{IsSound, IsStuck, all_finished, Begins, RunsAt, Steps, Chain, RunsFor, EndsAt, EachGoesOn, HasRun, time_after}
use Rattle.mono_sim.specs.Courses.{RunsOnce, Runs}
use Rattle.mono_sim.specs.Nodes.{GoesOn}

module _ {X : Type 0} where
  none-some : (x : X) → None ≡ Some x → ⊥
  none-some x e = cc

  some-is : (x y : X) → Some x ≡ Some y → x ≡ y
  some-is x y e = cc

  module _ (R : X → X → Type 0) where
    pub zip_itself : ((x : X) → R x x) → (xs : List X) → AllZip R xs xs
    zip_itself r [] = tt
    zip_itself r (x ∷ xs) = (r x, zip_itself r xs)

    pub zip_on : ((a b c : X) → R a b → R b c → R a c) → (xs ys zs : List X) → AllZip R xs ys → AllZip R ys zs → AllZip R xs zs
    zip_on t [] [] [] p q = tt
    zip_on t [] [] (z ∷ zs) p q = absurd q
    zip_on t [] (y ∷ ys) zs p q = absurd p
    zip_on t (x ∷ xs) [] zs p q = absurd p
    zip_on t (x ∷ xs) (y ∷ ys) [] p q = absurd q
    zip_on t (x ∷ xs) (y ∷ ys) (z ∷ zs) p q = (t x y z p.0 q.0, zip_on t xs ys zs p.1 q.1)

    pub zip_set : ((x : X) → R x x) → (xs : List X) (i : ℕ) (x y : X) → slice_get xs i ≡ Some x → R x y → AllZip R xs (slice_set xs i y)
    zip_set r [] i x y is one = absurd (none-some x is)
    zip_set r (a ∷ xs) zero x y is one = (subst (λ z. R z y) (sym (some-is a x is)) one, zip_itself r xs)
    zip_set r (a ∷ xs) (suc i) x y is one = (r a, zip_set r xs i x y is one)

next_number : (n : ℕ) → suc n ≡ n + 1
next_number n = omega arith

no_earlier : (a b c : ℕ) → a ≤ b → b ≤ c → a ≤ c
no_earlier a b c p q = omega (arith, p, q)

same_number : (n m : ℕ) → n ≤ m → m ≤ n → n ≡ m
same_number n m p q = omega (arith, p, q)

module _ {F O D P W U J A V : Type 0} (number : O → ℕ) (sharing : SharedOf W) (clock : Clock.Ghosts D) (future : FutureOf F (Cx F O P U W J A V) O) where
  runs_on : (main n m : ℕ) (a b c : Runtime F O D P W U J A V) → Runs number sharing clock future main n a b → Runs number sharing clock future main m b c → (k : ℕ) × Runs number sharing clock future main k a c
  runs_on main n zero a b c p q = (n, subst (λ x. Runs number sharing clock future main n a x) (sym q) p)
  runs_on main n (suc m) a b c p (mid, (q, last)) = let more = runs_on main n m a b mid p q in (suc more.0, (mid, (more.1, last)))

  pub goes_nowhere : (a : Node F O D P W U J A V) → GoesOn number sharing clock future a a
  goes_nowhere a = record { main = refl; calls = 0; runs = refl }

  pub goes_on : (a b c : Node F O D P W U J A V) → GoesOn number sharing clock future a b → GoesOn number sharing clock future b c → GoesOn number sharing clock future a c
  goes_on a b c p q =
      let more = runs_on a.main p.calls q.calls a.runtime b.runtime c.runtime p.runs (subst (λ m. Runs number sharing clock future m q.calls b.runtime c.runtime) p.main q.runs) in
      record { main = q.main ∙ p.main; calls = more.0; runs = more.1 }

  pub goes_once : (a b : Node F O D P W U J A V) (n : ℕ) (answer : Result ⊤ RunError) → 0 < n → b.main ≡ a.main → RunsOnce number sharing clock future a.main n answer a.runtime b.runtime → GoesOn number sharing clock future a b
  goes_once a b n answer some same once = record { main = same; calls = 1; runs = (a.runtime, (refl, record { budget = n; some = some; answer = answer; once = once })) }

  pub each_same : (old new : World F O D P W U J A V) → new.nodes.items ≡ old.nodes.items → EachGoesOn number sharing clock future old new
  each_same old new same = subst (λ ns. AllZip (GoesOn number sharing clock future) old.nodes.items ns) (sym same) (zip_itself (GoesOn number sharing clock future) goes_nowhere old.nodes.items)

  pub each_on : (a b c : World F O D P W U J A V) → EachGoesOn number sharing clock future a b → EachGoesOn number sharing clock future b c → EachGoesOn number sharing clock future a c
  each_on a b c p q = zip_on (GoesOn number sharing clock future) goes_on a.nodes.items b.nodes.items c.nodes.items p q

  -- one runtime ran
  pub each_ran : (old left new : World F O D P W U J A V) (i n : ℕ) (answer : Result ⊤ RunError) (turned : Bool) → 0 < n → new.nodes.items ≡ left.nodes.items → RunsAt number sharing clock future i n answer turned old left → EachGoesOn number sharing clock future old new
  each_ran old left new i n answer turned some same ran =
      subst (λ ns. AllZip (GoesOn number sharing clock future) old.nodes.items ns) (sym (same ∙ ran.nodes))
      (zip_set (GoesOn number sharing clock future) goes_nowhere old.nodes.items i ran.before ran.after ran.found (goes_once ran.before ran.after n answer some ran.main ran.ran))

  -- a step between two rounds
  begun_same : (did : Step) (old new : World F O D P W U J A V) → Begins number did old new → new.nodes.items ≡ old.nodes.items
  begun_same (step.Ran i answer) old new b = absurd b
  begun_same (step.Stood i) old new b = absurd b
  begun_same step.Round old new (u, g) = ap (λ w. w.nodes.items) g.round
  begun_same step.Moved old new (u, m) = ap (λ w. w.nodes.items) m.moved
  begun_same step.Over old new (u, is) = ap (λ w. w.nodes.items) is
  begun_same step.Stuck old new (u, s, is) = ap (λ w. w.nodes.items) is

  pub each_begun : {E : Type 0} (r : Result Step E) (old new : World F O D P W U J A V) → IfOk r (λ did. Begins number did old new) → OnErr r (new ≡ old) → EachGoesOn number sharing clock future old new
  each_begun (Ok did) old new begins refused = each_same old new (begun_same did old new begins)
  each_begun (Err e) old new begins refused = each_same old new (ap (λ w. w.nodes.items) refused)

  -- the drawn runtime ran
  pub drawn_ran : (old left : World F O D P W U J A V) (drawn : Draw) (plan : Plan) (time : ℕ) (answer : Result ⊤ RunError) (turned : Bool) → drawn ≡ draw_of old.schedule → plan ≡ after_drawing old.schedule → time ≡ min (old.time + drawn.jump) (2 ^ 64 - 1)
      → RunsAt number sharing clock future drawn.number drawn.turns answer turned (record old { time = time; schedule = plan }) left
      → RunsAt number sharing clock future drawn.number (draw_of old.schedule).turns answer turned (record old { time = time_after old; schedule = after_drawing old.schedule }) left
  drawn_ran old left drawn plan time answer turned is planned later ran = record {
    before = ran.before;
    after = ran.after;
    found = ran.found;
    main = ran.main;
    ran = subst (λ d. RunsOnce number sharing clock future ran.before.main d.turns answer ran.before.runtime ran.after.runtime) is ran.ran;
    turns = ran.turns;
    nodes = ran.nodes;
    plan = ran.plan ∙ planned;
    time = ran.time ∙ later ∙ ap (λ d. min (old.time + d.jump) (2 ^ 64 - 1)) is;
  }

  -- a run that made no step, or one more
  pub ran_none : (steps : ℕ) (world : World F O D P W U J A V) → IsSound future world → HasRun number sharing clock future 0 steps world world
  ran_none steps world sound = record { sound = sound; chain = refl; time = omega arith; runs = each_same world world refl; within = omega arith }

  pub ran_more : (n steps : ℕ) (old mid new : World F O D P W U J A V) (did : Step) → n < steps → HasRun number sharing clock future n steps old mid → IsSound future new → Steps number sharing clock future did mid new → mid.time ≤ new.time → EachGoesOn number sharing clock future mid new → HasRun number sharing clock future (n + 1) steps old new
  ran_more n steps old mid new did less before sound step time runs = record {
    sound = sound;
    chain = subst (λ k. Chain number sharing clock future k old new) (next_number n) (mid, (did, (before.chain, step)));
    time = no_earlier old.time mid.time new.time before.time time;
    runs = each_on old mid new before.runs runs;
    within = omega (arith, less);
  }

  pub ran_all : (n steps : ℕ) (old new : World F O D P W U J A V) → steps ≤ n → HasRun number sharing clock future n steps old new → Chain number sharing clock future steps old new
  ran_all n steps old new past ran = subst (λ k. Chain number sharing clock future k old new) (same_number n steps ran.within past) ran.chain

  -- a run that ended
  pub ended : (n steps : ℕ) (old mid new : World F O D P W U J A V) (did : Step) (how : End) → n < steps → HasRun number sharing clock future n steps old mid → Steps number sharing clock future did mid new → end_of did ≡ Some how → RunsFor number sharing clock future steps how old new × EndsAt number how new
  ended n steps old mid new (step.Ran i answer) how less before s is = absurd (none-some how is)
  ended n steps old mid new (step.Stood i) how less before s is = absurd (none-some how is)
  ended n steps old mid new step.Round how less before s is = absurd (none-some how is)
  ended n steps old mid new step.Moved how less before s is = absurd (none-some how is)
  ended n steps old mid new step.Over how less before (over, (done, same)) is =
      subst (λ x. RunsFor number sharing clock future steps x old new × EndsAt number x new) (some-is end.Over how is)
      ((n, (less, subst (λ w. Chain number sharing clock future n old w) (sym same) before.chain)), subst (λ w. all_finished w ≡ true) (sym same) done)
  ended n steps old mid new step.Stuck how less before (over, (unfinished, stuck, same)) is =
      subst (λ x. RunsFor number sharing clock future steps x old new × EndsAt number x new) (some-is end.Stuck how is)
      ((n, (less, subst (λ w. Chain number sharing clock future n old w) (sym same) before.chain)), subst (λ w. (all_finished w ≡ false) × IsStuck number w) (sym same) (unfinished, stuck))

one_of : (n : ℕ) → 0 < n + 1
one_of n = omega arith

-- a budget that is drawn is above 0
pub some_drawn : (drawn : Draw) (plan : Plan) → drawn ≡ draw_of plan → 0 < drawn.turns
some_drawn drawn plan is = subst (λ d. 0 < d.turns) (sym is) (one_of (drawn_below (after_place plan) plan.odds.turns))

pub found_at : {X : Type 0} (xs : List X) (i : ℕ) (x : X) → i < length xs → x ≡ get_or xs i x → slice_get xs i ≡ Some x
found_at [] i x less is = let no : ⊥ = omega arith in absurd no
found_at (y ∷ ys) zero x less is = ap Some (sym is)
found_at (y ∷ ys) (suc i) x less is = found_at ys i x (omega arith) is

more_below : (n m : ℕ) → n ≤ m → (xs : List ℕ) → All (λ i. i < n) xs → All (λ i. i < m) xs
more_below n m le xs all k d lt = let below = all k d lt in omega (arith, le, below)

last_below : (n : ℕ) → 0 < n → n - 1 < n
last_below n some = omega (arith, some)

above : (i n : ℕ) → i < n → 0 < n
above i n less = omega (arith, less)

-- the numbers of a plan, after a draw
pub waiting_drawn : (n : ℕ) (plan : Plan) → place_in plan < length plan.waiting → All (λ i. i < n) plan.waiting → All (λ i. i < n) (after_drawing plan).waiting
waiting_drawn n plan less all =
    All-take (λ i. i < n) (length plan.waiting - 1) _ (All-set (λ i. i < n) plan.waiting (place_in plan) _ (all (length plan.waiting - 1) 0 (last_below (length plan.waiting) (above (place_in plan) (length plan.waiting) less))) all)

pub served_drawn : (n : ℕ) (plan : Plan) → place_in plan < length plan.waiting → All (λ i. i < n) plan.waiting → All (λ i. i < n) plan.served → All (λ i. i < n) (after_drawing plan).served
served_drawn n plan less all served = All-push (λ i. i < n) plan.served (number_in plan) served (all (place_in plan) 0 less)

pub number_drawn : (n : ℕ) (plan : Plan) (drawn : Draw) → drawn ≡ draw_of plan → place_in plan < length plan.waiting → All (λ i. i < n) plan.waiting → drawn.number < n
number_drawn n plan drawn is less all = subst (λ d. d.number < n) (sym is) (all (place_in plan) 0 less)

-- the numbers of a plan, after an answer
waiting_noted : (n : ℕ) (answer : Result ⊤ RunError) (turned : Bool) (plan : Plan) → All (λ i. i < n) plan.waiting → All (λ i. i < n) (after_run answer turned plan).waiting
waiting_noted n (Ok x) turned plan all = all
waiting_noted n (Err error.Turns) turned plan all = all
waiting_noted n (Err error.Driver) turned plan all = all
waiting_noted n (Err error.AtCapacity) turned plan all = all
waiting_noted n (Err error.Memory) turned plan all = all

served_noted : (n : ℕ) (answer : Result ⊤ RunError) (turned : Bool) (plan : Plan) → All (λ i. i < n) plan.served → All (λ i. i < n) (after_run answer turned plan).served
served_noted n (Ok x) turned plan all = All-take (λ i. i < n) (length plan.served - 1) plan.served all
served_noted n (Err error.Turns) turned plan all = all
served_noted n (Err error.Driver) turned plan all = all
served_noted n (Err error.AtCapacity) turned plan all = all
served_noted n (Err error.Memory) turned plan all = all

module _ {F O D P W U J A V : Type 0} (future : FutureOf F (Cx F O P U W J A V) O) where
  -- a world without runtimes
  pub sound_new : (world : World F O D P W U J A V) → world.nodes.items ≡ [] → world.schedule.waiting ≡ [] → world.schedule.served ≡ [] → IsSound future world
  sound_new world nodes waiting served = record {
    rest = subst (All (λ node. Rests node.runtime)) (sym nodes) (All-nil (λ node. Rests node.runtime));
    run = subst (All (λ node. CanRun future node.runtime)) (sym nodes) (All-nil (λ node. CanRun future node.runtime));
    waiting = subst (All (λ i. i < length world.nodes.items)) (sym waiting) (All-nil (λ i. i < length world.nodes.items));
    served = subst (All (λ i. i < length world.nodes.items)) (sym served) (All-nil (λ i. i < length world.nodes.items));
  }

  -- the same runtimes, and numbers of some of them
  pub sound_same : (old new : World F O D P W U J A V) → new.nodes.items ≡ old.nodes.items → All (λ i. i < length old.nodes.items) new.schedule.waiting → All (λ i. i < length old.nodes.items) new.schedule.served → IsSound future old → IsSound future new
  sound_same old new nodes waiting served is = record {
    rest = subst (All (λ node. Rests node.runtime)) (sym nodes) is.rest;
    run = subst (All (λ node. CanRun future node.runtime)) (sym nodes) is.run;
    waiting = subst (λ ns. All (λ i. i < length ns) new.schedule.waiting) (sym nodes) waiting;
    served = subst (λ ns. All (λ i. i < length ns) new.schedule.served) (sym nodes) served;
  }

  -- the same runtimes and schedule
  pub sound_still : (old new : World F O D P W U J A V) → new.nodes.items ≡ old.nodes.items → new.schedule ≡ old.schedule → IsSound future old → IsSound future new
  sound_still old new nodes plan is = sound_same old new nodes
      (subst (λ p. All (λ i. i < length old.nodes.items) p.waiting) (sym plan) is.waiting)
      (subst (λ p. All (λ i. i < length old.nodes.items) p.served) (sym plan) is.served) is

  -- one more runtime
  pub sound_added : (old new : World F O D P W U J A V) (node : Node F O D P W U J A V) → Rests node.runtime → CanRun future node.runtime → new.nodes.items ≡ old.nodes.items ++ node ∷ [] → new.schedule ≡ added (length old.nodes.items) old.schedule → IsSound future old → IsSound future new
  sound_added old new node rests run nodes plan is =
      let longer : length new.nodes.items ≡ length old.nodes.items + 1 = ap length nodes ∙ length_push old.nodes.items node in
      let waiting = All-push (λ i. i < length new.nodes.items) old.schedule.waiting (length old.nodes.items)
      (more_below (length old.nodes.items) (length new.nodes.items) (omega (arith, longer)) old.schedule.waiting is.waiting) (omega (arith, longer)) in
      record {
        rest = subst (All (λ n. Rests n.runtime)) (sym nodes) (All-push (λ n. Rests n.runtime) old.nodes.items node is.rest rests);
        run = subst (All (λ n. CanRun future n.runtime)) (sym nodes) (All-push (λ n. CanRun future n.runtime) old.nodes.items node is.run run);
        waiting = subst (λ p. All (λ i. i < length new.nodes.items) p.waiting) (sym plan) waiting;
        served = subst (λ p. All (λ i. i < length new.nodes.items) p.served) (sym plan) (more_below (length old.nodes.items) (length new.nodes.items) (omega (arith, longer)) old.schedule.served is.served);
      }

  -- one runtime went on
  pub sound_set : (old new : World F O D P W U J A V) (i : ℕ) (node : Node F O D P W U J A V) → Rests node.runtime → CanRun future node.runtime → new.nodes.items ≡ slice_set old.nodes.items i node → new.schedule ≡ old.schedule → IsSound future old → IsSound future new
  sound_set old new i node rests run nodes plan is =
      let same : length new.nodes.items ≡ length old.nodes.items = ap length nodes ∙ length-set old.nodes.items i node in
      record {
        rest = subst (All (λ n. Rests n.runtime)) (sym nodes) (All-set (λ n. Rests n.runtime) old.nodes.items i node rests is.rest);
        run = subst (All (λ n. CanRun future n.runtime)) (sym nodes) (All-set (λ n. CanRun future n.runtime) old.nodes.items i node run is.run);
        waiting = subst (λ p. All (λ i. i < length new.nodes.items) p.waiting) (sym plan) (subst (λ n. All (λ i. i < n) old.schedule.waiting) (sym same) is.waiting);
        served = subst (λ p. All (λ i. i < length new.nodes.items) p.served) (sym plan) (subst (λ n. All (λ i. i < n) old.schedule.served) (sym same) is.served);
      }

  -- a step was drawn
  pub sound_drawn : (old new : World F O D P W U J A V) → place_in old.schedule < length old.schedule.waiting → new.nodes.items ≡ old.nodes.items → new.schedule.waiting ≡ (after_drawing old.schedule).waiting → new.schedule.served ≡ (after_drawing old.schedule).served → IsSound future old → IsSound future new
  sound_drawn old new less nodes waiting served is = sound_same old new nodes
      (subst (All (λ i. i < length old.nodes.items)) (sym waiting) (waiting_drawn (length old.nodes.items) old.schedule less is.waiting))
      (subst (All (λ i. i < length old.nodes.items)) (sym served) (served_drawn (length old.nodes.items) old.schedule less is.waiting is.served)) is

  -- an answer was noted
  pub sound_noted : (old new : World F O D P W U J A V) (answer : Result ⊤ RunError) (turned : Bool) → new.nodes.items ≡ old.nodes.items → new.schedule ≡ after_run answer turned old.schedule → IsSound future old → IsSound future new
  sound_noted old new answer turned nodes plan is = sound_same old new nodes
      (subst (λ p. All (λ i. i < length old.nodes.items) p.waiting) (sym plan) (waiting_noted (length old.nodes.items) answer turned old.schedule is.waiting))
      (subst (λ p. All (λ i. i < length old.nodes.items) p.served) (sym plan) (served_noted (length old.nodes.items) answer turned old.schedule is.served)) is
