-- No turn without a cause.
use Rattle.std.proofs.Common.{◌≡◌, ◌≢◌, ◌<◌, inl, inr, ℕ, true, false, Bool, cond, List, [], ◌∷◌, ◌++◌, length, set, Some, None, Option, refl, ap, sym, subst, ◌∙◌, arith, eq-eqb}
use Rattle.std.specs.Prelude.{IfSome, not, ◌==◌, ◌&&◌, ◌||◌, Ok, Err, nat_lt}
use Rattle.mono_model.specs.Ticks.{max_nanos, up}
use Rattle.std.proofs.lemmas.Bool.{cases_eq, cases_lt}
use Rattle.std.proofs.lemmas.Bool.Decides.{eqb_tells}
use Rattle.std.proofs.lemmas.List.{get_or-set_other, get_or-set_same, get_or_past, length-set}
use Rattle.mono_model.specs.Table.{Table, value_at, next_number, is_full, is_issued, with_value}
use Rattle.mono_model.specs.Tasks.{Tasks, Task, Phase, idle, queued, running, done, taken, is_noted, is_finished, in_phase, with_task, without_task, queued_last, spawned, woke, woke_in, woke_value, woken, woken_in, woken_value, woken_if_any, all_woken, begun, begun_value, paused_value, completed_value}
use Rattle.mono_model.specs.Joins.{wake_answer, kept_value, dropped_in, dropped_value, join_dropped, joined_in, joined_value, joined}
use Rattle.mono_model.specs.Inbox.{is_waiting, with_waiting}
use Rattle.mono_model.specs.Sleeps.{Sleep, elapsed, after_arming, woken_by_arming}
use Rattle.mono_model.specs.Valid.{AreValidTasks, IsValidTask, of_task, is_queued, is_running, is_unfinished}
use Rattle.mono_model.specs.declared.task_error.TaskError.TheVariants.{NoTask, NoHandle}
use Rattle.mono_model.proofs.ValidTaskLemmas.{value_before, value_last}
use Rattle.mono_machine.specs.Machine.{Machine, with_tasks, with_sleeps, with_inbox, IsValid, IsValidDuring}
use Rattle.mono_machine.specs.Acts.{Outcome, for_sleep, reset, answered, refused, act_outcome, query_outcome, step_outcome, block}
use Rattle.mono_machine.specs.JoinCalls.{wake_reply}
use Rattle.mono_machine.specs.Turns.{replies_of, after_steps, after_end, after_begin, turn_report_for, after_turn_for}
use Rattle.mono_machine.specs.Steps.{Step, ClockStep, Run, has_finished, after_fires, after_fire, at_clock, remote_report, after_remote, after_drain}
use Rattle.mono_model.specs.SleepActs as sleep
use Rattle.mono_model.specs.SleepAnswers.{waker_in}
use Rattle.mono_machine.specs.History.{waiter_at, woken_by_end, woken_by_turn, is_turn_of, has_turn_of, is_awaiting, says_woken, wakes_by_act, wakes_by_step, wakes_by_steps, begun_machine, is_waker, has_effect, wakes_by_fires, is_listed, act_tells, turn_tells, clock_tells, drain_tells, tells_wake}
use Rattle.mono_machine.specs.declared.events.Act.{Act}
use Rattle.mono_machine.specs.declared.events.Act.TheVariants as act
use Rattle.mono_machine.specs.declared.events.Query.{Query}
use Rattle.mono_machine.specs.declared.events.Query.TheVariants as query
use Rattle.mono_machine.specs.declared.events.TurnStep.{TurnStep}
use Rattle.mono_machine.specs.declared.events.TurnStep.TheVariants as step
use Rattle.mono_machine.specs.declared.events.End.{End}
use Rattle.mono_machine.specs.declared.events.End.TheVariants as end
use Rattle.mono_machine.specs.declared.events.Event.{Event}
use Rattle.mono_machine.specs.declared.events.Event.TheVariants as event
use Rattle.mono_machine.specs.declared.events.Reply.{Reply}
use Rattle.mono_machine.specs.declared.events.Reply.TheVariants as reply
use Rattle.mono_machine.specs.declared.events.Refusal.TheVariants as refusal
use Rattle.mono_machine.specs.declared.events.Report.{Report}
use Rattle.mono_machine.specs.declared.events.Report.TheVariants as report
use Rattle.mono_machine.specs.declared.events.Blocking.{Blocking}
use Rattle.mono_machine.specs.declared.events.Blocking.TheVariants as blocking
use Rattle.mono_machine.proofs.ValidStepLemmas.{begin_valid, steps_valid, step_is_valid}
use Rattle.mono_machine.specs.Causes.{is_made, is_made_in, tells_spawn, is_cause, RunWithoutCause}
use Rattle.mono_machine.proofs.FinishedSetLemmas.{front_is_queued}
use Rattle.std.proofs.lemmas.Bool.{lt-ltb}

-- queued, or noted while it runs
abbrev stirred : Phase ℕ → Bool
stirred idle = false
stirred queued = true
stirred (running noted) = noted
stirred (done output) = false
stirred taken = false

abbrev Calm : ℕ → Tasks ℕ → Type 0
Calm t tasks = of_task stirred (value_at tasks.table t) ≡ false

true-false : true ≡ false → ⊥
true-false e = cc

false-true : false ≡ true → ⊥
false-true e = cc

none-some : {X : Type 0} (x : X) → None ≡ Some x → ⊥
none-some x e = cc

or_no_left : (a b : Bool) → (a || b) ≡ false → a ≡ false
or_no_left true b e = e
or_no_left false b e = refl

or_no_right : (a b : Bool) → (a || b) ≡ false → b ≡ false
or_no_right true b e = absurd (true-false e)
or_no_right false b e = e

apart_of : (u t : ℕ) → (u == t) ≡ false → t ≢ u
apart_of u t e = λ same. true-false (sym (eq-eqb u t (sym same)) ∙ e)

set_calm : (table : Table (Task ℕ)) (u : ℕ) (new : Option (Task ℕ)) → of_task stirred new ≡ false → (t : ℕ) → of_task stirred (value_at table t) ≡ false → of_task stirred (value_at (set table u new) t) ≡ false
set_calm table u new is t calm = elim (cases_eq t u) [
  | inl here ↦ elim (cases_lt u (length table)) [
    | inl inside ↦ ap (λ x. of_task stirred (value_at (set table u new) x)) here ∙ ap (of_task stirred) (get_or-set_same table u new None inside) ∙ is
    | inr past ↦ ap (of_task stirred) (get_or_past (set table u new) t None (omega (arith, past, here, length-set table u new)))
  ]
  | inr apart ↦ ap (of_task stirred) (get_or-set_other table u t new None apart) ∙ calm
]

-- a task whose phase stays as it was
set_same : (table : Table (Task ℕ)) (u : ℕ) (task new : Task ℕ) → value_at table u ≡ Some task → new.phase ≡ task.phase → (t : ℕ) → of_task stirred (value_at table t) ≡ false → of_task stirred (value_at (set table u (Some new)) t) ≡ false
set_same table u task new at same t calm = elim (cases_eq t u) [
  | inl here ↦ set_calm table u (Some new) (ap stirred same ∙ ap (of_task stirred) (sym at) ∙ ap (λ x. of_task stirred (value_at table x)) (sym here) ∙ calm) t calm
  | inr apart ↦ ap (of_task stirred) (get_or-set_other table u t (Some new) None apart) ∙ calm
]

other_calm : (table : Table (Task ℕ)) (u : ℕ) (new : Option (Task ℕ)) (t : ℕ) → t ≢ u → of_task stirred (value_at table t) ≡ false → of_task stirred (value_at (set table u new) t) ≡ false
other_calm table u new t apart calm = ap (of_task stirred) (get_or-set_other table u t new None apart) ∙ calm

-- a wake of another task
woken_calm : (tasks : Tasks ℕ) (u t : ℕ) → t ≢ u → Calm t tasks → Calm t (woken tasks u)
woken_calm tasks u t apart calm = by_value (value_at tasks.table u)
  where
    by_phase : (task : Task ℕ) (phase : Phase ℕ) → Calm t (woken_in phase tasks u task)
    by_phase task idle = other_calm tasks.table u _ t apart calm
    by_phase task queued = calm
    by_phase task (running noted) = other_calm tasks.table u _ t apart calm
    by_phase task (done output) = calm
    by_phase task taken = calm

    by_value : (v : Option (Task ℕ)) → Calm t (woken_value v tasks u)
    by_value None = calm
    by_value (Some task) = by_phase task task.phase

waker_calm : (tasks : Tasks ℕ) (w : Option ℕ) (t : ℕ) → is_waker w t ≡ false → Calm t tasks → Calm t (woken_if_any tasks w)
waker_calm tasks None t is calm = calm
waker_calm tasks (Some u) t is calm = woken_calm tasks u t (apart_of u t is) calm

all_calm : (us : List ℕ) (tasks : Tasks ℕ) (t : ℕ) → is_waiting us t ≡ false → Calm t tasks → Calm t (all_woken tasks us)
all_calm [] tasks t is calm = calm
all_calm (u ∷ us) tasks t is calm = all_calm us (woken tasks u) t (or_no_right (u == t) _ is) (woken_calm tasks u t (apart_of u t (or_no_left (u == t) _ is)) calm)

-- a wake of the task itself that neither queued nor noted it
own_wake_calm : (tasks : Tasks ℕ) (t : ℕ) → says_woken (wake_reply (wake_answer tasks t)) ≡ false → Calm t tasks → Calm t (woken tasks t)
own_wake_calm tasks t told calm = by_value (value_at tasks.table t) refl
  where
    issued : (task : Task ℕ) → value_at tasks.table t ≡ Some task → is_issued tasks.table t ≡ true
    issued task at = elim (cases_lt t (length tasks.table)) [
      | inl inside ↦ lt-ltb t (length tasks.table) inside
      | inr past ↦ absurd (none-some task (sym (get_or_past tasks.table t None past) ∙ at))
    ]

    by_phase : (task : Task ℕ) → value_at tasks.table t ≡ Some task → (phase : Phase ℕ) → task.phase ≡ phase → has_effect (woke_in phase) ≡ false → Calm t (woken_in phase tasks t task)
    by_phase task at idle is none = absurd (true-false none)
    by_phase task at queued is none = calm
    by_phase task at (running noted) is none = absurd (true-false none)
    by_phase task at (done output) is none = calm
    by_phase task at taken is none = calm

    by_value : (v : Option (Task ℕ)) → value_at tasks.table t ≡ v → Calm t (woken_value v tasks t)
    by_value None at = calm
    by_value (Some task) at =
        by_phase task at task.phase refl (sym (ap (λ v. has_effect (woke_value v)) at)
        ∙ sym (ap (λ b. says_woken (wake_reply (cond b (Ok (woke tasks t)) (Err NoTask)))) (issued task at)) ∙ told)

-- the handle
module _ (tasks : Tasks ℕ) (u t : ℕ) (calm : Calm t tasks) where
  dropped_phase : (task : Task ℕ) → value_at tasks.table u ≡ Some task → (phase : Phase ℕ) → task.phase ≡ phase → Calm t (dropped_in phase tasks u)
  dropped_phase task at idle is = set_same tasks.table u task _ at (sym is) t calm
  dropped_phase task at queued is = set_same tasks.table u task _ at (sym is) t calm
  dropped_phase task at (running noted) is = set_same tasks.table u task _ at (sym is) t calm
  dropped_phase task at (done output) is = set_calm tasks.table u None refl t calm
  dropped_phase task at taken is = set_calm tasks.table u None refl t calm

  joined_phase : (by : ℕ) (task : Task ℕ) → value_at tasks.table u ≡ Some task → (phase : Phase ℕ) → task.phase ≡ phase → Calm t (joined_in phase tasks u by)
  joined_phase by task at idle is = set_same tasks.table u task _ at (sym is) t calm
  joined_phase by task at queued is = set_same tasks.table u task _ at (sym is) t calm
  joined_phase by task at (running noted) is = set_same tasks.table u task _ at (sym is) t calm
  joined_phase by task at (done output) is = set_calm tasks.table u _ refl t calm
  joined_phase by task at taken is = calm

  dropped_kept : (task : Task ℕ) → value_at tasks.table u ≡ Some task → (k : Bool) → Calm t (dropped_value (cond k (Ok task) (Err NoHandle)) tasks u)
  dropped_kept task at true = dropped_phase task at task.phase refl
  dropped_kept task at false = calm

  joined_kept : (by : ℕ) (task : Task ℕ) → value_at tasks.table u ≡ Some task → (k : Bool) → Calm t (joined_value (cond k (Ok task) (Err NoHandle)) tasks u by)
  joined_kept by task at true = joined_phase by task at task.phase refl
  joined_kept by task at false = calm

  dropped_by : (b : Bool) (v : Option (Task ℕ)) → value_at tasks.table u ≡ v → Calm t (dropped_value (cond b (kept_value v) (Err NoTask)) tasks u)
  dropped_by true None at = calm
  dropped_by true (Some task) at = dropped_kept task at task.is_kept
  dropped_by false v at = calm

  joined_by : (by : ℕ) (b : Bool) (v : Option (Task ℕ)) → value_at tasks.table u ≡ v → Calm t (joined_value (cond b (kept_value v) (Err NoTask)) tasks u by)
  joined_by by true None at = calm
  joined_by by true (Some task) at = joined_kept by task at task.is_kept
  joined_by by false v at = calm

  dropped_calm : Calm t (join_dropped tasks u)
  dropped_calm = dropped_by (is_issued tasks.table u) (value_at tasks.table u) refl

  joined_calm : (by : ℕ) → Calm t (joined tasks u by)
  joined_calm by = joined_by by (is_issued tasks.table u) (value_at tasks.table u) refl

-- the acts
by_test : (t : ℕ) (b : Bool) (x y : Outcome) → Calm t x.machine.tasks → Calm t y.machine.tasks → Calm t (cond b x y).machine.tasks
by_test t true x y at_true at_false = at_true
by_test t false x y at_true at_false = at_false

module _ (t : ℕ) (m : Machine) (calm : Calm t m.tasks) where
  spawn_calm : (b : Bool) → is_made t (cond b (refused refusal.AtCapacity m) (answered (reply.Task (next_number m.tasks.table)) (with_tasks m (spawned m.tasks)))).reply ≡ false
      → Calm t (cond b (refused refusal.AtCapacity m) (answered (reply.Task (next_number m.tasks.table)) (with_tasks m (spawned m.tasks)))).machine.tasks
  spawn_calm true told = calm
  spawn_calm false told = ap (of_task stirred) (value_before m.tasks.table _ t (apart_of (next_number m.tasks.table) t told)) ∙ calm

  wake_calm : (u : ℕ) → ((u == t) && says_woken (wake_reply (wake_answer m.tasks u))) ≡ false → Calm t (woken m.tasks u)
  wake_calm u told = elim (eqb_tells u t) [
    | inl here ↦ subst (λ x. Calm t (woken m.tasks x)) (sym here.1)
        (own_wake_calm m.tasks t (sym (ap (λ b. b && says_woken (wake_reply (wake_answer m.tasks t))) (eq-eqb t t refl)) ∙ subst (λ x. ((x == t) && says_woken (wake_reply (wake_answer m.tasks x))) ≡ false) here.1 told) calm)
    | inr apart ↦ woken_calm m.tasks u t (λ same. apart.1 (sym same)) calm
  ]

  reset_calm : (s n : ℕ) → (not (nat_lt max_nanos n) && is_waker (waker_in (sleep.reset_answer m.sleeps s n)) t) ≡ false → Calm t (act_outcome (act.Reset s n) m).machine.tasks
  reset_calm s n told = by_sleep (value_at m.sleeps.table s)
    where
      by_limit : (b : Bool) → (not b && is_waker (waker_in (sleep.reset_answer m.sleeps s n)) t) ≡ false → Calm t (cond b (refused refusal.Invalid m) (reset s n m)).machine.tasks
      by_limit true is = calm
      by_limit false is = waker_calm m.tasks (waker_in (sleep.reset_answer m.sleeps s n)) t is calm

      by_sleep : (v : Option Sleep) → Calm t (for_sleep v m (cond (nat_lt max_nanos n) (refused refusal.Invalid m) (reset s n m))).machine.tasks
      by_sleep None = calm
      by_sleep (Some value) = by_limit (nat_lt max_nanos n) told

  block_calm : (b : Blocking) (output : ℕ) → Calm t (block b output m).machine.tasks
  block_calm blocking.Attached output = calm
  block_calm blocking.ExecuteLocal output = calm
  block_calm blocking.Panic output = calm

  act_calm : (a : Act) → wakes_by_act t m a (act_outcome a m).reply ≡ false → is_made t (act_outcome a m).reply ≡ false → Calm t (act_outcome a m).machine.tasks
  act_calm act.Spawn told made = spawn_calm (is_full m.tasks.table m.tasks.limit) made
  act_calm (act.Wake u) told made = wake_calm u told
  act_calm (act.NewSleep n) told made = by_test t (is_full m.sleeps.table m.sleeps.limit) _ _ calm (by_test t (nat_lt max_nanos n) _ _ calm calm)
  act_calm (act.Reset s n) told made = reset_calm s n told
  act_calm (act.DropSleep s) told made = calm
  act_calm (act.SleepElapsed s) told made = calm
  act_calm (act.DropJoin u) told made = dropped_calm m.tasks u t calm
  act_calm (act.Block output) told made = by_test t (is_full m.jobs.table m.jobs.limit) _ _ calm (block_calm m.strategy output)
  act_calm (act.DropJob j) told made = calm
  act_calm (act.Finished u) told made = calm
  act_calm (act.JobFinished j) told made = calm
  act_calm (act.JobEnd j h) told made = calm

  step_calm : (me : ℕ) (s : TurnStep) → wakes_by_step t m s (step_outcome me s m).reply ≡ false → is_made t (step_outcome me s m).reply ≡ false → Calm t (step_outcome me s m).machine.tasks
  step_calm me (step.Act a) told made = act_calm a told made
  step_calm me (step.Query (query.Sleep s)) told made = calm
  step_calm me (step.Query (query.Join u)) told made = joined_calm m.tasks u t calm me
  step_calm me (step.Query (query.Job j)) told made = calm

steps_calm : (t me : ℕ) (steps : List TurnStep) (m : Machine) → wakes_by_steps t me m steps (replies_of me steps m) ≡ false → is_made_in t (replies_of me steps m) ≡ false → Calm t m.tasks → Calm t (after_steps me steps m).tasks
steps_calm t me [] m told made calm = calm
steps_calm t me (s ∷ steps) m told made calm =
    steps_calm t me steps (step_outcome me s m).machine (or_no_right (wakes_by_step t m s (step_outcome me s m).reply) _ told) (or_no_right (is_made t (step_outcome me s m).reply) _ made)
    (step_calm t m calm me s (or_no_left (wakes_by_step t m s (step_outcome me s m).reply) _ told) (or_no_left (is_made t (step_outcome me s m).reply) _ made))

-- the beginning and the end of a turn
begun_calm : (tasks : Tasks ℕ) (front : ℕ) (rest : List ℕ) (t : ℕ) → (t ≢ front → Calm t tasks) → Calm t (begun tasks front rest)
begun_calm tasks front rest t calm = by_value (value_at tasks.table front) refl
  where
    by_value : (v : Option (Task ℕ)) → value_at tasks.table front ≡ v → Calm t (begun_value v (record { queue = rest; table = tasks.table; limit = tasks.limit }) front)
    by_value None at = elim (cases_eq t front) [
      | inl here ↦ ap (λ x. of_task stirred (value_at tasks.table x)) here ∙ ap (of_task stirred) at
      | inr apart ↦ calm apart
    ]
    by_value (Some task) at = elim (cases_eq t front) [
      | inl here ↦ elim (cases_lt front (length tasks.table)) [
        | inl inside ↦ ap (λ x. of_task stirred (value_at (set tasks.table front (Some (in_phase task (running false)))) x)) here ∙ ap (of_task stirred) (get_or-set_same tasks.table front (Some (in_phase task (running false))) None inside)
        | inr past ↦ absurd (none-some task (sym (get_or_past tasks.table front None past) ∙ at))
      ]
      | inr apart ↦ other_calm tasks.table front _ t apart (calm apart)
    ]

noted_stirs : (phase : Phase ℕ) → stirred phase ≡ false → is_noted phase ≡ false
noted_stirs idle is = refl
noted_stirs queued is = refl
noted_stirs (running noted) is = is
noted_stirs (done output) is = refl
noted_stirs taken is = refl

paused_calm : (tasks : Tasks ℕ) (me t : ℕ) → Calm t tasks → Calm t (paused_value (value_at tasks.table me) tasks me)
paused_calm tasks me t calm = by_value (value_at tasks.table me) refl
  where
    by_note : (b : Bool) (task : Task ℕ) → (t ≡ me → b ≡ false) → Calm t (cond b (queued_last tasks me task) (with_task tasks me (in_phase task idle)))
    by_note true task not_own = other_calm tasks.table me _ t (λ here. true-false (not_own here)) calm
    by_note false task not_own = set_calm tasks.table me _ refl t calm

    by_value : (v : Option (Task ℕ)) → value_at tasks.table me ≡ v → Calm t (paused_value v tasks me)
    by_value None at = calm
    by_value (Some task) at = by_note (is_noted task.phase) task (λ here. noted_stirs task.phase (ap (of_task stirred) (sym at) ∙ ap (λ x. of_task stirred (value_at tasks.table x)) (sym here) ∙ calm))

completed_calm : (tasks : Tasks ℕ) (me output t : ℕ) → is_waker (waiter_at (value_at tasks.table me)) t ≡ false → Calm t tasks → Calm t (completed_value (value_at tasks.table me) tasks me output)
completed_calm tasks me output t told calm = by_value (value_at tasks.table me) told
  where
    by_handle : (b : Bool) (task : Task ℕ) → is_waker task.waiter t ≡ false → Calm t (cond b (woken_if_any (with_task tasks me (record { phase = done output; is_kept = true; waiter = None })) task.waiter) (without_task tasks me))
    by_handle true task is = waker_calm (with_task tasks me (record { phase = done output; is_kept = true; waiter = None })) task.waiter t is (set_calm tasks.table me _ refl t calm)
    by_handle false task is = set_calm tasks.table me None refl t calm

    by_value : (v : Option (Task ℕ)) → is_waker (waiter_at v) t ≡ false → Calm t (completed_value v tasks me output)
    by_value None is = calm
    by_value (Some task) is = by_handle task.is_kept task is

end_calm : (t me : ℕ) (e : End) (m : Machine) → is_waker (woken_by_end e me m) t ≡ false → Calm t m.tasks → Calm t (after_end e me m).tasks
end_calm t me end.Pending m told calm = paused_calm m.tasks me t calm
end_calm t me (end.Ready output) m told calm = completed_calm m.tasks me output t told calm

turn_calm : (t front : ℕ) (rest : List ℕ) (steps : List TurnStep) (e : End) (m : Machine)
    → ((turn_tells t (begun_machine (front ∷ rest) m) steps (turn_report_for (front ∷ rest) steps e m) || is_waker (woken_by_turn (front ∷ rest) steps e m) t) || tells_spawn t (turn_report_for (front ∷ rest) steps e m)) ≡ false
    → (t ≢ front → Calm t m.tasks) → Calm t (after_turn_for (front ∷ rest) steps e m).tasks
turn_calm t front rest steps e m told calm =
    let wakes = or_no_left _ (tells_spawn t (turn_report_for (front ∷ rest) steps e m)) told in
    end_calm t front e (after_steps front steps (after_begin front rest m)) (or_no_right (wakes_by_steps t front (after_begin front rest m) steps (replies_of front steps (after_begin front rest m))) _ wakes)
    (steps_calm t front steps (after_begin front rest m) (or_no_left _ (is_waker (woken_by_end e front (after_steps front steps (after_begin front rest m))) t) wakes)
    (or_no_right _ (is_made_in t (replies_of front steps (after_begin front rest m))) told) (begun_calm m.tasks front rest t calm))

-- a clock step
waker_gone : (t : ℕ) (table : Table Sleep) (s : ℕ) (fired : List ℕ) → wakes_by_fires t table fired ≡ false → wakes_by_fires t (with_value table s elapsed) fired ≡ false
waker_gone t table s [] is = refl
waker_gone t table s (q ∷ fired) is = by_first (is_waker (sleep.waker_in (value_at (with_value table s elapsed) q)) t) first (waker_gone t table s fired (or_no_right (is_waker (sleep.waker_in (value_at table q)) t) _ is))
  where
    by_first : (b : Bool) → b ≡ false → wakes_by_fires t (with_value table s elapsed) fired ≡ false → (b || wakes_by_fires t (with_value table s elapsed) fired) ≡ false
    by_first true none rest = absurd (true-false none)
    by_first false none rest = rest

    first : is_waker (sleep.waker_in (value_at (with_value table s elapsed) q)) t ≡ false
    first = elim (cases_eq q s) [
      | inl here ↦ elim (cases_lt s (length table)) [
        | inl inside ↦ ap (λ x. is_waker (sleep.waker_in (value_at (with_value table s elapsed) x)) t) here ∙ ap (λ v. is_waker (sleep.waker_in v) t) (get_or-set_same table s (Some elapsed) None inside)
        | inr past ↦ ap (λ v. is_waker (sleep.waker_in v) t) (get_or_past (with_value table s elapsed) q None (omega (arith, past, here, length-set table s (Some elapsed))))
      ]
      | inr apart ↦ ap (λ v. is_waker (sleep.waker_in v) t) (get_or-set_other table s q (Some elapsed) None apart) ∙ or_no_left _ (wakes_by_fires t table fired) is
    ]

fires_calm : (t : ℕ) (fired : List ℕ) (m : Machine) → wakes_by_fires t m.sleeps.table fired ≡ false → Calm t m.tasks → Calm t (after_fires m fired).tasks
fires_calm t [] m told calm = calm
fires_calm t (s ∷ fired) m told calm =
    fires_calm t fired (after_fire m s) (waker_gone t m.sleeps.table s fired (or_no_right (is_waker (sleep.waker_in (value_at m.sleeps.table s)) t) _ told))
    (waker_calm m.tasks (sleep.waker_in (value_at m.sleeps.table s)) t (or_no_left _ (wakes_by_fires t m.sleeps.table fired) told) calm)

clock_calm : (t : ℕ) (m : Machine) (n : ℕ) (answer : Report) (new : Machine) → clock_tells t m.sleeps.table answer ≡ false → Calm t m.tasks → ClockStep m n answer new → Calm t new.tasks
clock_calm t m n (report.Fired fired) new told calm is = subst (λ x. Calm t x.tasks) (sym is.2) (fires_calm t fired (at_clock m n) told calm)
clock_calm t m n (report.Reply r) new told calm is = subst (λ x. Calm t x.tasks) (sym is.2) calm
clock_calm t m n (report.Turn me replies ended) new told calm is = absurd is
clock_calm t m n report.Listed new told calm is = absurd is
clock_calm t m n report.Unlisted new told calm is = absurd is
clock_calm t m n (report.Drained tasks) new told calm is = absurd is

remote_calm : (t u : ℕ) (m : Machine) → Calm t m.tasks → Calm t (after_remote m u).tasks
remote_calm t u m calm = by_issued (is_issued m.tasks.table u) (has_finished (value_at m.tasks.table u) || is_waiting m.inbox u)
  where
    by_issued : (b d : Bool) → Calm t (cond b (cond d m (with_inbox m (with_waiting m.inbox u))) m).tasks
    by_issued true true = calm
    by_issued true false = calm
    by_issued false d = calm

-- one event
queued_stirs : (phase : Phase ℕ) → is_queued phase ≡ true → stirred phase ≡ true
queued_stirs idle is = absurd (false-true is)
queued_stirs queued is = refl
queued_stirs (running noted) is = absurd (false-true is)
queued_stirs (done output) is = absurd (false-true is)
queued_stirs taken is = absurd (false-true is)

queued_value : (v : Option (Task ℕ)) → of_task is_queued v ≡ true → of_task stirred v ≡ true
queued_value None is = absurd (false-true is)
queued_value (Some task) is = queued_stirs task.phase is

-- the front of the queue is not calm
front_apart : (t front : ℕ) (rest : List ℕ) (m : Machine) → IsValid m → m.tasks.queue ≡ front ∷ rest → Calm t m.tasks → t ≢ front
front_apart t front rest m valid is calm =
    λ here. true-false (sym (queued_value (value_at m.tasks.table front) (front_is_queued m.tasks front rest is valid.tasks)) ∙ ap (λ x. of_task stirred (value_at m.tasks.table x)) (sym here) ∙ calm)

turn_event : (t : ℕ) (m : Machine) (steps : List TurnStep) (e : End) (queue : List ℕ) → IsValid m → m.tasks.queue ≡ queue → Calm t m.tasks
    → ((turn_tells t (begun_machine queue m) steps (turn_report_for queue steps e m) || is_waker (woken_by_turn queue steps e m) t) || tells_spawn t (turn_report_for queue steps e m)) ≡ false
    → Calm t (after_turn_for queue steps e m).tasks × (is_turn_of t (turn_report_for queue steps e m) ≡ false)
turn_event t m steps e [] valid at calm told = (calm, refl)
turn_event t m steps e (front ∷ rest) valid at calm told =
    (turn_calm t front rest steps e m told (λ apart. calm), elim (eqb_tells front t) [ inl here ↦ absurd (front_apart t front rest m valid at calm (sym here.1)) | inr apart ↦ apart.0 ])

act_event : (t : ℕ) (m : Machine) (a : Act) (answer : Report) → answer ≡ report.Reply (act_outcome a m).reply → Calm t m.tasks → (act_tells t m a answer || tells_spawn t answer) ≡ false
    → Calm t (act_outcome a m).machine.tasks × (is_turn_of t answer ≡ false)
act_event t m a answer is calm told =
    let told_reply = sym (ap (λ r. act_tells t m a r || tells_spawn t r) is) ∙ told in
    (act_calm t m calm a (or_no_left _ (is_made t (act_outcome a m).reply) told_reply) (or_no_right (wakes_by_act t m a (act_outcome a m).reply) _ told_reply), ap (is_turn_of t) is)

clock_is_no_turn : (t : ℕ) (m : Machine) (n : ℕ) (answer : Report) (new : Machine) → ClockStep m n answer new → is_turn_of t answer ≡ false
clock_is_no_turn t m n (report.Fired fired) new is = refl
clock_is_no_turn t m n (report.Reply r) new is = refl
clock_is_no_turn t m n (report.Turn me replies ended) new is = absurd is
clock_is_no_turn t m n report.Listed new is = absurd is
clock_is_no_turn t m n report.Unlisted new is = absurd is
clock_is_no_turn t m n (report.Drained tasks) new is = absurd is

remote_is_no_turn : (t u : ℕ) (m : Machine) → is_turn_of t (remote_report m u) ≡ false
remote_is_no_turn t u m = by_issued (is_issued m.tasks.table u) (has_finished (value_at m.tasks.table u) || is_waiting m.inbox u)
  where
    by_issued : (b d : Bool) → is_turn_of t (cond b (cond d report.Unlisted report.Listed) (report.Reply (reply.Refused refusal.NoTask))) ≡ false
    by_issued true true = refl
    by_issued true false = refl
    by_issued false d = refl

event_calm : (t : ℕ) (old : Machine) (e : Event) (answer : Report) (new : Machine) → IsValid old → Calm t old.tasks → Step old e answer new → is_cause t old e answer ≡ false
    → Calm t new.tasks × (is_turn_of t answer ≡ false)
event_calm t old (event.Act a) answer new valid calm is told =
    let done = act_event t old a answer is.0 calm told in (subst (λ x. Calm t x.tasks) (sym is.1) done.0, done.1)
event_calm t old (event.Turn steps e) answer new valid calm is told =
    let done = turn_event t old steps e old.tasks.queue valid refl calm
    (sym (ap (λ r. (turn_tells t (begun_machine old.tasks.queue old) steps r || is_waker (woken_by_turn old.tasks.queue steps e old) t) || tells_spawn t r) is.0) ∙ told) in
    (subst (λ x. Calm t x.tasks) (sym is.1) done.0, ap (is_turn_of t) is.0 ∙ done.1)
event_calm t old (event.Clock n) answer new valid calm is told = (clock_calm t old n answer new told calm is, clock_is_no_turn t old n answer new is)
event_calm t old (event.Remote u) answer new valid calm is told =
    (subst (λ x. Calm t x.tasks) (sym is.1) (remote_calm t u old calm), ap (is_turn_of t) is.0 ∙ remote_is_no_turn t u old)
event_calm t old event.Drain answer new valid calm is told =
    (subst (λ x. Calm t x.tasks) (sym is.1) (all_calm old.inbox old.tasks t (sym (ap (drain_tells t) is.0) ∙ told) calm), ap (is_turn_of t) is.0)

-- a run
calm_at : (t : ℕ) (m : Machine) → IsValid m → of_task is_queued (value_at m.tasks.table t) ≡ false → Calm t m.tasks
calm_at t m valid waits = by_value (value_at m.tasks.table t) refl waits
  where
    none-same : None ≡ Some t → ⊥
    none-same e = cc

    by_phase : (phase : Phase ℕ) → (is_running phase ≡ true → ⊥) → is_queued phase ≡ false → stirred phase ≡ false
    by_phase idle rests is = refl
    by_phase queued rests is = is
    by_phase (running noted) rests is = absurd (rests refl)
    by_phase (done output) rests is = refl
    by_phase taken rests is = refl

    by_value : (v : Option (Task ℕ)) → value_at m.tasks.table t ≡ v → of_task is_queued v ≡ false → of_task stirred v ≡ false
    by_value None at is = refl
    by_value (Some task) at is = by_phase task.phase (λ runs. none-same (valid.tasks.runs t (ap (of_task is_running) at ∙ runs))) is

calm_rests : (v : Option (Task ℕ)) → of_task stirred v ≡ false → of_task is_queued v ≡ false
calm_rests None is = refl
calm_rests (Some task) is = by_phase task.phase is
  where
    by_phase : (phase : Phase ℕ) → stirred phase ≡ false → is_queued phase ≡ false
    by_phase idle is = refl
    by_phase queued is = is
    by_phase (running noted) is = refl
    by_phase (done output) is = refl
    by_phase taken is = refl

runs_calm : (t : ℕ) (events : List Event) (answers : List Report) (old new : Machine) → IsValid old → Calm t old.tasks → RunWithoutCause t old events answers new → has_turn_of t answers ≡ false
runs_calm t [] [] old new valid calm run = refl
runs_calm t [] (answer ∷ answers) old new valid calm run = absurd run
runs_calm t (e ∷ events) [] old new valid calm run = absurd run
runs_calm t (e ∷ events) (answer ∷ answers) old new valid calm (mid, is, told, run) =
    let done = event_calm t old e answer mid valid calm is told in
    ap (λ b. b || has_turn_of t answers) done.1 ∙ runs_calm t events answers mid new (step_is_valid old e answer mid valid is) done.0 run

pub no_turn_without_cause : (events : List Event) (answers : List Report) (old new : Machine) (t : ℕ) → IsValid old → of_task is_queued (value_at old.tasks.table t) ≡ false → RunWithoutCause t old events answers new → has_turn_of t answers ≡ false
no_turn_without_cause events answers old new t valid waits run = runs_calm t events answers old new valid (calm_at t old valid waits) run

-- a turn of the task itself
own_turn : (t : ℕ) (m : Machine) (steps : List TurnStep) (e : End) (queue : List ℕ) → is_turn_of t (turn_report_for queue steps e m) ≡ true
    → ((turn_tells t (begun_machine queue m) steps (turn_report_for queue steps e m) || is_waker (woken_by_turn queue steps e m) t) || tells_spawn t (turn_report_for queue steps e m)) ≡ false
    → Calm t (after_turn_for queue steps e m).tasks
own_turn t m steps e [] turns told = absurd (false-true turns)
own_turn t m steps e (front ∷ rest) turns told =
    turn_calm t front rest steps e m told (λ apart. absurd (elim (eqb_tells front t) [ inl here ↦ apart (sym here.1) | inr other ↦ true-false (sym turns ∙ other.0) ]))

pub turn_uses_its_cause_up : (old : Machine) (e : Event) (answer : Report) (mid : Machine) (t : ℕ) → Step old e answer mid → is_turn_of t answer ≡ true → is_cause t old e answer ≡ false
    → of_task is_queued (value_at mid.tasks.table t) ≡ false
turn_uses_its_cause_up old (event.Act a) answer mid t is turns told = absurd (true-false (sym turns ∙ ap (is_turn_of t) is.0))
turn_uses_its_cause_up old (event.Turn steps e) answer mid t is turns told =
    calm_rests (value_at mid.tasks.table t) (subst (λ x. Calm t x.tasks) (sym is.1)
    (own_turn t old steps e old.tasks.queue (sym (ap (is_turn_of t) is.0) ∙ turns)
    (sym (ap (λ r. (turn_tells t (begun_machine old.tasks.queue old) steps r || is_waker (woken_by_turn old.tasks.queue steps e old) t) || tells_spawn t r) is.0) ∙ told)))
turn_uses_its_cause_up old (event.Clock n) answer mid t is turns told = absurd (true-false (sym turns ∙ clock_is_no_turn t old n answer mid is))
turn_uses_its_cause_up old (event.Remote u) answer mid t is turns told = absurd (true-false (sym turns ∙ ap (is_turn_of t) is.0 ∙ remote_is_no_turn t u old))
turn_uses_its_cause_up old event.Drain answer mid t is turns told = absurd (true-false (sym turns ∙ ap (is_turn_of t) is.0))
