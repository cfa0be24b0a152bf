-- The queue's first task has the next turn, and no task passes another in the queue.
use Rattle.std.proofs.Common.{◌≡◌, ◌<◌, ℕ, zero, suc, true, false, Bool, cond, List, [], ◌∷◌, ◌++◌, length, Some, None, Option, refl, ap, sym, subst, ◌∙◌, arith}
use Rattle.std.specs.Prelude.{slice_get, Ok, Err, Result, nat_lt, ◌||◌}
use Rattle.mono_model.specs.Ticks.{max_nanos}
use Rattle.mono_model.specs.Table.{value_at, is_full, is_issued}
use Rattle.mono_model.specs.Tasks.{Tasks, Task, Phase, idle, queued, running, done, taken, is_noted, in_phase, with_task, without_task, queued_last, spawned, woken, woken_in, woken_value, woken_if_any, all_woken, begun, begun_value, paused_value, completed_value}
use Rattle.mono_model.specs.Joins.{kept_task, dropped_in, dropped_value, join_dropped, joined_in, joined_value, joined}
use Rattle.mono_model.specs.Inbox.{is_waiting, with_waiting}
use Rattle.mono_model.specs.Sleeps.{Sleep}
use Rattle.mono_model.specs.SleepActs as sleep
use Rattle.mono_model.specs.SleepAnswers.{waker_in}
use Rattle.mono_model.specs.declared.task_error.TaskError.{TaskError}
use Rattle.mono_machine.specs.Machine.{Machine, with_tasks, with_inbox}
use Rattle.mono_machine.specs.Acts.{Outcome, for_sleep, reset, act_outcome, query_outcome, step_outcome, block}
use Rattle.mono_machine.specs.Turns.{replies_of, after_steps, after_end, end_answer, after_begin, turn_report_for, after_turn_for}
use Rattle.mono_machine.specs.Steps.{Step, ClockStep, Run, has_finished, after_fires, after_fire, at_clock, after_remote, after_drain}
use Rattle.mono_machine.specs.Fairness.{turn_of, turns_of}
use Rattle.mono_machine.specs.declared.events.Act.{Act}
use Rattle.mono_machine.specs.declared.events.Act.TheVariants as act
use Rattle.mono_machine.specs.declared.events.Query.{Query}
use Rattle.mono_machine.specs.declared.events.Query.TheVariants as query
use Rattle.mono_machine.specs.declared.events.TurnStep.{TurnStep}
use Rattle.mono_machine.specs.declared.events.TurnStep.TheVariants as step
use Rattle.mono_machine.specs.declared.events.End.{End}
use Rattle.mono_machine.specs.declared.events.End.TheVariants as end
use Rattle.mono_machine.specs.declared.events.Event.{Event}
use Rattle.mono_machine.specs.declared.events.Event.TheVariants as event
use Rattle.mono_machine.specs.declared.events.Report.{Report}
use Rattle.mono_machine.specs.declared.events.Report.TheVariants as report
use Rattle.mono_machine.specs.declared.events.Blocking.{Blocking}
use Rattle.mono_machine.specs.declared.events.Blocking.TheVariants as blocking

none-some : {X : Type 0} (x : X) → None ≡ Some x → ⊥
none-some x e = cc

some-same : {X : Type 0} (x y : X) → Some x ≡ Some y → x ≡ y
some-same x y e = cc

-- what comes last passes nobody
at_push : (xs : List ℕ) (y p t : ℕ) → slice_get xs p ≡ Some t → slice_get (xs ++ y ∷ []) p ≡ Some t
at_push [] y p t e = absurd (none-some t e)
at_push (x ∷ xs) y zero t e = e
at_push (x ∷ xs) y (suc p) t e = at_push xs y p t e

module _ (p t : ℕ) where
  -- t is at place p of the queue.
  abbrev Stands : Tasks ℕ → Type 0
  Stands tasks = slice_get tasks.queue p ≡ Some t

  woken_stands : (tasks : Tasks ℕ) (u : ℕ) → Stands tasks → Stands (woken tasks u)
  woken_stands tasks u stands = by_value (value_at tasks.table u)
    where
      by_phase : (phase : Phase ℕ) (task : Task ℕ) → Stands (woken_in phase tasks u task)
      by_phase idle task = at_push tasks.queue u p t stands
      by_phase queued task = stands
      by_phase (running noted) task = stands
      by_phase (done output) task = stands
      by_phase taken task = stands

      by_value : (v : Option (Task ℕ)) → Stands (woken_value v tasks u)
      by_value None = stands
      by_value (Some task) = by_phase task.phase task

  waker_stands : (tasks : Tasks ℕ) (w : Option ℕ) → Stands tasks → Stands (woken_if_any tasks w)
  waker_stands tasks None stands = stands
  waker_stands tasks (Some u) stands = woken_stands tasks u stands

  all_stand : (us : List ℕ) (tasks : Tasks ℕ) → Stands tasks → Stands (all_woken tasks us)
  all_stand [] tasks stands = stands
  all_stand (u ∷ us) tasks stands = all_stand us (woken tasks u) (woken_stands tasks u stands)

  joined_stands : (tasks : Tasks ℕ) (u by : ℕ) → Stands tasks → Stands (joined tasks u by)
  joined_stands tasks u by stands = by_result (kept_task tasks u)
    where
      by_phase : (phase : Phase ℕ) → Stands (joined_in phase tasks u by)
      by_phase idle = stands
      by_phase queued = stands
      by_phase (running noted) = stands
      by_phase (done output) = stands
      by_phase taken = stands

      by_result : (r : Result (Task ℕ) TaskError) → Stands (joined_value r tasks u by)
      by_result (Ok task) = by_phase task.phase
      by_result (Err error) = stands

  dropped_stands : (tasks : Tasks ℕ) (u : ℕ) → Stands tasks → Stands (join_dropped tasks u)
  dropped_stands tasks u stands = by_result (kept_task tasks u)
    where
      by_phase : (phase : Phase ℕ) → Stands (dropped_in phase tasks u)
      by_phase idle = stands
      by_phase queued = stands
      by_phase (running noted) = stands
      by_phase (done output) = stands
      by_phase taken = stands

      by_result : (r : Result (Task ℕ) TaskError) → Stands (dropped_value r tasks u)
      by_result (Ok task) = by_phase task.phase
      by_result (Err error) = stands

  begun_stands : (tasks : Tasks ℕ) (front : ℕ) (rest : List ℕ) → slice_get rest p ≡ Some t → Stands (begun tasks front rest)
  begun_stands tasks front rest stands = by_value (value_at tasks.table front)
    where
      by_value : (v : Option (Task ℕ)) → Stands (begun_value v (record { queue = rest; table = tasks.table; limit = tasks.limit }) front)
      by_value None = stands
      by_value (Some task) = stands

  paused_stands : (tasks : Tasks ℕ) (me : ℕ) → Stands tasks → Stands (paused_value (value_at tasks.table me) tasks me)
  paused_stands tasks me stands = by_value (value_at tasks.table me)
    where
      by_note : (b : Bool) (task : Task ℕ) → Stands (cond b (queued_last tasks me task) (with_task tasks me (in_phase task idle)))
      by_note true task = at_push tasks.queue me p t stands
      by_note false task = stands

      by_value : (v : Option (Task ℕ)) → Stands (paused_value v tasks me)
      by_value None = stands
      by_value (Some task) = by_note (is_noted task.phase) task

  completed_stands : (tasks : Tasks ℕ) (me output : ℕ) → Stands tasks → Stands (completed_value (value_at tasks.table me) tasks me output)
  completed_stands tasks me output stands = by_value (value_at tasks.table me)
    where
      by_handle : (b : Bool) (task : Task ℕ) → Stands (cond b (woken_if_any (with_task tasks me (record { phase = done output; is_kept = true; waiter = None })) task.waiter) (without_task tasks me))
      by_handle true task = waker_stands (with_task tasks me (record { phase = done output; is_kept = true; waiter = None })) task.waiter stands
      by_handle false task = stands

      by_value : (v : Option (Task ℕ)) → Stands (completed_value v tasks me output)
      by_value None = stands
      by_value (Some task) = by_handle task.is_kept task

  by_test : (b : Bool) (x y : Outcome) → Stands x.machine.tasks → Stands y.machine.tasks → Stands (cond b x y).machine.tasks
  by_test true x y at_true at_false = at_true
  by_test false x y at_true at_false = at_false

  module _ (m : Machine) (stands : Stands m.tasks) where
    of_sleep : (v : Option Sleep) (outcome : Outcome) → Stands outcome.machine.tasks → Stands (for_sleep v m outcome).machine.tasks
    of_sleep None outcome is = stands
    of_sleep (Some value) outcome is = is

    block_stands : (b : Blocking) (output : ℕ) → Stands (block b output m).machine.tasks
    block_stands blocking.Attached output = stands
    block_stands blocking.ExecuteLocal output = stands
    block_stands blocking.Panic output = stands

    act_stands : (a : Act) → Stands (act_outcome a m).machine.tasks
    act_stands act.Spawn = by_test (is_full m.tasks.table m.tasks.limit) _ _ stands (at_push m.tasks.queue (length m.tasks.table) p t stands)
    act_stands (act.Wake u) = woken_stands m.tasks u stands
    act_stands (act.NewSleep n) = by_test (is_full m.sleeps.table m.sleeps.limit) _ _ stands (by_test (nat_lt max_nanos n) _ _ stands stands)
    act_stands (act.Reset s n) = of_sleep (value_at m.sleeps.table s) _ (by_test (nat_lt max_nanos n) _ _ stands (waker_stands m.tasks (waker_in (sleep.reset_answer m.sleeps s n)) stands))
    act_stands (act.DropSleep s) = stands
    act_stands (act.SleepElapsed s) = stands
    act_stands (act.DropJoin u) = dropped_stands m.tasks u stands
    act_stands (act.Block output) = by_test (is_full m.jobs.table m.jobs.limit) _ _ stands (block_stands m.strategy output)
    act_stands (act.DropJob j) = stands
    act_stands (act.Finished u) = stands
    act_stands (act.JobFinished j) = stands
    act_stands (act.JobEnd j h) = stands

    step_stands : (me : ℕ) (s : TurnStep) → Stands (step_outcome me s m).machine.tasks
    step_stands me (step.Act a) = act_stands a
    step_stands me (step.Query (query.Sleep s)) = stands
    step_stands me (step.Query (query.Join u)) = joined_stands m.tasks u me stands
    step_stands me (step.Query (query.Job j)) = stands

  steps_stand : (me : ℕ) (steps : List TurnStep) (m : Machine) → Stands m.tasks → Stands (after_steps me steps m).tasks
  steps_stand me [] m stands = stands
  steps_stand me (s ∷ steps) m stands = steps_stand me steps (step_outcome me s m).machine (step_stands m stands me s)

  end_stands : (me : ℕ) (e : End) (m : Machine) → Stands m.tasks → Stands (after_end e me m).tasks
  end_stands me end.Pending m stands = paused_stands m.tasks me stands
  end_stands me (end.Ready output) m stands = completed_stands m.tasks me output stands

  -- After the front's turn, t is at place p.
  turn_stands : (front : ℕ) (rest : List ℕ) (steps : List TurnStep) (e : End) (m : Machine) → slice_get rest p ≡ Some t → Stands (after_turn_for (front ∷ rest) steps e m).tasks
  turn_stands front rest steps e m stands =
      end_stands front e (after_steps front steps (after_begin front rest m)) (steps_stand front steps (after_begin front rest m) (begun_stands m.tasks front rest stands))

  fires_stand : (fired : List ℕ) (m : Machine) → Stands m.tasks → Stands (after_fires m fired).tasks
  fires_stand [] m stands = stands
  fires_stand (s ∷ fired) m stands = fires_stand fired (after_fire m s) (waker_stands m.tasks (sleep.waker_at m.sleeps s) stands)

  clock_stands : (m : Machine) (n : ℕ) (answer : Report) (new : Machine) → Stands m.tasks → ClockStep m n answer new → Stands new.tasks
  clock_stands m n (report.Fired fired) new stands is = subst (λ x. Stands x.tasks) (sym is.2) (fires_stand fired (at_clock m n) stands)
  clock_stands m n (report.Reply r) new stands is = subst (λ x. Stands x.tasks) (sym is.2) stands
  clock_stands m n (report.Turn me replies ended) new stands is = absurd is
  clock_stands m n report.Listed new stands is = absurd is
  clock_stands m n report.Unlisted new stands is = absurd is
  clock_stands m n (report.Drained tasks) new stands is = absurd is

  remote_stands : (m : Machine) (u : ℕ) → Stands m.tasks → Stands (after_remote m u).tasks
  remote_stands m u stands = by_issue (is_issued m.tasks.table u)
    where
      by_wait : (b : Bool) → Stands (cond b m (with_inbox m (with_waiting m.inbox u))).tasks
      by_wait true = stands
      by_wait false = stands

      by_issue : (b : Bool) → Stands (cond b (cond (has_finished (value_at m.tasks.table u) || is_waiting m.inbox u) m (with_inbox m (with_waiting m.inbox u))) m).tasks
      by_issue true = by_wait (has_finished (value_at m.tasks.table u) || is_waiting m.inbox u)
      by_issue false = stands

-- a turn: it is that of the front, and each other task comes one place nearer
module _ (events : List Event) (answers : List Report) (t : ℕ) (m : Machine) (steps : List TurnStep) (e : End) (answer : Report)
    (later : (p : ℕ) → slice_get (after_turn_for m.tasks.queue steps e m).tasks.queue p ≡ Some t → p < length (turns_of events answers) → slice_get (turns_of events answers) p ≡ Some (Some t)) where
  turn_serves : (queue : List ℕ) (p : ℕ) → m.tasks.queue ≡ queue → answer ≡ turn_report_for queue steps e m
      → slice_get queue p ≡ Some t → p < length (turn_of answer ∷ turns_of events answers) → slice_get (turn_of answer ∷ turns_of events answers) p ≡ Some (Some t)
  turn_serves [] p at told stands inside = absurd (none-some t stands)
  turn_serves (front ∷ rest) zero at told stands inside = ap (λ r. Some (turn_of r)) told ∙ ap Some stands
  turn_serves (front ∷ rest) (suc p) at told stands inside =
      later p (subst (λ q. slice_get (after_turn_for q steps e m).tasks.queue p ≡ Some t) (sym at) (turn_stands p t front rest steps e m stands)) (omega (arith, inside))

pub served_in_order : (events : List Event) (answers : List Report) (old new : Machine) (p t : ℕ) → Run old events answers new
    → slice_get old.tasks.queue p ≡ Some t → p < length (turns_of events answers) → slice_get (turns_of events answers) p ≡ Some (Some t)
served_in_order [] answers old new p t run stands inside = absurd (omega (arith, inside))
served_in_order (e ∷ events) [] old new p t run stands inside = absurd run
served_in_order (event.Act a ∷ events) (answer ∷ answers) old new p t (mid, is, run) stands inside =
    served_in_order events answers mid new p t run (subst (λ x. slice_get x.tasks.queue p ≡ Some t) (sym is.1) (act_stands p t old stands a)) inside
served_in_order (event.Turn steps e ∷ events) (answer ∷ answers) old new p t (mid, is, run) stands inside =
    turn_serves events answers t old steps e answer
    (λ q behind fewer. served_in_order events answers mid new q t run (subst (λ x. slice_get x.tasks.queue q ≡ Some t) (sym is.1) behind) fewer)
    old.tasks.queue p refl is.0 stands inside
served_in_order (event.Clock n ∷ events) (answer ∷ answers) old new p t (mid, is, run) stands inside =
    served_in_order events answers mid new p t run (clock_stands p t old n answer mid stands is) inside
served_in_order (event.Remote u ∷ events) (answer ∷ answers) old new p t (mid, is, run) stands inside =
    served_in_order events answers mid new p t run (subst (λ x. slice_get x.tasks.queue p ≡ Some t) (sym is.1) (remote_stands p t old u stands)) inside
served_in_order (event.Drain ∷ events) (answer ∷ answers) old new p t (mid, is, run) stands inside =
    served_in_order events answers mid new p t run (subst (λ x. slice_get x.tasks.queue p ≡ Some t) (sym is.1) (all_stand p t old.inbox old.tasks stands)) inside
