-- A task that was woken is queued or waits in the inbox, until it begins a turn or finishes.
use Rattle.std.proofs.Common.{◌≡◌, ◌≢◌, ◌<◌, inl, inr, ℕ, true, false, Bool, cond, List, [], ◌∷◌, length, set, Some, None, Option, refl, ap, sym, subst, ◌∙◌, arith, eq-eqb}
use Rattle.std.specs.Prelude.{IfSome, not, ◌==◌, ◌&&◌, ◌||◌, Ok, Err, nat_lt}
use Rattle.mono_model.specs.Ticks.{max_nanos, up}
use Rattle.std.proofs.lemmas.Bool.{cases_eq, cases_lt}
use Rattle.std.proofs.lemmas.Bool.Decides.{eqb_tells}
use Rattle.std.proofs.lemmas.List.{get_or-set_other, get_or-set_same, get_or_past, length-set}
use Rattle.mono_model.specs.Table.{Table, value_at, next_number, is_full, is_issued, with_value}
use Rattle.mono_model.specs.Tasks.{Tasks, Task, Phase, idle, queued, running, done, taken, is_noted, is_finished, in_phase, with_task, without_task, queued_last, spawned, woken, woken_in, woken_value, woken_if_any, all_woken, begun, begun_value, paused_value, completed_value}
use Rattle.mono_model.specs.Joins.{kept_value, dropped_in, dropped_value, join_dropped, joined_in, joined_value, joined}
use Rattle.mono_model.specs.Inbox.{is_waiting, with_waiting}
use Rattle.mono_model.specs.Sleeps.{Sleep, elapsed, after_arming, woken_by_arming}
use Rattle.mono_model.specs.Valid.{AreValidTasks, IsValidTask, of_task, is_queued, is_running, is_unfinished}
use Rattle.mono_model.specs.declared.task_error.TaskError.TheVariants.{NoTask, NoHandle}
use Rattle.mono_model.proofs.ValidTaskLemmas.{value_before, value_last}
use Rattle.mono_machine.specs.Machine.{Machine, with_tasks, with_sleeps, with_inbox, IsValid, IsValidDuring}
use Rattle.mono_machine.specs.Acts.{Outcome, for_sleep, reset, answered, refused, act_outcome, query_outcome, step_outcome, block}
use Rattle.mono_machine.specs.SleepCalls.{reset_reply}
use Rattle.mono_machine.specs.Turns.{replies_of, after_steps, after_end, after_begin, turn_report_for, after_turn_for}
use Rattle.mono_machine.specs.Steps.{Step, ClockStep, Run, has_finished, after_fires, after_fire, at_clock, remote_report, after_remote, after_drain}
use Rattle.mono_model.specs.SleepActs as sleep
use Rattle.mono_model.specs.SleepAnswers.{waker_in}
use Rattle.mono_machine.specs.History.{waiter_at, woken_by_end, woken_by_turn, is_turn_of, has_turn_of, is_awaiting, says_woken, wakes_by_act, wakes_by_step, wakes_by_steps, begun_machine, is_waker, wakes_by_fires, is_listed, act_tells, turn_tells, clock_tells, drain_tells, tells_wake}
use Rattle.mono_machine.specs.declared.events.Act.{Act}
use Rattle.mono_machine.specs.declared.events.Act.TheVariants as act
use Rattle.mono_machine.specs.declared.events.Query.{Query}
use Rattle.mono_machine.specs.declared.events.Query.TheVariants as query
use Rattle.mono_machine.specs.declared.events.TurnStep.{TurnStep}
use Rattle.mono_machine.specs.declared.events.TurnStep.TheVariants as step
use Rattle.mono_machine.specs.declared.events.End.{End}
use Rattle.mono_machine.specs.declared.events.End.TheVariants as end
use Rattle.mono_machine.specs.declared.events.Event.{Event}
use Rattle.mono_machine.specs.declared.events.Event.TheVariants as event
use Rattle.mono_machine.specs.declared.events.Reply.{Reply}
use Rattle.mono_machine.specs.declared.events.Reply.TheVariants as reply
use Rattle.mono_machine.specs.declared.events.Refusal.TheVariants as refusal
use Rattle.mono_machine.specs.declared.events.Report.{Report}
use Rattle.mono_machine.specs.declared.events.Report.TheVariants as report
use Rattle.mono_machine.specs.declared.events.Blocking.{Blocking}
use Rattle.mono_machine.specs.declared.events.Blocking.TheVariants as blocking
use Rattle.mono_machine.proofs.ValidStepLemmas.{begin_valid, steps_valid, step_is_valid}

-- queued, noted while it runs, finished or absent
abbrev pub settled_phase : Phase ℕ → Bool
settled_phase idle = false
settled_phase queued = true
settled_phase (running noted) = noted
settled_phase (done output) = true
settled_phase taken = true

abbrev pub settled : Option (Task ℕ) → Bool
settled None = true
settled (Some task) = settled_phase task.phase

abbrev pub Settles : ℕ → Tasks ℕ → Type 0
Settles q tasks = settled (value_at tasks.table q) ≡ true

true-false : true ≡ false → ⊥
true-false e = cc

pub false-true : false ≡ true → ⊥
false-true e = cc

set_settles : (table : Table (Task ℕ)) (t : ℕ) (new : Option (Task ℕ)) → settled new ≡ true → settled (value_at (set table t new) t) ≡ true
set_settles table t new is = elim (cases_lt t (length table)) [
  | inl inside ↦ ap settled (get_or-set_same table t new None inside) ∙ is
  | inr past ↦ ap settled (get_or_past (set table t new) t None (omega (arith, past, length-set table t new)))
]

set_keeps : (table : Table (Task ℕ)) (t : ℕ) (old new : Option (Task ℕ)) → value_at table t ≡ old → (settled old ≡ true → settled new ≡ true) → (q : ℕ) → settled (value_at table q) ≡ true → settled (value_at (set table t new) q) ≡ true
set_keeps table t old new at keeps q is = elim (cases_eq q t) [
  | inl here ↦ subst (λ x. settled (value_at (set table t new) x) ≡ true) (sym here) (set_settles table t new (keeps (ap settled (sym at) ∙ ap (λ x. settled (value_at table x)) (sym here) ∙ is)))
  | inr apart ↦ ap settled (get_or-set_other table t q new None apart) ∙ is
]

module _ (tasks : Tasks ℕ) (t q : ℕ) where
  woken_phase : (task : Task ℕ) → value_at tasks.table t ≡ Some task → (phase : Phase ℕ) → task.phase ≡ phase → Settles q tasks → Settles q (woken_in phase tasks t task)
  woken_phase task at idle is = set_keeps tasks.table t (Some task) _ at (λ _. refl) q
  woken_phase task at queued is = λ s. s
  woken_phase task at (running noted) is = set_keeps tasks.table t (Some task) _ at (λ _. refl) q
  woken_phase task at (done output) is = λ s. s
  woken_phase task at taken is = λ s. s

  woken_at : (v : Option (Task ℕ)) → value_at tasks.table t ≡ v → Settles q tasks → Settles q (woken_value v tasks t)
  woken_at None at = λ s. s
  woken_at (Some task) at = woken_phase task at task.phase refl

  woken_keeps : Settles q tasks → Settles q (woken tasks t)
  woken_keeps = woken_at (value_at tasks.table t) refl

  -- the drop of the handle, and a poll of it
  dropped_phase : (task : Task ℕ) → value_at tasks.table t ≡ Some task → (phase : Phase ℕ) → task.phase ≡ phase → Settles q tasks → Settles q (dropped_in phase tasks t)
  dropped_phase task at idle is = set_keeps tasks.table t (Some task) _ at (λ s. ap settled_phase (sym is) ∙ s) q
  dropped_phase task at queued is = set_keeps tasks.table t (Some task) _ at (λ _. refl) q
  dropped_phase task at (running noted) is = set_keeps tasks.table t (Some task) _ at (λ s. ap settled_phase (sym is) ∙ s) q
  dropped_phase task at (done output) is = set_keeps tasks.table t (Some task) None at (λ _. refl) q
  dropped_phase task at taken is = set_keeps tasks.table t (Some task) None at (λ _. refl) q

  joined_phase : (by : ℕ) (task : Task ℕ) → value_at tasks.table t ≡ Some task → (phase : Phase ℕ) → task.phase ≡ phase → Settles q tasks → Settles q (joined_in phase tasks t by)
  joined_phase by task at idle is = set_keeps tasks.table t (Some task) _ at (λ s. ap settled_phase (sym is) ∙ s) q
  joined_phase by task at queued is = set_keeps tasks.table t (Some task) _ at (λ _. refl) q
  joined_phase by task at (running noted) is = set_keeps tasks.table t (Some task) _ at (λ s. ap settled_phase (sym is) ∙ s) q
  joined_phase by task at (done output) is = set_keeps tasks.table t (Some task) _ at (λ _. refl) q
  joined_phase by task at taken is = λ s. s

  dropped_kept : (task : Task ℕ) → value_at tasks.table t ≡ Some task → (k : Bool) → Settles q tasks → Settles q (dropped_value (cond k (Ok task) (Err NoHandle)) tasks t)
  dropped_kept task at true = dropped_phase task at task.phase refl
  dropped_kept task at false = λ s. s

  joined_kept : (by : ℕ) (task : Task ℕ) → value_at tasks.table t ≡ Some task → (k : Bool) → Settles q tasks → Settles q (joined_value (cond k (Ok task) (Err NoHandle)) tasks t by)
  joined_kept by task at true = joined_phase by task at task.phase refl
  joined_kept by task at false = λ s. s

  dropped_by : (b : Bool) (v : Option (Task ℕ)) → value_at tasks.table t ≡ v → Settles q tasks → Settles q (dropped_value (cond b (kept_value v) (Err NoTask)) tasks t)
  dropped_by true None at = λ s. s
  dropped_by true (Some task) at = dropped_kept task at task.is_kept
  dropped_by false v at = λ s. s

  joined_by : (by : ℕ) (b : Bool) (v : Option (Task ℕ)) → value_at tasks.table t ≡ v → Settles q tasks → Settles q (joined_value (cond b (kept_value v) (Err NoTask)) tasks t by)
  joined_by by true None at = λ s. s
  joined_by by true (Some task) at = joined_kept by task at task.is_kept
  joined_by by false v at = λ s. s

  dropped_keeps : Settles q tasks → Settles q (join_dropped tasks t)
  dropped_keeps = dropped_by (is_issued tasks.table t) (value_at tasks.table t) refl

  joined_keeps : (by : ℕ) → Settles q tasks → Settles q (joined tasks t by)
  joined_keeps by = joined_by by (is_issued tasks.table t) (value_at tasks.table t) refl

-- a wake settles the task
pub woken_settles : (tasks : Tasks ℕ) (t : ℕ) → Settles t (woken tasks t)
woken_settles tasks t = by_value (value_at tasks.table t) refl
  where
    by_phase : (task : Task ℕ) → value_at tasks.table t ≡ Some task → (phase : Phase ℕ) → task.phase ≡ phase → Settles t (woken_in phase tasks t task)
    by_phase task at idle is = set_settles tasks.table t (Some (in_phase task queued)) refl
    by_phase task at queued is = ap settled at ∙ ap settled_phase is
    by_phase task at (running noted) is = set_settles tasks.table t (Some (in_phase task (running true))) refl
    by_phase task at (done output) is = ap settled at ∙ ap settled_phase is
    by_phase task at taken is = ap settled at ∙ ap settled_phase is

    by_value : (v : Option (Task ℕ)) → value_at tasks.table t ≡ v → Settles t (woken_value v tasks t)
    by_value None at = ap settled at
    by_value (Some task) at = by_phase task at task.phase refl

waker_keeps : (tasks : Tasks ℕ) (w : Option ℕ) (q : ℕ) → Settles q tasks → Settles q (woken_if_any tasks w)
waker_keeps tasks None q s = s
waker_keeps tasks (Some t) q s = woken_keeps tasks t q s

all_woken_keeps : (tasks : Tasks ℕ) (ts : List ℕ) (q : ℕ) → Settles q tasks → Settles q (all_woken tasks ts)
all_woken_keeps tasks [] q s = s
all_woken_keeps tasks (t ∷ ts) q s = all_woken_keeps (woken tasks t) ts q (woken_keeps tasks t q s)

all_woken_settles : (tasks : Tasks ℕ) (ts : List ℕ) (q : ℕ) → is_waiting ts q ≡ true → Settles q (all_woken tasks ts)
all_woken_settles tasks [] q is = absurd (false-true is)
all_woken_settles tasks (t ∷ ts) q is = elim (eqb_tells t q) [
  | inl here ↦ all_woken_keeps (woken tasks t) ts q (subst (λ x. Settles x (woken tasks t)) here.1 (woken_settles tasks t))
  | inr apart ↦ all_woken_settles (woken tasks t) ts q (sym (ap (λ b. b || is_waiting ts q) apart.0) ∙ is)
]

spawned_keeps : (tasks : Tasks ℕ) (q : ℕ) → Settles q tasks → Settles q (spawned tasks)
spawned_keeps tasks q s = elim (cases_eq q (length tasks.table)) [
  | inl here ↦ subst (λ x. Settles x (spawned tasks)) (sym here) (ap settled (value_last tasks.table _))
  | inr apart ↦ ap settled (value_before tasks.table _ q apart) ∙ s
]

-- a turn begins, of another task
begun_keeps : (tasks : Tasks ℕ) (front : ℕ) (rest : List ℕ) (q : ℕ) → q ≢ front → Settles q tasks → Settles q (begun tasks front rest)
begun_keeps tasks front rest q apart s = by_value (value_at tasks.table front)
  where
    by_value : (v : Option (Task ℕ)) → Settles q (begun_value v (record { queue = rest; table = tasks.table; limit = tasks.limit }) front)
    by_value None = s
    by_value (Some task) = ap settled (get_or-set_other tasks.table front q (Some (in_phase task (running false))) None apart) ∙ s

-- a turn ends
running_settled : (phase : Phase ℕ) → is_running phase ≡ true → settled_phase phase ≡ is_noted phase
running_settled idle is = absurd (false-true is)
running_settled queued is = absurd (false-true is)
running_settled (running noted) is = refl
running_settled (done output) is = absurd (false-true is)
running_settled taken is = absurd (false-true is)

module _ (me : ℕ) (tasks : Tasks ℕ) (valid : AreValidTasks (Some me) tasks) (q : ℕ) where
  paused_by : (b : Bool) (task : Task ℕ) → value_at tasks.table me ≡ Some task → is_noted task.phase ≡ b → Settles q tasks → Settles q (cond b (queued_last tasks me task) (with_task tasks me (in_phase task idle)))
  paused_by true task at is = set_keeps tasks.table me (Some task) (Some (in_phase task queued)) at (λ _. refl) q
  paused_by false task at is = set_keeps tasks.table me (Some task) (Some (in_phase task idle)) at (λ s. sym is ∙ sym (running_settled task.phase (ap (of_task is_running) (sym at) ∙ valid.has_turn me refl)) ∙ s) q

  paused_at : (v : Option (Task ℕ)) → value_at tasks.table me ≡ v → Settles q tasks → Settles q (paused_value v tasks me)
  paused_at None at = λ s. s
  paused_at (Some task) at = paused_by (is_noted task.phase) task at refl

  paused_keeps : Settles q tasks → Settles q (paused_value (value_at tasks.table me) tasks me)
  paused_keeps = paused_at (value_at tasks.table me) refl

module _ (me : ℕ) (tasks : Tasks ℕ) (output q : ℕ) where
  completed_by : (b : Bool) (task : Task ℕ) → value_at tasks.table me ≡ Some task → Settles q tasks
      → Settles q (cond b (woken_if_any (with_task tasks me (record { phase = done output; is_kept = true; waiter = None })) task.waiter) (without_task tasks me))
  completed_by true task at s = waker_keeps (with_task tasks me (record { phase = done output; is_kept = true; waiter = None })) task.waiter q (set_keeps tasks.table me (Some task) (Some (record { phase = done output; is_kept = true; waiter = None })) at (λ _. refl) q s)
  completed_by false task at s = set_keeps tasks.table me (Some task) None at (λ _. refl) q s

  completed_at : (v : Option (Task ℕ)) → value_at tasks.table me ≡ v → Settles q tasks → Settles q (completed_value v tasks me output)
  completed_at None at s = s
  completed_at (Some task) at s = completed_by task.is_kept task at s

  completed_keeps : Settles q tasks → Settles q (completed_value (value_at tasks.table me) tasks me output)
  completed_keeps = completed_at (value_at tasks.table me) refl

-- settled, or in the inbox
abbrev pub IsKept : ℕ → Machine → Type 0
IsKept t m = (settled (value_at m.tasks.table t) || is_waiting m.inbox t) ≡ true

or_mono : (a b c : Bool) → (a ≡ true → b ≡ true) → (a || c) ≡ true → (b || c) ≡ true
or_mono true b c more is = ap (λ x. x || c) (more refl)
or_mono false true c more is = refl
or_mono false false c more is = is

kept_tasks : (t : ℕ) (m : Machine) (tasks : Tasks ℕ) → (Settles t m.tasks → Settles t tasks) → IsKept t m → IsKept t (with_tasks m tasks)
kept_tasks t m tasks keeps is = or_mono (settled (value_at m.tasks.table t)) (settled (value_at tasks.table t)) (is_waiting m.inbox t) keeps is

pub settled_kept : (t : ℕ) (m : Machine) → Settles t m.tasks → IsKept t m
settled_kept t m is = ap (λ x. x || is_waiting m.inbox t) is

by_test : (t : ℕ) (b : Bool) (x y : Outcome) → IsKept t x.machine → IsKept t y.machine → IsKept t (cond b x y).machine
by_test t true x y at_true at_false = at_true
by_test t false x y at_true at_false = at_false

module _ (t : ℕ) (m : Machine) (kept : IsKept t m) where
  of_sleep : (v : Option Sleep) (outcome : Outcome) → IsKept t outcome.machine → IsKept t (for_sleep v m outcome).machine
  of_sleep None outcome is = kept
  of_sleep (Some value) outcome is = is

  reset_kept : (s n : ℕ) → IsKept t (reset s n m).machine
  reset_kept s n = kept_tasks t m (woken_if_any m.tasks (waker_in (sleep.reset_answer m.sleeps s n))) (waker_keeps m.tasks (waker_in (sleep.reset_answer m.sleeps s n)) t) kept

  block_kept : (b : Blocking) (output : ℕ) → IsKept t (block b output m).machine
  block_kept blocking.Attached output = kept
  block_kept blocking.ExecuteLocal output = kept
  block_kept blocking.Panic output = kept

  act_kept : (a : Act) → IsKept t (act_outcome a m).machine
  act_kept act.Spawn = by_test t (is_full m.tasks.table m.tasks.limit) _ _ kept (kept_tasks t m (spawned m.tasks) (spawned_keeps m.tasks t) kept)
  act_kept (act.Wake u) = kept_tasks t m (woken m.tasks u) (woken_keeps m.tasks u t) kept
  act_kept (act.NewSleep n) = by_test t (is_full m.sleeps.table m.sleeps.limit) _ _ kept (by_test t _ _ _ kept kept)
  act_kept (act.Reset s n) = of_sleep (value_at m.sleeps.table s) _ (by_test t (nat_lt max_nanos n) _ _ kept (reset_kept s n))
  act_kept (act.DropSleep s) = kept
  act_kept (act.SleepElapsed s) = kept
  act_kept (act.DropJoin u) = kept_tasks t m (join_dropped m.tasks u) (dropped_keeps m.tasks u t) kept
  act_kept (act.Block output) = by_test t (is_full m.jobs.table m.jobs.limit) _ _ kept (block_kept m.strategy output)
  act_kept (act.DropJob j) = kept
  act_kept (act.Finished u) = kept
  act_kept (act.JobFinished j) = kept
  act_kept (act.JobEnd j h) = kept

  query_kept : (me : ℕ) (q : Query) → IsKept t (query_outcome me q m).machine
  query_kept me (query.Sleep s) = kept
  query_kept me (query.Join u) = kept_tasks t m (joined m.tasks u me) (joined_keeps m.tasks u t me) kept
  query_kept me (query.Job j) = kept

  one_step_kept : (me : ℕ) (s : TurnStep) → IsKept t (step_outcome me s m).machine
  one_step_kept me (step.Act a) = act_kept a
  one_step_kept me (step.Query q) = query_kept me q

pub steps_kept : (t me : ℕ) (steps : List TurnStep) (m : Machine) → IsKept t m → IsKept t (after_steps me steps m)
steps_kept t me [] m kept = kept
steps_kept t me (s ∷ steps) m kept = steps_kept t me steps (step_outcome me s m).machine (one_step_kept t m kept me s)

pub end_kept : (t me : ℕ) (e : End) (m : Machine) → IsValidDuring (Some me) m → IsKept t m → IsKept t (after_end e me m)
end_kept t me end.Pending m valid kept = kept_tasks t m (paused_value (value_at m.tasks.table me) m.tasks me) (paused_keeps me m.tasks valid.tasks t) kept
end_kept t me (end.Ready output) m valid kept = kept_tasks t m (completed_value (value_at m.tasks.table me) m.tasks me output) (completed_keeps me m.tasks output t) kept

fires_kept : (t : ℕ) (fired : List ℕ) (m : Machine) → IsKept t m → IsKept t (after_fires m fired)
fires_kept t [] m kept = kept
fires_kept t (s ∷ fired) m kept = fires_kept t fired (after_fire m s) (kept_tasks t m (woken_if_any m.tasks (sleep.waker_in (value_at m.sleeps.table s))) (waker_keeps m.tasks (sleep.waker_in (value_at m.sleeps.table s)) t) kept)

-- an act, a step or a firing that wakes the task
and_left : (a b : Bool) → (a && b) ≡ true → a ≡ true
and_left true b e = refl
and_left false b e = e

eqb_same : (u t : ℕ) → (u == t) ≡ true → u ≡ t
eqb_same u t e = elim (eqb_tells u t) [ inl same ↦ same.1 | inr apart ↦ absurd (true-false (sym e ∙ apart.0)) ]

waker_settles : (tasks : Tasks ℕ) (w : Option ℕ) (t : ℕ) → is_waker w t ≡ true → Settles t (woken_if_any tasks w)
waker_settles tasks None t is = absurd (false-true is)
waker_settles tasks (Some u) t is = subst (λ x. Settles x (woken tasks u)) (eqb_same u t is) (woken_settles tasks u)

pub act_wakes : (t : ℕ) (m : Machine) (a : Act) (r : Reply) → wakes_by_act t m a r ≡ true → IsKept t (act_outcome a m).machine
act_wakes t m (act.Wake u) r is = settled_kept t (with_tasks m (woken m.tasks u)) (subst (λ x. Settles x (woken m.tasks u)) (eqb_same u t (and_left (u == t) (says_woken r) is)) (woken_settles m.tasks u))
act_wakes t m (act.Reset s n) r is = by_limit (nat_lt max_nanos n) is
  where
    by_sleep : (v : Option Sleep) → is_waker (waker_in (sleep.of_live v (λ value. woken_by_arming value m.sleeps (up n)))) t ≡ true
        → IsKept t (for_sleep v m (answered (reset_reply m.sleeps.greatest (up n)) (with_tasks (with_sleeps m (sleep.if_live v m.sleeps (λ value. after_arming value m.sleeps s (up n)))) (woken_if_any m.tasks (waker_in (sleep.of_live v (λ value. woken_by_arming value m.sleeps (up n)))))))).machine
    by_sleep None told = absurd (false-true told)
    by_sleep (Some value) told = settled_kept t (with_tasks m (woken_if_any m.tasks (woken_by_arming value m.sleeps (up n)))) (waker_settles m.tasks (woken_by_arming value m.sleeps (up n)) t told)

    by_limit : (b : Bool) → (not b && is_waker (waker_in (sleep.reset_answer m.sleeps s n)) t) ≡ true → IsKept t (for_sleep (value_at m.sleeps.table s) m (cond b (refused refusal.Invalid m) (reset s n m))).machine
    by_limit true told = absurd (false-true told)
    by_limit false told = by_sleep (value_at m.sleeps.table s) told
act_wakes t m (act.DropSleep s) r is = absurd (false-true is)
act_wakes t m (act.SleepElapsed s) r is = absurd (false-true is)
act_wakes t m act.Spawn r is = absurd (false-true is)
act_wakes t m (act.NewSleep n) r is = absurd (false-true is)
act_wakes t m (act.DropJoin u) r is = absurd (false-true is)
act_wakes t m (act.Block output) r is = absurd (false-true is)
act_wakes t m (act.DropJob j) r is = absurd (false-true is)
act_wakes t m (act.Finished u) r is = absurd (false-true is)
act_wakes t m (act.JobFinished j) r is = absurd (false-true is)
act_wakes t m (act.JobEnd j h) r is = absurd (false-true is)

step_wakes : (t me : ℕ) (m : Machine) (s : TurnStep) (r : Reply) → wakes_by_step t m s r ≡ true → IsKept t (step_outcome me s m).machine
step_wakes t me m (step.Act a) r is = act_wakes t m a r is
step_wakes t me m (step.Query q) r is = absurd (false-true is)

steps_wake : (t me : ℕ) (steps : List TurnStep) (m : Machine) → wakes_by_steps t me m steps (replies_of me steps m) ≡ true → IsKept t (after_steps me steps m)
steps_wake t me [] m is = absurd (false-true is)
steps_wake t me (s ∷ steps) m is = by_first (steps_wake t me steps (step_outcome me s m).machine) (wakes_by_step t m s (step_outcome me s m).reply) refl is
  where
    by_first : (wakes_by_steps t me (step_outcome me s m).machine steps (replies_of me steps (step_outcome me s m).machine) ≡ true → IsKept t (after_steps me steps (step_outcome me s m).machine)) → (b : Bool) → wakes_by_step t m s (step_outcome me s m).reply ≡ b → (b || wakes_by_steps t me (step_outcome me s m).machine steps (replies_of me steps (step_outcome me s m).machine)) ≡ true → IsKept t (after_steps me steps (step_outcome me s m).machine)
    by_first later true here all = steps_kept t me steps (step_outcome me s m).machine (step_wakes t me m s (step_outcome me s m).reply here)
    by_first later false here all = later all

-- a sleep that fires later has the waker that it had, or it is the one that has fired
either : (a b c r w : Bool) → (a ≡ true → (b || c) ≡ true) → (w ≡ true → (b || r) ≡ true) → (a || w) ≡ true → (b || (c || r)) ≡ true
either a true c r w first rest is = refl
either a false true r w first rest is = refl
either true false false r w first rest is = absurd (false-true (first refl))
either false false false r w first rest is = rest is

or_left : (a b : Bool) → a ≡ true → (a || b) ≡ true
or_left a b is = ap (λ x. x || b) is

pub or_right : (a b : Bool) → b ≡ true → (a || b) ≡ true
or_right true b is = refl
or_right false b is = is

waker_first : (t : ℕ) (table : Table Sleep) (s : ℕ) (fired : List ℕ) → wakes_by_fires t table fired ≡ true → (is_waker (sleep.waker_in (value_at table s)) t || wakes_by_fires t (with_value table s elapsed) fired) ≡ true
waker_first t table s [] is = absurd (false-true is)
waker_first t table s (q ∷ fired) is =
    either (is_waker (sleep.waker_in (value_at table q)) t) (is_waker (sleep.waker_in (value_at table s)) t) (is_waker (sleep.waker_in (value_at (with_value table s elapsed) q)) t) _ (wakes_by_fires t table fired)
    (λ wakes. elim (cases_eq q s) [
      | inl here ↦ or_left _ _ (ap (λ x. is_waker (sleep.waker_in (value_at table x)) t) (sym here) ∙ wakes)
      | inr apart ↦ or_right _ _ (ap (λ v. is_waker (sleep.waker_in v) t) (get_or-set_other table s q (Some elapsed) None apart) ∙ wakes)
    ])
    (waker_first t table s fired) is

pub fires_wake : (t : ℕ) (fired : List ℕ) (m : Machine) → wakes_by_fires t m.sleeps.table fired ≡ true → IsKept t (after_fires m fired)
fires_wake t [] m is = absurd (false-true is)
fires_wake t (s ∷ fired) m is = by_first (fires_wake t fired (after_fire m s)) (is_waker (sleep.waker_in (value_at m.sleeps.table s)) t) refl is
  where
    by_first : (wakes_by_fires t (with_value m.sleeps.table s elapsed) fired ≡ true → IsKept t (after_fires (after_fire m s) fired)) → (b : Bool) → is_waker (sleep.waker_in (value_at m.sleeps.table s)) t ≡ b → (b || wakes_by_fires t m.sleeps.table fired) ≡ true → IsKept t (after_fires (after_fire m s) fired)
    by_first later true here all = fires_kept t fired (after_fire m s) (settled_kept t (after_fire m s) (waker_settles m.tasks (sleep.waker_in (value_at m.sleeps.table s)) t here))
    by_first later false here all = later (sym (ap (λ b. b || wakes_by_fires t (with_value m.sleeps.table s elapsed) fired) here) ∙ waker_first t m.sleeps.table s fired all)

-- a wake that is listed
pub waiting_last : (inbox : List ℕ) (t : ℕ) → is_waiting (with_waiting inbox t) t ≡ true
waiting_last [] t = ap (λ b. b || false) (eq-eqb t t refl)
waiting_last (x ∷ inbox) t = or_right (x == t) _ (waiting_last inbox t)

waiting_more : (inbox : List ℕ) (u t : ℕ) → is_waiting inbox t ≡ true → is_waiting (with_waiting inbox u) t ≡ true
waiting_more [] u t is = absurd (false-true is)
waiting_more (x ∷ inbox) u t is = by_first (waiting_more inbox u t) (x == t) is
  where
    by_first : (is_waiting inbox t ≡ true → is_waiting (with_waiting inbox u) t ≡ true) → (b : Bool) → (b || is_waiting inbox t) ≡ true → (b || is_waiting (with_waiting inbox u) t) ≡ true
    by_first later true all = refl
    by_first later false all = later all

kept_more : (t u : ℕ) (m : Machine) → IsKept t m → IsKept t (with_inbox m (with_waiting m.inbox u))
kept_more t u m kept = by_first (settled (value_at m.tasks.table t)) kept
  where
    by_first : (b : Bool) → (b || is_waiting m.inbox t) ≡ true → (b || is_waiting (with_waiting m.inbox u) t) ≡ true
    by_first true all = refl
    by_first false all = waiting_more m.inbox u t all

remote_kept : (t u : ℕ) (m : Machine) → IsKept t m → IsKept t (after_remote m u)
remote_kept t u m kept = by_issued (is_issued m.tasks.table u) (has_finished (value_at m.tasks.table u) || is_waiting m.inbox u)
  where
    by_issued : (b d : Bool) → IsKept t (cond b (cond d m (with_inbox m (with_waiting m.inbox u))) m)
    by_issued true true = kept
    by_issued true false = kept_more t u m kept
    by_issued false d = kept

and_right : (a b : Bool) → (a && b) ≡ true → b ≡ true
and_right true b e = e
and_right false b e = absurd (false-true e)

remote_wakes : (t u : ℕ) (m : Machine) → ((u == t) && is_listed (remote_report m u)) ≡ true → IsKept t (after_remote m u)
remote_wakes t u m is = by_issued (is_issued m.tasks.table u) (has_finished (value_at m.tasks.table u) || is_waiting m.inbox u) (and_right (u == t) _ is)
  where
    by_issued : (b d : Bool) → is_listed (cond b (cond d report.Unlisted report.Listed) (report.Reply (reply.Refused refusal.NoTask))) ≡ true → IsKept t (cond b (cond d m (with_inbox m (with_waiting m.inbox u))) m)
    by_issued true true told = absurd (false-true told)
    by_issued true false told = or_right (settled (value_at m.tasks.table t)) _ (subst (λ x. is_waiting (with_waiting m.inbox u) x ≡ true) (eqb_same u t (and_left (u == t) _ is)) (waiting_last m.inbox u))
    by_issued false d told = absurd (false-true told)

-- a drain
drain_kept : (t : ℕ) (m : Machine) → IsKept t m → IsKept t (after_drain m)
drain_kept t m kept = by_first (settled (value_at m.tasks.table t)) refl kept
  where
    by_first : (b : Bool) → settled (value_at m.tasks.table t) ≡ b → (b || is_waiting m.inbox t) ≡ true → IsKept t (after_drain m)
    by_first true here all = settled_kept t (after_drain m) (all_woken_keeps m.tasks m.inbox t here)
    by_first false here all = settled_kept t (after_drain m) (all_woken_settles m.tasks m.inbox t all)

-- one event
begin_kept : (t : ℕ) (m : Machine) (front : ℕ) (rest : List ℕ) → (front == t) ≡ false → IsKept t m → IsKept t (after_begin front rest m)
begin_kept t m front rest apart kept = kept_tasks t m (begun m.tasks front rest) (begun_keeps m.tasks front rest t (λ same. true-false (sym (eq-eqb front t (sym same)) ∙ apart))) kept

turn_kept : (t : ℕ) (steps : List TurnStep) (e : End) (m : Machine) → IsValid m → IsKept t m → (queue : List ℕ) → m.tasks.queue ≡ queue → is_turn_of t (turn_report_for queue steps e m) ≡ false → IsKept t (after_turn_for queue steps e m)
turn_kept t steps e m valid kept [] is apart = kept
turn_kept t steps e m valid kept (front ∷ rest) is apart =
    end_kept t front e _ (steps_valid front steps (after_begin front rest m) (begin_valid m front rest is valid)) (steps_kept t front steps (after_begin front rest m) (begin_kept t m front rest apart kept))

-- The end of the turn wakes the task that waits for the output.
module _ (me output t : ℕ) (m : Machine) (valid : IsValidDuring (Some me) m) where
  waiter_kept : (next : ℕ) (task : Task ℕ) (w : Option ℕ) → task.waiter ≡ w → is_waker w t ≡ true → IsValidTask next task → task.is_kept ≡ true
  waiter_kept next task None is wakes ok = absurd (false-true wakes)
  waiter_kept next task (Some u) is wakes ok = (subst (λ w. IfSome w (λ x. (x < next) × (is_unfinished task.phase ≡ true) × (task.is_kept ≡ true))) is ok.waiter).2

  completed_wakes : (task : Task ℕ) (b : Bool) → task.is_kept ≡ b → task.is_kept ≡ true → is_waker task.waiter t ≡ true
      → Settles t (cond b (woken_if_any (with_task m.tasks me (record { phase = done output; is_kept = true; waiter = None })) task.waiter) (without_task m.tasks me))
  completed_wakes task true is kept wakes = waker_settles (with_task m.tasks me (record { phase = done output; is_kept = true; waiter = None })) task.waiter t wakes
  completed_wakes task false is kept wakes = absurd (true-false (sym kept ∙ is))

  value_wakes : (v : Option (Task ℕ)) → value_at m.tasks.table me ≡ v → is_waker (waiter_at v) t ≡ true → Settles t (completed_value v m.tasks me output)
  value_wakes None at wakes = absurd (false-true wakes)
  value_wakes (Some task) at wakes =
      completed_wakes task task.is_kept refl
      (waiter_kept (next_number m.tasks.table) task task.waiter refl wakes (subst (λ v. IfSome v (IsValidTask (next_number m.tasks.table))) at (valid.tasks.each me))) wakes

  pub ready_wakes : is_waker (waiter_at (value_at m.tasks.table me)) t ≡ true → IsKept t (after_end (end.Ready output) me m)
  ready_wakes wakes = settled_kept t (after_end (end.Ready output) me m) (value_wakes (value_at m.tasks.table me) refl wakes)

end_wakes : (t me : ℕ) (e : End) (m : Machine) → IsValidDuring (Some me) m → is_waker (woken_by_end e me m) t ≡ true → IsKept t (after_end e me m)
end_wakes t me end.Pending m valid wakes = absurd (false-true wakes)
end_wakes t me (end.Ready output) m valid wakes = ready_wakes me output t m valid wakes

turn_wakes : (t : ℕ) (steps : List TurnStep) (e : End) (m : Machine) → IsValid m → (queue : List ℕ) → m.tasks.queue ≡ queue → (turn_tells t (begun_machine queue m) steps (turn_report_for queue steps e m) || is_waker (woken_by_turn queue steps e m) t) ≡ true → IsKept t (after_turn_for queue steps e m)
turn_wakes t steps e m valid [] is told = absurd (false-true told)
turn_wakes t steps e m valid (front ∷ rest) is told = by_first (wakes_by_steps t front (after_begin front rest m) steps (replies_of front steps (after_begin front rest m))) refl told
  where
    ends : IsValidDuring (Some front) (after_steps front steps (after_begin front rest m))
    ends = steps_valid front steps (after_begin front rest m) (begin_valid m front rest is valid)

    by_first : (b : Bool) → wakes_by_steps t front (after_begin front rest m) steps (replies_of front steps (after_begin front rest m)) ≡ b → (b || is_waker (woken_by_end e front (after_steps front steps (after_begin front rest m))) t) ≡ true
        → IsKept t (after_end e front (after_steps front steps (after_begin front rest m)))
    by_first true here all = end_kept t front e (after_steps front steps (after_begin front rest m)) ends (steps_wake t front steps (after_begin front rest m) here)
    by_first false here all = end_wakes t front e (after_steps front steps (after_begin front rest m)) ends all

clock_kept : (t : ℕ) (m : Machine) (n : ℕ) (answer : Report) (new : Machine) → IsKept t m → ClockStep m n answer new → IsKept t new
clock_kept t m n (report.Fired fired) new kept is = subst (IsKept t) (sym is.2) (fires_kept t fired (at_clock m n) kept)
clock_kept t m n (report.Reply r) new kept is = subst (IsKept t) (sym is.2) kept
clock_kept t m n (report.Turn me replies ended) new kept is = absurd is
clock_kept t m n report.Listed new kept is = absurd is
clock_kept t m n report.Unlisted new kept is = absurd is
clock_kept t m n (report.Drained tasks) new kept is = absurd is

clock_wakes : (t : ℕ) (m : Machine) (n : ℕ) (answer : Report) (new : Machine) → clock_tells t m.sleeps.table answer ≡ true → ClockStep m n answer new → IsKept t new
clock_wakes t m n (report.Fired fired) new told is = subst (IsKept t) (sym is.2) (fires_wake t fired (at_clock m n) told)
clock_wakes t m n (report.Reply r) new told is = absurd (false-true told)
clock_wakes t m n (report.Turn me replies ended) new told is = absurd is
clock_wakes t m n report.Listed new told is = absurd is
clock_wakes t m n report.Unlisted new told is = absurd is
clock_wakes t m n (report.Drained tasks) new told is = absurd is

pub event_kept : (t : ℕ) (old : Machine) (e : Event) (answer : Report) (new : Machine) → IsValid old → IsKept t old → Step old e answer new → is_turn_of t answer ≡ false → IsKept t new
event_kept t old (event.Act a) answer new valid kept is apart = subst (IsKept t) (sym is.1) (act_kept t old kept a)
event_kept t old (event.Turn steps e) answer new valid kept is apart = subst (IsKept t) (sym is.1) (turn_kept t steps e old valid kept old.tasks.queue refl (sym (ap (is_turn_of t) is.0) ∙ apart))
event_kept t old (event.Clock n) answer new valid kept is apart = clock_kept t old n answer new kept is
event_kept t old (event.Remote u) answer new valid kept is apart = subst (IsKept t) (sym is.1) (remote_kept t u old kept)
event_kept t old event.Drain answer new valid kept is apart = subst (IsKept t) (sym is.1) (drain_kept t old kept)

event_wakes : (t : ℕ) (old : Machine) (e : Event) (answer : Report) (new : Machine) → IsValid old → Step old e answer new → tells_wake t old e answer ≡ true → IsKept t new
event_wakes t old (event.Act a) answer new valid is told = subst (IsKept t) (sym is.1) (act_wakes t old a (act_outcome a old).reply (sym (ap (act_tells t old a) is.0) ∙ told))
event_wakes t old (event.Turn steps e) answer new valid is told = subst (IsKept t) (sym is.1) (turn_wakes t steps e old valid old.tasks.queue refl (sym (ap (λ r. turn_tells t (begun_machine old.tasks.queue old) steps r || is_waker (woken_by_turn old.tasks.queue steps e old) t) is.0) ∙ told))
event_wakes t old (event.Clock n) answer new valid is told = clock_wakes t old n answer new told is
event_wakes t old (event.Remote u) answer new valid is told = subst (IsKept t) (sym is.1) (remote_wakes t u old (sym (ap (λ r. (u == t) && is_listed r) is.0) ∙ told))
event_wakes t old event.Drain answer new valid is told = subst (IsKept t) (sym is.1) (drain_kept t old (or_right (settled (value_at old.tasks.table t)) _ (sym (ap (drain_tells t) is.0) ∙ told)))

-- a run
pub or_false_left : (a b : Bool) → (a || b) ≡ false → a ≡ false
or_false_left true b e = e
or_false_left false b e = refl

pub or_false_right : (a b : Bool) → (a || b) ≡ false → b ≡ false
or_false_right true b e = absurd (true-false e)
or_false_right false b e = e

pub waits : (t : ℕ) (m : Machine) → IsValid m → IsKept t m → has_finished (value_at m.tasks.table t) ≡ false → is_awaiting t m ≡ true
waits t m valid kept unfinished = by_value (value_at m.tasks.table t) refl kept unfinished
  where
    none-same : None ≡ Some t → ⊥
    none-same e = cc

    by_phase : (phase : Phase ℕ) → (is_running phase ≡ true → ⊥) → (settled_phase phase || is_waiting m.inbox t) ≡ true → is_finished phase ≡ false → (is_queued phase || is_waiting m.inbox t) ≡ true
    by_phase idle rests all unfinished = all
    by_phase queued rests all unfinished = refl
    by_phase (running noted) rests all unfinished = absurd (rests refl)
    by_phase (done output) rests all unfinished = absurd (true-false unfinished)
    by_phase taken rests all unfinished = absurd (true-false unfinished)

    by_value : (v : Option (Task ℕ)) → value_at m.tasks.table t ≡ v → (settled v || is_waiting m.inbox t) ≡ true → has_finished v ≡ false → (of_task is_queued v || is_waiting m.inbox t) ≡ true
    by_value None at all unfinished = absurd (true-false unfinished)
    by_value (Some task) at all unfinished = by_phase task.phase (λ runs. none-same (valid.tasks.runs t (ap (of_task is_running) at ∙ runs))) all unfinished

pub kept_runs : (t : ℕ) (events : List Event) (answers : List Report) (old new : Machine) → IsValid old → IsKept t old → Run old events answers new → has_turn_of t answers ≡ false → has_finished (value_at new.tasks.table t) ≡ false → is_awaiting t new ≡ true
kept_runs t [] [] old new valid kept run apart unfinished = rw run (waits t old valid kept (sym (ap (λ x. has_finished (value_at x.tasks.table t)) run) ∙ unfinished))
kept_runs t [] (answer ∷ answers) old new valid kept run apart unfinished = absurd run
kept_runs t (e ∷ events) [] old new valid kept run apart unfinished = absurd run
kept_runs t (e ∷ events) (answer ∷ answers) old new valid kept (mid, is, run) apart unfinished =
    kept_runs t events answers mid new (step_is_valid old e answer mid valid is) (event_kept t old e answer mid valid kept is (or_false_left (is_turn_of t answer) _ apart)) run (or_false_right (is_turn_of t answer) _ apart) unfinished

pub awaiting_kept : (t : ℕ) (m : Machine) → is_awaiting t m ≡ true → IsKept t m
awaiting_kept t m is = or_mono (of_task is_queued (value_at m.tasks.table t)) (settled (value_at m.tasks.table t)) (is_waiting m.inbox t) (by_value (value_at m.tasks.table t)) is
  where
    by_phase : (phase : Phase ℕ) → is_queued phase ≡ true → settled_phase phase ≡ true
    by_phase idle queues = absurd (false-true queues)
    by_phase queued queues = refl
    by_phase (running noted) queues = absurd (false-true queues)
    by_phase (done output) queues = refl
    by_phase taken queues = refl

    by_value : (v : Option (Task ℕ)) → of_task is_queued v ≡ true → settled v ≡ true
    by_value None queues = refl
    by_value (Some task) queues = by_phase task.phase queues

pub none_lost : (events : List Event) (answers : List Report) (old new : Machine) (t : ℕ) → IsValid old → Run old events answers new → is_awaiting t old ≡ true → has_turn_of t answers ≡ false → has_finished (value_at new.tasks.table t) ≡ false → is_awaiting t new ≡ true
none_lost events answers old new t valid run is apart unfinished = kept_runs t events answers old new valid (awaiting_kept t old is) run apart unfinished

pub wake_kept : (e : Event) (answer : Report) (events : List Event) (answers : List Report) (old mid new : Machine) (t : ℕ) → IsValid old → Step old e answer mid → tells_wake t old e answer ≡ true → Run mid events answers new → has_turn_of t answers ≡ false
    → has_finished (value_at new.tasks.table t) ≡ false → is_awaiting t new ≡ true
wake_kept e answer events answers old mid new t valid is told run apart unfinished = kept_runs t events answers mid new (step_is_valid old e answer mid valid is) (event_wakes t old e answer mid valid is told) run apart unfinished
