-- Which tasks have finished, after each change of the tasks.
use Rattle.std.proofs.Common.{◌≡◌, ◌≤◌, inl, inr, ℕ, true, false, Bool, cond, List, [], ◌∷◌, length, set, Some, None, Option, refl, ap, sym, subst, ◌∙◌, arith, eq-eqb, ne_eqb}
use Rattle.std.specs.Prelude.{not, ◌==◌, ◌&&◌, ◌||◌, Ok, Err}
use Rattle.std.proofs.lemmas.Bool.{cases_eq, cases_lt}
use Rattle.std.proofs.lemmas.List.{get_or-set_other, get_or-set_same, get_or_past, length-set}
use Rattle.mono_model.specs.Table.{Table, value_at, next_number, is_issued}
use Rattle.mono_model.specs.Tasks.{Tasks, Task, Phase, idle, queued, running, done, taken, is_finished, is_noted, in_phase, with_task, without_task, queued_last, spawned, woken, woken_in, woken_value, woken_if_any, all_woken, begun, begun_value, paused_value, completed_value}
use Rattle.mono_model.specs.Joins.{kept_value, dropped_in, dropped_value, join_dropped, joined_in, joined_value, joined}
use Rattle.mono_model.specs.Valid.{AreValidTasks, is_queued, is_running, of_task, times, once_if}
use Rattle.mono_model.specs.declared.task_error.TaskError.TheVariants.{NoTask, NoHandle}
use Rattle.mono_model.proofs.CountLemmas.{one_time}
use Rattle.mono_model.proofs.ValidTaskLemmas.{at_given, value_before, value_last}
use Rattle.mono_machine.specs.Steps.{has_finished}

-- the same tasks have finished
abbrev pub Alike : Tasks ℕ → Tasks ℕ → Type 0
Alike new old = (q : ℕ) → has_finished (value_at new.table q) ≡ has_finished (value_at old.table q)

alike_set : (table : Table (Task ℕ)) (t : ℕ) (old new : Option (Task ℕ)) → value_at table t ≡ old → has_finished new ≡ has_finished old → (q : ℕ) → has_finished (value_at (set table t new) q) ≡ has_finished (value_at table q)
alike_set table t old new at same q = elim (cases_eq q t) [
  | inl here ↦ subst (λ x. has_finished (value_at (set table t new) x) ≡ has_finished (value_at table x)) (sym here) (elim (cases_lt t (length table)) [
    | inl inside ↦ ap has_finished (get_or-set_same table t new None inside) ∙ same ∙ ap has_finished (sym at)
    | inr past ↦ ap has_finished (get_or_past (set table t new) t None (omega (arith, past, length-set table t new))) ∙ ap has_finished (sym (get_or_past table t None past))
  ])
  | inr apart ↦ ap has_finished (get_or-set_other table t q new None apart)
]

module _ (tasks : Tasks ℕ) (t : ℕ) where
  woken_phase : (task : Task ℕ) → value_at tasks.table t ≡ Some task → (phase : Phase ℕ) → task.phase ≡ phase → Alike (woken_in phase tasks t task) tasks
  woken_phase task at idle is = alike_set tasks.table t (Some task) (Some (in_phase task queued)) at (ap is_finished (sym is))
  woken_phase task at queued is = λ q. refl
  woken_phase task at (running noted) is = alike_set tasks.table t (Some task) (Some (in_phase task (running true))) at (ap is_finished (sym is))
  woken_phase task at (done output) is = λ q. refl
  woken_phase task at taken is = λ q. refl

  woken_at : (v : Option (Task ℕ)) → value_at tasks.table t ≡ v → Alike (woken_value v tasks t) tasks
  woken_at None at = λ q. refl
  woken_at (Some task) at = woken_phase task at task.phase refl

  pub alike_woken : Alike (woken tasks t) tasks
  alike_woken = woken_at (value_at tasks.table t) refl

  -- the drop of the handle, and a poll of it
  dropped_phase : (task : Task ℕ) → value_at tasks.table t ≡ Some task → (phase : Phase ℕ) → task.phase ≡ phase → Alike (dropped_in phase tasks t) tasks
  dropped_phase task at idle is = alike_set tasks.table t (Some task) _ at (ap is_finished (sym is))
  dropped_phase task at queued is = alike_set tasks.table t (Some task) _ at (ap is_finished (sym is))
  dropped_phase task at (running noted) is = alike_set tasks.table t (Some task) _ at (ap is_finished (sym is))
  dropped_phase task at (done output) is = alike_set tasks.table t (Some task) None at (ap is_finished (sym is))
  dropped_phase task at taken is = alike_set tasks.table t (Some task) None at (ap is_finished (sym is))

  joined_phase : (by : ℕ) (task : Task ℕ) → value_at tasks.table t ≡ Some task → (phase : Phase ℕ) → task.phase ≡ phase → Alike (joined_in phase tasks t by) tasks
  joined_phase by task at idle is = alike_set tasks.table t (Some task) _ at (ap is_finished (sym is))
  joined_phase by task at queued is = alike_set tasks.table t (Some task) _ at (ap is_finished (sym is))
  joined_phase by task at (running noted) is = alike_set tasks.table t (Some task) _ at (ap is_finished (sym is))
  joined_phase by task at (done output) is = alike_set tasks.table t (Some task) _ at (ap is_finished (sym is))
  joined_phase by task at taken is = λ q. refl

  dropped_kept : (task : Task ℕ) → value_at tasks.table t ≡ Some task → (k : Bool) → Alike (dropped_value (cond k (Ok task) (Err NoHandle)) tasks t) tasks
  dropped_kept task at true = dropped_phase task at task.phase refl
  dropped_kept task at false = λ q. refl

  joined_kept : (by : ℕ) (task : Task ℕ) → value_at tasks.table t ≡ Some task → (k : Bool) → Alike (joined_value (cond k (Ok task) (Err NoHandle)) tasks t by) tasks
  joined_kept by task at true = joined_phase by task at task.phase refl
  joined_kept by task at false = λ q. refl

  dropped_by : (b : Bool) (v : Option (Task ℕ)) → value_at tasks.table t ≡ v → Alike (dropped_value (cond b (kept_value v) (Err NoTask)) tasks t) tasks
  dropped_by true None at = λ q. refl
  dropped_by true (Some task) at = dropped_kept task at task.is_kept
  dropped_by false v at = λ q. refl

  joined_by : (by : ℕ) (b : Bool) (v : Option (Task ℕ)) → value_at tasks.table t ≡ v → Alike (joined_value (cond b (kept_value v) (Err NoTask)) tasks t by) tasks
  joined_by by true None at = λ q. refl
  joined_by by true (Some task) at = joined_kept by task at task.is_kept
  joined_by by false v at = λ q. refl

  pub alike_dropped : Alike (join_dropped tasks t) tasks
  alike_dropped = dropped_by (is_issued tasks.table t) (value_at tasks.table t) refl

  pub alike_joined : (by : ℕ) → Alike (joined tasks t by) tasks
  alike_joined by = joined_by by (is_issued tasks.table t) (value_at tasks.table t) refl

pub alike_woken_if_any : (tasks : Tasks ℕ) (w : Option ℕ) → Alike (woken_if_any tasks w) tasks
alike_woken_if_any tasks None = λ q. refl
alike_woken_if_any tasks (Some t) = alike_woken tasks t

pub alike_all_woken : (tasks : Tasks ℕ) (ts : List ℕ) → Alike (all_woken tasks ts) tasks
alike_all_woken tasks [] q = refl
alike_all_woken tasks (t ∷ ts) q = alike_all_woken (woken tasks t) ts q ∙ alike_woken tasks t q

-- one more task has not finished
pub finished-spawned : (tasks : Tasks ℕ) (q : ℕ) → has_finished (value_at (spawned tasks).table q) ≡ (not (q == next_number tasks.table) && has_finished (value_at tasks.table q))
finished-spawned tasks q = elim (cases_eq q (length tasks.table)) [
  | inl here ↦ ap (λ x. has_finished (value_at (spawned tasks).table x)) here ∙ ap has_finished (value_last tasks.table _) ∙ ap (λ b. not b && has_finished (value_at tasks.table q)) (sym (eq-eqb q (length tasks.table) here))
  | inr apart ↦ ap has_finished (value_before tasks.table _ q apart) ∙ ap (λ b. not b && has_finished (value_at tasks.table q)) (sym (ne_eqb q (length tasks.table) apart))
]

-- a turn begins: the front had not finished
true-false : true ≡ false → ⊥
true-false e = cc

false-true : false ≡ true → ⊥
false-true e = cc

pub queued_phase : (phase : Phase ℕ) → is_queued phase ≡ true → is_finished phase ≡ false
queued_phase idle is = refl
queued_phase queued is = refl
queued_phase (running noted) is = refl
queued_phase (done output) is = absurd (false-true is)
queued_phase taken is = absurd (false-true is)

running_phase : (phase : Phase ℕ) → is_running phase ≡ true → is_finished phase ≡ false
running_phase idle is = refl
running_phase queued is = refl
running_phase (running noted) is = refl
running_phase (done output) is = absurd (false-true is)
running_phase taken is = absurd (false-true is)

once_true : (b : Bool) → 1 ≤ once_if b → b ≡ true
once_true true le = refl
once_true false le = absurd (omega (arith, le))

module _ (tasks : Tasks ℕ) (front : ℕ) (rest : List ℕ) (is : tasks.queue ≡ front ∷ rest) (valid : AreValidTasks None tasks) where
  pub front_is_queued : of_task is_queued (value_at tasks.table front) ≡ true
  front_is_queued =
      let often : times (front ∷ rest) front ≡ once_if (of_task is_queued (value_at tasks.table front)) = ap (λ q. times q front) (sym is) ∙ valid.queue front in
      once_true _ (omega (arith, often, one_time front))

  begun_at : (v : Option (Task ℕ)) → value_at tasks.table front ≡ v → Alike (begun_value v (record { queue = rest; table = tasks.table; limit = tasks.limit }) front) tasks
  begun_at None at = λ q. refl
  begun_at (Some task) at = alike_set tasks.table front (Some task) (Some (in_phase task (running false))) at (sym (queued_phase task.phase (ap (of_task is_queued) (sym at) ∙ front_is_queued)))

  pub alike_begun : Alike (begun tasks front rest) tasks
  alike_begun = begun_at (value_at tasks.table front) refl

-- a turn ends pending: the task that ran has not finished
module _ (me : ℕ) (tasks : Tasks ℕ) (valid : AreValidTasks (Some me) tasks) where
  paused_by : (b : Bool) (task : Task ℕ) → value_at tasks.table me ≡ Some task → Alike (cond b (queued_last tasks me task) (with_task tasks me (in_phase task idle))) tasks
  paused_by true task at = alike_set tasks.table me (Some task) (Some (in_phase task queued)) at (sym (running_phase task.phase (ap (of_task is_running) (sym at) ∙ valid.has_turn me refl)))
  paused_by false task at = alike_set tasks.table me (Some task) (Some (in_phase task idle)) at (sym (running_phase task.phase (ap (of_task is_running) (sym at) ∙ valid.has_turn me refl)))

  paused_at : (v : Option (Task ℕ)) → value_at tasks.table me ≡ v → Alike (paused_value v tasks me) tasks
  paused_at None at = λ q. refl
  paused_at (Some task) at = paused_by (is_noted task.phase) task at

  pub alike_paused : Alike (paused_value (value_at tasks.table me) tasks me) tasks
  alike_paused = paused_at (value_at tasks.table me) refl

-- a turn ends ready: the task that ran has finished
module _ (me : ℕ) (tasks : Tasks ℕ) (output : ℕ) where
  finished_now : (task : Task ℕ) (new : Option (Task ℕ)) → value_at tasks.table me ≡ Some task → has_finished new ≡ true → (q : ℕ) → has_finished (value_at (set tasks.table me new) q) ≡ ((q == me) || has_finished (value_at tasks.table q))
  finished_now task new at is q = elim (cases_eq q me) [
    | inl here ↦ ap (λ x. has_finished (value_at (set tasks.table me new) x)) here ∙ ap has_finished (get_or-set_same tasks.table me new None (at_given tasks.table me task at)) ∙ is
        ∙ ap (λ b. b || has_finished (value_at tasks.table q)) (sym (eq-eqb q me here))
    | inr apart ↦ ap has_finished (get_or-set_other tasks.table me q new None apart) ∙ ap (λ b. b || has_finished (value_at tasks.table q)) (sym (ne_eqb q me apart))
  ]

  completed_by : (b : Bool) (task : Task ℕ) → value_at tasks.table me ≡ Some task → (q : ℕ)
      → has_finished (value_at (cond b (woken_if_any (with_task tasks me (record { phase = done output; is_kept = true; waiter = None })) task.waiter) (without_task tasks me)).table q) ≡ ((q == me) || has_finished (value_at tasks.table q))
  completed_by true task at q = alike_woken_if_any (with_task tasks me (record { phase = done output; is_kept = true; waiter = None })) task.waiter q ∙ finished_now task (Some (record { phase = done output; is_kept = true; waiter = None })) at refl q
  completed_by false task at q = finished_now task None at refl q

  gone_here : (b : Bool) (q : ℕ) → (q == me) ≡ b → value_at tasks.table me ≡ None → has_finished (value_at tasks.table q) ≡ (b || has_finished (value_at tasks.table q))
  gone_here true q is at = elim (cases_eq q me) [
    | inl here ↦ ap (λ x. has_finished (value_at tasks.table x)) here ∙ ap has_finished at
    | inr apart ↦ absurd (true-false (sym is ∙ ne_eqb q me apart))
  ]
  gone_here false q is at = refl

  completed_at : (v : Option (Task ℕ)) → value_at tasks.table me ≡ v → (q : ℕ) → has_finished (value_at (completed_value v tasks me output).table q) ≡ ((q == me) || has_finished (value_at tasks.table q))
  completed_at None at q = gone_here (q == me) q refl at
  completed_at (Some task) at q = completed_by task.is_kept task at q

  pub finished-completed : (q : ℕ) → has_finished (value_at (completed_value (value_at tasks.table me) tasks me output).table q) ≡ ((q == me) || has_finished (value_at tasks.table q))
  finished-completed = completed_at (value_at tasks.table me) refl
