-- Who waits for a source stays through what touches others, table by table.
use Rattle.std.proofs.Common.{◌≡◌, ◌≢◌, ◌<◌, inl, inr, ℕ, true, false, Bool, cond, List, [], ◌∷◌, length, set, Some, None, Option, refl, ap, sym, subst, ◌∙◌, arith}
use Rattle.std.specs.Prelude.{IfSome, Ok, Err, nat_le}
use Rattle.mono_model.specs.Ticks.{up}
use Rattle.std.proofs.lemmas.Bool.{cases_eq, cases_lt}
use Rattle.std.proofs.lemmas.List.{get_or-set_other, get_or-set_same, get_or_past}
use Rattle.mono_model.specs.Table.{Table, value_at, next_number, is_issued, with_next}
use Rattle.mono_model.specs.Tasks.{Tasks, Task, Phase, idle, queued, running, done, taken, is_noted, in_phase, with_task, without_task, queued_last, spawned, woken, woken_in, woken_value, woken_if_any, all_woken, begun, begun_value, paused_value, completed_value}
use Rattle.mono_model.specs.Joins.{kept_value, dropped_in, dropped_value, join_dropped, joined_in, joined_value, joined}
use Rattle.mono_model.specs.Valid.{IsValidTask, is_unfinished}
use Rattle.mono_model.specs.Sleeps.{Sleeps, Sleep, Arming, fresh, armed, elapsed, after_arming, armed_above, armed_later, armed_anew, with_sleep}
use Rattle.mono_model.specs.SleepActs as sleep
use Rattle.mono_model.specs.Jobs as job
use Rattle.mono_model.specs.Jobs.{Jobs, Job}
use Rattle.mono_model.specs.declared.task_error.TaskError.TheVariants.{NoTask, NoHandle}
use Rattle.mono_model.proofs.ValidTaskLemmas.{value_before}
use Rattle.mono_machine.specs.History.{waiter_at}
use Rattle.mono_machine.specs.Watches.{job_waiter}
use Rattle.mono_machine.specs.JobCalls as jobs
use Rattle.mono_machine.specs.declared.events.How.{How}
use Rattle.mono_machine.specs.declared.events.Refusal.TheVariants as refusal

pub none-some : (q : ℕ) → None ≡ Some q → ⊥
none-some q e = cc

pub true-false : true ≡ false → ⊥
true-false e = cc

-- a fact of the value at a place that no absent value has
module _ {V : Type 0} (P : Option V → Type 0) (never : P None → ⊥) (table : Table V) where
  pub set_other : (t u : ℕ) (new : Option V) → u ≢ t → P (value_at table u) → P (value_at (set table t new) u)
  set_other t u new apart is = subst P (sym (get_or-set_other table t u new None apart)) is

  pub set_carries : (t : ℕ) (old new : Option V) → value_at table t ≡ old → (P old → P new) → (u : ℕ) → P (value_at table u) → P (value_at (set table t new) u)
  set_carries t old new at keeps u is = elim (cases_eq u t) [
    | inl here ↦ elim (cases_lt t (length table)) [
      | inl inside ↦ subst (λ x. P (value_at (set table t new) x)) (sym here) (subst P (sym (get_or-set_same table t new None inside)) (keeps (subst P at (subst (λ x. P (value_at table x)) here is))))
      | inr past ↦ absurd (never (subst P (get_or_past table t None past) (subst (λ x. P (value_at table x)) here is)))
    ]
    | inr apart ↦ set_other t u new apart is
  ]

  pub push_carries : (v : V) (u : ℕ) → P (value_at table u) → P (value_at (with_next table v) u)
  push_carries v u is = elim (cases_eq u (length table)) [
    | inl here ↦ absurd (never (subst P (get_or_past table (length table) None (omega arith)) (subst (λ x. P (value_at table x)) here is)))
    | inr apart ↦ subst P (sym (value_before table v u apart)) is
  ]

-- q waits for the task u
abbrev pub TaskWaits : ℕ → ℕ → Tasks ℕ → Type 0
TaskWaits q u tasks = waiter_at (value_at tasks.table u) ≡ Some q

abbrev HasWaiter : ℕ → Option (Task ℕ) → Type 0
HasWaiter q v = waiter_at v ≡ Some q

module _ (q u : ℕ) where
  task_set : (tasks : Tasks ℕ) (t : ℕ) (old new : Option (Task ℕ)) → value_at tasks.table t ≡ old → (HasWaiter q old → HasWaiter q new) → TaskWaits q u tasks → HasWaiter q (value_at (set tasks.table t new) u)
  task_set tasks t old new at keeps = set_carries (HasWaiter q) (none-some q) tasks.table t old new at keeps u

  task_other : (tasks : Tasks ℕ) (t : ℕ) (new : Option (Task ℕ)) → u ≢ t → TaskWaits q u tasks → HasWaiter q (value_at (set tasks.table t new) u)
  task_other tasks t new apart = set_other (HasWaiter q) (none-some q) tasks.table t u new apart

  woken_phase : (tasks : Tasks ℕ) (t : ℕ) (task : Task ℕ) → value_at tasks.table t ≡ Some task → (phase : Phase ℕ) → TaskWaits q u tasks → TaskWaits q u (woken_in phase tasks t task)
  woken_phase tasks t task at idle = task_set tasks t (Some task) (Some (in_phase task queued)) at (λ s. s)
  woken_phase tasks t task at queued = λ s. s
  woken_phase tasks t task at (running noted) = task_set tasks t (Some task) (Some (in_phase task (running true))) at (λ s. s)
  woken_phase tasks t task at (done output) = λ s. s
  woken_phase tasks t task at taken = λ s. s

  woken_at : (tasks : Tasks ℕ) (t : ℕ) (v : Option (Task ℕ)) → value_at tasks.table t ≡ v → TaskWaits q u tasks → TaskWaits q u (woken_value v tasks t)
  woken_at tasks t None at = λ s. s
  woken_at tasks t (Some task) at = woken_phase tasks t task at task.phase

  pub woken_waits : (tasks : Tasks ℕ) (t : ℕ) → TaskWaits q u tasks → TaskWaits q u (woken tasks t)
  woken_waits tasks t = woken_at tasks t (value_at tasks.table t) refl

  pub waker_waits : (tasks : Tasks ℕ) (w : Option ℕ) → TaskWaits q u tasks → TaskWaits q u (woken_if_any tasks w)
  waker_waits tasks None s = s
  waker_waits tasks (Some t) s = woken_waits tasks t s

  pub all_woken_waits : (tasks : Tasks ℕ) (ts : List ℕ) → TaskWaits q u tasks → TaskWaits q u (all_woken tasks ts)
  all_woken_waits tasks [] s = s
  all_woken_waits tasks (t ∷ ts) s = all_woken_waits (woken tasks t) ts (woken_waits tasks t s)

  pub spawned_waits : (tasks : Tasks ℕ) → TaskWaits q u tasks → TaskWaits q u (spawned tasks)
  spawned_waits tasks = push_carries (HasWaiter q) (none-some q) tasks.table _ u

  begun_at : (tasks : Tasks ℕ) (front : ℕ) (rest : List ℕ) (v : Option (Task ℕ)) → value_at tasks.table front ≡ v → TaskWaits q u tasks → TaskWaits q u (begun_value v (record { queue = rest; table = tasks.table; limit = tasks.limit }) front)
  begun_at tasks front rest None at = λ s. s
  begun_at tasks front rest (Some task) at = task_set tasks front (Some task) (Some (in_phase task (running false))) at (λ s. s)

  pub begun_waits : (tasks : Tasks ℕ) (front : ℕ) (rest : List ℕ) → TaskWaits q u tasks → TaskWaits q u (begun tasks front rest)
  begun_waits tasks front rest = begun_at tasks front rest (value_at tasks.table front) refl

  paused_by : (tasks : Tasks ℕ) (me : ℕ) (b : Bool) (task : Task ℕ) → value_at tasks.table me ≡ Some task → TaskWaits q u tasks → TaskWaits q u (cond b (queued_last tasks me task) (with_task tasks me (in_phase task idle)))
  paused_by tasks me true task at = task_set tasks me (Some task) (Some (in_phase task queued)) at (λ s. s)
  paused_by tasks me false task at = task_set tasks me (Some task) (Some (in_phase task idle)) at (λ s. s)

  paused_at : (tasks : Tasks ℕ) (me : ℕ) (v : Option (Task ℕ)) → value_at tasks.table me ≡ v → TaskWaits q u tasks → TaskWaits q u (paused_value v tasks me)
  paused_at tasks me None at = λ s. s
  paused_at tasks me (Some task) at = paused_by tasks me (is_noted task.phase) task at

  pub paused_waits : (tasks : Tasks ℕ) (me : ℕ) → TaskWaits q u tasks → TaskWaits q u (paused_value (value_at tasks.table me) tasks me)
  paused_waits tasks me = paused_at tasks me (value_at tasks.table me) refl

  -- a turn that ends ready, of another task
  completed_by : (tasks : Tasks ℕ) (me output : ℕ) → u ≢ me → (b : Bool) (task : Task ℕ) → TaskWaits q u tasks
      → TaskWaits q u (cond b (woken_if_any (with_task tasks me (record { phase = done output; is_kept = true; waiter = None })) task.waiter) (without_task tasks me))
  completed_by tasks me output apart true task s = waker_waits (with_task tasks me (record { phase = done output; is_kept = true; waiter = None })) task.waiter (task_other tasks me _ apart s)
  completed_by tasks me output apart false task s = task_other tasks me None apart s

  completed_at : (tasks : Tasks ℕ) (me output : ℕ) → u ≢ me → (v : Option (Task ℕ)) → TaskWaits q u tasks → TaskWaits q u (completed_value v tasks me output)
  completed_at tasks me output apart None s = s
  completed_at tasks me output apart (Some task) s = completed_by tasks me output apart task.is_kept task s

  pub completed_waits : (tasks : Tasks ℕ) (me output : ℕ) → u ≢ me → TaskWaits q u tasks → TaskWaits q u (completed_value (value_at tasks.table me) tasks me output)
  completed_waits tasks me output apart = completed_at tasks me output apart (value_at tasks.table me)

  -- the drop of another handle
  dropped_phase : (tasks : Tasks ℕ) (t : ℕ) → u ≢ t → (phase : Phase ℕ) → TaskWaits q u tasks → TaskWaits q u (dropped_in phase tasks t)
  dropped_phase tasks t apart idle = task_other tasks t _ apart
  dropped_phase tasks t apart queued = task_other tasks t _ apart
  dropped_phase tasks t apart (running noted) = task_other tasks t _ apart
  dropped_phase tasks t apart (done output) = task_other tasks t _ apart
  dropped_phase tasks t apart taken = task_other tasks t _ apart

  dropped_kept : (tasks : Tasks ℕ) (t : ℕ) → u ≢ t → (task : Task ℕ) (k : Bool) → TaskWaits q u tasks → TaskWaits q u (dropped_value (cond k (Ok task) (Err NoHandle)) tasks t)
  dropped_kept tasks t apart task true = dropped_phase tasks t apart task.phase
  dropped_kept tasks t apart task false = λ s. s

  dropped_by : (tasks : Tasks ℕ) (t : ℕ) → u ≢ t → (b : Bool) (v : Option (Task ℕ)) → TaskWaits q u tasks → TaskWaits q u (dropped_value (cond b (kept_value v) (Err NoTask)) tasks t)
  dropped_by tasks t apart true None = λ s. s
  dropped_by tasks t apart true (Some task) = dropped_kept tasks t apart task task.is_kept
  dropped_by tasks t apart false v = λ s. s

  pub dropped_waits : (tasks : Tasks ℕ) (t : ℕ) → u ≢ t → TaskWaits q u tasks → TaskWaits q u (join_dropped tasks t)
  dropped_waits tasks t apart = dropped_by tasks t apart (is_issued tasks.table t) (value_at tasks.table t)

  -- a poll of another handle
  joined_phase : (tasks : Tasks ℕ) (t by : ℕ) → u ≢ t → (phase : Phase ℕ) → TaskWaits q u tasks → TaskWaits q u (joined_in phase tasks t by)
  joined_phase tasks t by apart idle = task_other tasks t _ apart
  joined_phase tasks t by apart queued = task_other tasks t _ apart
  joined_phase tasks t by apart (running noted) = task_other tasks t _ apart
  joined_phase tasks t by apart (done output) = task_other tasks t _ apart
  joined_phase tasks t by apart taken = λ s. s

  joined_kept : (tasks : Tasks ℕ) (t by : ℕ) → u ≢ t → (task : Task ℕ) (k : Bool) → TaskWaits q u tasks → TaskWaits q u (joined_value (cond k (Ok task) (Err NoHandle)) tasks t by)
  joined_kept tasks t by apart task true = joined_phase tasks t by apart task.phase
  joined_kept tasks t by apart task false = λ s. s

  joined_by : (tasks : Tasks ℕ) (t by : ℕ) → u ≢ t → (b : Bool) (v : Option (Task ℕ)) → TaskWaits q u tasks → TaskWaits q u (joined_value (cond b (kept_value v) (Err NoTask)) tasks t by)
  joined_by tasks t by apart true None = λ s. s
  joined_by tasks t by apart true (Some task) = joined_kept tasks t by apart task task.is_kept
  joined_by tasks t by apart false v = λ s. s

  pub joined_waits : (tasks : Tasks ℕ) (t by : ℕ) → u ≢ t → TaskWaits q u tasks → TaskWaits q u (joined tasks t by)
  joined_waits tasks t by apart = joined_by tasks t by apart (is_issued tasks.table t) (value_at tasks.table t)

-- a poll of the handle of t by the task q that waits for it
module _ (q t : ℕ) (tasks : Tasks ℕ) where
  again_phase : (task : Task ℕ) → value_at tasks.table t ≡ Some task → (phase : Phase ℕ) → task.phase ≡ phase → (HasWaiter q (Some task) → is_unfinished task.phase ≡ true) → TaskWaits q t tasks → TaskWaits q t (joined_in phase tasks t q)
  again_phase task at idle is valid = task_set q t tasks t (Some task) _ at (λ _. refl)
  again_phase task at queued is valid = task_set q t tasks t (Some task) _ at (λ _. refl)
  again_phase task at (running noted) is valid = task_set q t tasks t (Some task) _ at (λ _. refl)
  again_phase task at (done output) is valid = λ s. absurd (true-false (sym (valid (subst (HasWaiter q) at s)) ∙ ap is_unfinished is))
  again_phase task at taken is valid = λ s. s

  again_kept : (task : Task ℕ) → value_at tasks.table t ≡ Some task → (HasWaiter q (Some task) → is_unfinished task.phase ≡ true) → (k : Bool) → TaskWaits q t tasks → TaskWaits q t (joined_value (cond k (Ok task) (Err NoHandle)) tasks t q)
  again_kept task at valid true = again_phase task at task.phase refl valid
  again_kept task at valid false = λ s. s

  again_by : (b : Bool) (v : Option (Task ℕ)) → value_at tasks.table t ≡ v → IfSome v (IsValidTask (next_number tasks.table)) → TaskWaits q t tasks → TaskWaits q t (joined_value (cond b (kept_value v) (Err NoTask)) tasks t q)
  again_by true None at valid = λ s. s
  again_by true (Some task) at valid = again_kept task at (λ s. (subst (λ w. IfSome w (λ x. (x < next_number tasks.table) × (is_unfinished task.phase ≡ true) × (task.is_kept ≡ true))) s valid.waiter).1) task.is_kept
  again_by false v at valid = λ s. s

  pub again_waits : IfSome (value_at tasks.table t) (IsValidTask (next_number tasks.table)) → TaskWaits q t tasks → TaskWaits q t (joined tasks t q)
  again_waits = again_by (is_issued tasks.table t) (value_at tasks.table t) refl

-- q is the waker of the sleep s
abbrev pub SleepWaits : ℕ → ℕ → Sleeps → Type 0
SleepWaits q s sleeps = sleep.waker_at sleeps s ≡ Some q

abbrev HasWaker : ℕ → Option Sleep → Type 0
HasWaker q v = sleep.waker_in v ≡ Some q

module _ (q s : ℕ) (sleeps : Sleeps) where
  sleep_set : (r : ℕ) (old new : Option Sleep) → value_at sleeps.table r ≡ old → (HasWaker q old → HasWaker q new) → SleepWaits q s sleeps → HasWaker q (value_at (set sleeps.table r new) s)
  sleep_set r old new at keeps = set_carries (HasWaker q) (none-some q) sleeps.table r old new at keeps s

  sleep_other : (r : ℕ) (new : Option Sleep) → s ≢ r → SleepWaits q s sleeps → HasWaker q (value_at (set sleeps.table r new) s)
  sleep_other r new apart = set_other (HasWaker q) (none-some q) sleeps.table r s new apart

  pub added_waits : (n : ℕ) → SleepWaits q s sleeps → SleepWaits q s (sleep.added sleeps n)
  added_waits n = push_carries (HasWaker q) (none-some q) sleeps.table (fresh n) s

  pub fired_waits : (r : ℕ) → s ≢ r → SleepWaits q s sleeps → SleepWaits q s (sleep.fired sleeps r)
  fired_waits r apart = sleep_other r (Some elapsed) apart

  removed_by : (r : ℕ) → s ≢ r → (v : Option Sleep) → value_at sleeps.table r ≡ v → SleepWaits q s sleeps → SleepWaits q s (sleep.removed sleeps r)
  removed_by r apart None at is = rw at is
  removed_by r apart (Some value) at is = rw at (sleep_other r None apart is)

  pub removed_waits : (r : ℕ) → s ≢ r → SleepWaits q s sleeps → SleepWaits q s (sleep.removed sleeps r)
  removed_waits r apart = removed_by r apart (value_at sleeps.table r) refl

  -- a reset to an instant that has not come keeps the waker
  later_by : (r tick : ℕ) (a : Arming) → value_at sleeps.table r ≡ Some (armed a) → (b : Bool) → SleepWaits q s sleeps → SleepWaits q s (cond b (armed_later sleeps r tick a) (armed_anew sleeps r tick a.waker))
  later_by r tick a at true = sleep_set r (Some (armed a)) _ at (λ w. w)
  later_by r tick a at false = sleep_set r (Some (armed a)) _ at (λ w. w)

  above_value : (r tick : ℕ) (v : Sleep) → value_at sleeps.table r ≡ Some v → SleepWaits q s sleeps → SleepWaits q s (armed_above v sleeps r tick)
  above_value r tick (fresh n) at = sleep_set r (Some (fresh n)) _ at (λ w. absurd (none-some q w))
  above_value r tick (armed a) at = later_by r tick a at (nat_le a.tick tick)
  above_value r tick elapsed at = sleep_set r (Some elapsed) _ at (λ w. absurd (none-some q w))

  arming_value : (r tick : ℕ) (v : Sleep) → value_at sleeps.table r ≡ Some v → (b : Bool) → (s ≡ r → b ≡ false) → SleepWaits q s sleeps → SleepWaits q s (cond b (with_sleep sleeps r elapsed) (armed_above v sleeps r tick))
  arming_value r tick v at true late = λ is. sleep_other r (Some elapsed) (λ same. true-false (late same)) is
  arming_value r tick v at false late = above_value r tick v at

  reset_value : (r tick : ℕ) (v : Option Sleep) → value_at sleeps.table r ≡ v → (s ≡ r → nat_le tick sleeps.greatest ≡ false) → SleepWaits q s sleeps → SleepWaits q s (sleep.if_live v sleeps (λ value. after_arming value sleeps r tick))
  reset_value r tick None at late = λ is. is
  reset_value r tick (Some v) at late = arming_value r tick v at (nat_le tick sleeps.greatest) late

  pub reset_waits : (r n : ℕ) → (s ≡ r → nat_le (up n) sleeps.greatest ≡ false) → SleepWaits q s sleeps → SleepWaits q s (sleep.reset sleeps r n)
  reset_waits r n late = reset_value r (up n) (value_at sleeps.table r) refl late

  -- a poll of another sleep, or by q itself
  poll_fresh : (r n by : ℕ) → value_at sleeps.table r ≡ Some (fresh n) → (b : Bool) → SleepWaits q s sleeps → SleepWaits q s (cond b (with_sleep sleeps r elapsed) (armed_anew sleeps r (up n) (Some by)))
  poll_fresh r n by at true = sleep_set r (Some (fresh n)) _ at (λ w. absurd (none-some q w))
  poll_fresh r n by at false = sleep_set r (Some (fresh n)) _ at (λ w. absurd (none-some q w))

  poll_value : (r by : ℕ) (v : Sleep) → value_at sleeps.table r ≡ Some v → (s ≡ r → by ≡ q) → SleepWaits q s sleeps → SleepWaits q s (sleep.after_poll v sleeps r by)
  poll_value r by (fresh n) at own = poll_fresh r n by at (nat_le (up n) sleeps.greatest)
  poll_value r by (armed a) at own = elim (cases_eq s r) [
    | inl here ↦ sleep_set r (Some (armed a)) _ at (λ w. ap Some (own here))
    | inr apart ↦ sleep_other r _ apart
  ]
  poll_value r by elapsed at own = λ is. is

  poll_at : (r by : ℕ) (v : Option Sleep) → value_at sleeps.table r ≡ v → (s ≡ r → by ≡ q) → SleepWaits q s sleeps → SleepWaits q s (sleep.if_live v sleeps (λ value. sleep.after_poll value sleeps r by))
  poll_at r by None at own = λ is. is
  poll_at r by (Some v) at own = poll_value r by v at own

  pub polled_waits : (r by : ℕ) → (s ≡ r → by ≡ q) → SleepWaits q s sleeps → SleepWaits q s (sleep.polled sleeps r by)
  polled_waits r by own = poll_at r by (value_at sleeps.table r) refl own

-- q waits for the job j
abbrev pub JobWaits : ℕ → ℕ → Jobs → Type 0
JobWaits q j all = job_waiter (value_at all.table j) ≡ Some q

abbrev WaitsFor : ℕ → Option Job → Type 0
WaitsFor q v = job_waiter v ≡ Some q

module _ (q j : ℕ) (all : Jobs) where
  job_other : (k : ℕ) (new : Option Job) → j ≢ k → JobWaits q j all → WaitsFor q (value_at (set all.table k new) j)
  job_other k new apart = set_other (WaitsFor q) (none-some q) all.table k j new apart

  pub made_waits : (v : Job) → JobWaits q j all → JobWaits q j (jobs.with_next_job all v)
  made_waits v = push_carries (WaitsFor q) (none-some q) all.table v j

  job_dropped_by : (k : ℕ) → j ≢ k → (b : Bool) (v : Option Job) → JobWaits q j all → JobWaits q j (jobs.dropped_value (cond b (jobs.kept_value v) (Err refusal.NoTask)) all k)
  job_dropped_by k apart true None = λ is. is
  job_dropped_by k apart true (Some v) = job_other k None apart
  job_dropped_by k apart false v = λ is. is

  pub job_dropped_waits : (k : ℕ) → j ≢ k → JobWaits q j all → JobWaits q j (jobs.job_dropped all k)
  job_dropped_waits k apart = job_dropped_by k apart (is_issued all.table k) (value_at all.table k)

  job_ended_by : (k : ℕ) (h : How) → j ≢ k → (v : Option Job) → JobWaits q j all → JobWaits q j (jobs.ended_value v all k h)
  job_ended_by k h apart None = λ is. is
  job_ended_by k h apart (Some (job.running output waiter)) = job_other k _ apart
  job_ended_by k h apart (Some (job.ended_ok output)) = λ is. is
  job_ended_by k h apart (Some job.ended_canceled) = λ is. is
  job_ended_by k h apart (Some job.taken) = λ is. is

  pub job_ended_waits : (k : ℕ) (h : How) → j ≢ k → JobWaits q j all → JobWaits q j (jobs.job_ended all k h)
  job_ended_waits k h apart = job_ended_by k h apart (value_at all.table k)

  poll_job : (k by : ℕ) (v : Job) → value_at all.table k ≡ Some v → (j ≡ k → by ≡ q) → JobWaits q j all → WaitsFor q (value_at (set all.table k (Some (jobs.polled_in v by))) j)
  poll_job k by (job.running output waiter) at own = elim (cases_eq j k) [
    | inl here ↦ set_carries (WaitsFor q) (none-some q) all.table k (Some (job.running output waiter)) _ at (λ w. ap Some (own here)) j
    | inr apart ↦ job_other k _ apart
  ]
  poll_job k by (job.ended_ok output) at own = set_carries (WaitsFor q) (none-some q) all.table k (Some (job.ended_ok output)) _ at (λ w. absurd (none-some q w)) j
  poll_job k by job.ended_canceled at own = set_carries (WaitsFor q) (none-some q) all.table k (Some job.ended_canceled) _ at (λ w. absurd (none-some q w)) j
  poll_job k by job.taken at own = set_carries (WaitsFor q) (none-some q) all.table k (Some job.taken) _ at (λ w. absurd (none-some q w)) j

  job_polled_by : (k by : ℕ) (b : Bool) (v : Option Job) → value_at all.table k ≡ v → (j ≡ k → by ≡ q) → JobWaits q j all → JobWaits q j (jobs.polled_value (cond b (jobs.kept_value v) (Err refusal.NoTask)) all k by)
  job_polled_by k by true None at own = λ is. is
  job_polled_by k by true (Some v) at own = poll_job k by v at own
  job_polled_by k by false v at own = λ is. is

  pub job_polled_waits : (k by : ℕ) → (j ≡ k → by ≡ q) → JobWaits q j all → JobWaits q j (jobs.job_polled all k by)
  job_polled_waits k by own = job_polled_by k by (is_issued all.table k) (value_at all.table k) refl own
