-- A wait that an act takes is over: nobody waits for that source afterwards.
use Rattle.std.proofs.Common.{◌≡◌, ◌<◌, inl, inr, ℕ, true, false, Bool, cond, length, set, Some, None, Option, refl, ap, sym, subst, ◌∙◌, arith, ltb-false}
use Rattle.std.specs.Prelude.{IfSome, ◌==◌, Ok, Err}
use Rattle.std.proofs.lemmas.Bool.{cases_lt}
use Rattle.std.proofs.lemmas.Bool.Decides.{eqb_tells}
use Rattle.std.proofs.lemmas.List.{get_or-set_same, get_or_past, length-set}
use Rattle.mono_model.specs.Table.{Table, value_at, next_number, is_issued}
use Rattle.mono_model.specs.Tasks.{Tasks, Task, Phase, idle, queued, running, done, taken}
use Rattle.mono_model.specs.Joins.{kept_value, dropped_in, dropped_value, join_dropped}
use Rattle.mono_model.specs.Sleeps.{Sleeps, Sleep}
use Rattle.mono_model.specs.SleepActs as sleep
use Rattle.mono_model.specs.Jobs as job
use Rattle.mono_model.specs.Jobs.{Jobs, Job}
use Rattle.mono_model.specs.Valid.{IsValidTask, is_unfinished}
use Rattle.mono_model.specs.declared.task_error.TaskError.TheVariants.{NoTask, NoHandle}
use Rattle.mono_machine.specs.Machine.{Machine, IsValid}
use Rattle.mono_machine.specs.Acts.{act_outcome}
use Rattle.mono_machine.specs.Steps.{Step}
use Rattle.mono_machine.specs.History.{waiter_at}
use Rattle.mono_machine.specs.JobCalls as jobs
use Rattle.mono_machine.specs.Watches.{Source, of_sleep, of_task, of_job, watcher, drops, job_waiter}
use Rattle.mono_machine.specs.declared.events.Act.{Act}
use Rattle.mono_machine.specs.declared.events.Act.TheVariants as act
use Rattle.mono_machine.specs.declared.events.How.{How}
use Rattle.mono_machine.specs.declared.events.How.TheVariants as how
use Rattle.mono_machine.specs.declared.events.Event.TheVariants as event
use Rattle.mono_machine.specs.declared.events.Refusal.TheVariants as refusal
use Rattle.mono_machine.specs.declared.events.Report.{Report}

false-true : false ≡ true → ⊥
false-true e = cc

same_of : (r s : ℕ) → (r == s) ≡ true → r ≡ s
same_of r s is = elim (eqb_tells r s) [ inl here ↦ here.1 | inr apart ↦ absurd (false-true (sym apart.0 ∙ is)) ]

set_is : {V : Type 0} (f : Option V → Option ℕ) (table : Table V) (t : ℕ) (new : Option V) → f None ≡ None → f new ≡ None → f (value_at (set table t new) t) ≡ None
set_is f table t new none is = elim (cases_lt t (length table)) [
  | inl inside ↦ ap f (get_or-set_same table t new None inside) ∙ is
  | inr past ↦ ap f (get_or_past (set table t new) t None (omega (arith, past, length-set table t new))) ∙ none
]

sleep_gone : (sleeps : Sleeps) (s : ℕ) → sleep.waker_at (sleep.removed sleeps s) s ≡ None
sleep_gone sleeps s = by_value (value_at sleeps.table s) refl
  where
    by_value : (v : Option Sleep) → value_at sleeps.table s ≡ v → sleep.waker_in (value_at (sleep.if_live v sleeps (λ value. record { table = set sleeps.table s None; greatest = sleeps.greatest; arm_count = sleeps.arm_count; limit = sleeps.limit })).table s) ≡ None
    by_value None at = ap sleep.waker_in at
    by_value (Some value) at = set_is sleep.waker_in sleeps.table s None refl refl

module _ (tasks : Tasks ℕ) (t : ℕ) where
  dropped_phase : (phase : Phase ℕ) → waiter_at (value_at (dropped_in phase tasks t).table t) ≡ None
  dropped_phase idle = set_is waiter_at tasks.table t _ refl refl
  dropped_phase queued = set_is waiter_at tasks.table t _ refl refl
  dropped_phase (running noted) = set_is waiter_at tasks.table t _ refl refl
  dropped_phase (done output) = set_is waiter_at tasks.table t None refl refl
  dropped_phase taken = set_is waiter_at tasks.table t None refl refl

  no_waiter : (next : ℕ) (task : Task ℕ) (w : Option ℕ) → task.waiter ≡ w → task.is_kept ≡ false → IsValidTask next task → w ≡ None
  no_waiter next task None is kept valid = refl
  no_waiter next task (Some u) is kept valid = absurd (false-true (sym kept ∙ (subst (λ w. IfSome w (λ y. (y < next) × (is_unfinished task.phase ≡ true) × (task.is_kept ≡ true))) is valid.waiter).2))

  dropped_kept : (task : Task ℕ) → value_at tasks.table t ≡ Some task → (k : Bool) → task.is_kept ≡ k → IsValidTask (next_number tasks.table) task → waiter_at (value_at (dropped_value (cond k (Ok task) (Err NoHandle)) tasks t).table t) ≡ None
  dropped_kept task at true is valid = dropped_phase task.phase
  dropped_kept task at false is valid = ap waiter_at at ∙ no_waiter (next_number tasks.table) task task.waiter refl is valid

  dropped_by : (b : Bool) → is_issued tasks.table t ≡ b → (v : Option (Task ℕ)) → value_at tasks.table t ≡ v → IfSome v (IsValidTask (next_number tasks.table)) → waiter_at (value_at (dropped_value (cond b (kept_value v) (Err NoTask)) tasks t).table t) ≡ None
  dropped_by true issued None at valid = ap waiter_at at
  dropped_by true issued (Some task) at valid = dropped_kept task at task.is_kept refl valid
  dropped_by false issued v at valid = ap waiter_at (get_or_past tasks.table t None (ltb-false t (length tasks.table) issued))

  task_gone : IfSome (value_at tasks.table t) (IsValidTask (next_number tasks.table)) → waiter_at (value_at (join_dropped tasks t).table t) ≡ None
  task_gone valid = dropped_by (is_issued tasks.table t) refl (value_at tasks.table t) refl valid

module _ (all : Jobs) (j : ℕ) where
  job_by : (b : Bool) → is_issued all.table j ≡ b → (v : Option Job) → value_at all.table j ≡ v → job_waiter (value_at (jobs.dropped_value (cond b (jobs.kept_value v) (Err refusal.NoTask)) all j).table j) ≡ None
  job_by true issued None at = ap job_waiter at
  job_by true issued (Some v) at = set_is job_waiter all.table j None refl refl
  job_by false issued v at = ap job_waiter (get_or_past all.table j None (ltb-false j (length all.table) issued))

  job_gone : job_waiter (value_at (jobs.job_dropped all j).table j) ≡ None
  job_gone = job_by (is_issued all.table j) refl (value_at all.table j) refl

  over : (h : How) (output : ℕ) → job_waiter (Some (jobs.ended_as h output)) ≡ None
  over how.Ran output = refl
  over how.Canceled output = refl

  ended_by : (h : How) (v : Option Job) → value_at all.table j ≡ v → job_waiter (value_at (jobs.ended_value v all j h).table j) ≡ None
  ended_by h None at = ap job_waiter at
  ended_by h (Some (job.running output waiter)) at = set_is job_waiter all.table j (Some (jobs.ended_as h output)) refl (over h output)
  ended_by h (Some (job.ended_ok output)) at = ap job_waiter at
  ended_by h (Some job.ended_canceled) at = ap job_waiter at
  ended_by h (Some job.taken) at = ap job_waiter at

  job_over : (h : How) → job_waiter (value_at (jobs.job_ended all j h).table j) ≡ None
  job_over h = ended_by h (value_at all.table j) refl

act_takes : (m : Machine) → IsValid m → (x : Source) (a : Act) → drops x a ≡ true → watcher (act_outcome a m).machine x ≡ None
act_takes m valid (of_sleep s) (act.DropSleep r) is = subst (λ y. sleep.waker_at (sleep.removed m.sleeps r) y ≡ None) (same_of r s is) (sleep_gone m.sleeps r)
act_takes m valid (of_task u) (act.DropSleep r) is = absurd (false-true is)
act_takes m valid (of_job j) (act.DropSleep r) is = absurd (false-true is)
act_takes m valid (of_sleep s) (act.DropJoin v) is = absurd (false-true is)
act_takes m valid (of_task u) (act.DropJoin v) is = subst (λ y. waiter_at (value_at (join_dropped m.tasks v).table y) ≡ None) (same_of v u is) (task_gone m.tasks v (valid.tasks.each v))
act_takes m valid (of_job j) (act.DropJoin v) is = absurd (false-true is)
act_takes m valid (of_sleep s) (act.DropJob k) is = absurd (false-true is)
act_takes m valid (of_task u) (act.DropJob k) is = absurd (false-true is)
act_takes m valid (of_job j) (act.DropJob k) is = subst (λ y. job_waiter (value_at (jobs.job_dropped m.jobs k).table y) ≡ None) (same_of k j is) (job_gone m.jobs k)
act_takes m valid (of_sleep s) (act.JobEnd k h) is = absurd (false-true is)
act_takes m valid (of_task u) (act.JobEnd k h) is = absurd (false-true is)
act_takes m valid (of_job j) (act.JobEnd k h) is = subst (λ y. job_waiter (value_at (jobs.job_ended m.jobs k h).table y) ≡ None) (same_of k j is) (job_over m.jobs k h)
act_takes m valid x act.Spawn is = absurd (false-true is)
act_takes m valid x (act.Wake v) is = absurd (false-true is)
act_takes m valid x (act.NewSleep n) is = absurd (false-true is)
act_takes m valid x (act.Reset s n) is = absurd (false-true is)
act_takes m valid x (act.SleepElapsed s) is = absurd (false-true is)
act_takes m valid x (act.Block output) is = absurd (false-true is)
act_takes m valid x (act.Finished v) is = absurd (false-true is)
act_takes m valid x (act.JobFinished k) is = absurd (false-true is)

pub taken_is_over : (old : Machine) (a : Act) (answer : Report) (new : Machine) (x : Source) → IsValid old → Step old (event.Act a) answer new → drops x a ≡ true → watcher new x ≡ None
taken_is_over old a answer new x valid by is = subst (λ m. watcher m x ≡ None) (sym by.1) (act_takes old valid x a is)
