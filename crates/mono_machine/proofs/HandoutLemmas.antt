-- The output of each task and of each job is handed out at most once.
use Rattle.std.proofs.Common.{◌≡◌, ◌≤◌, ℕ, ◌+◌, true, false, Bool, cond, List, [], ◌∷◌, Some, None, Option, refl, ap, sym, ◌∙◌, arith}
use Rattle.std.specs.Prelude.{◌==◌, ◌&&◌, ◌||◌, Ok, Err, nat_lt}
use Rattle.mono_model.specs.Ticks.{max_nanos}
use Rattle.mono_model.specs.Table.{value_at, is_full, is_issued}
use Rattle.mono_model.specs.Tasks.{Tasks, Task, Phase, idle, queued, running, done, taken, is_noted, in_phase, with_task, without_task, queued_last, woken, woken_in, woken_value, woken_if_any, all_woken, begun, begun_value, paused_value, completed_value}
use Rattle.mono_model.specs.Joins.{kept_value, output_in, output_of, join_value, join_answer, drop_value, drop_answer, dropped_in, dropped_value, join_dropped, joined_in, joined_value, joined}
use Rattle.mono_model.specs.Sleeps.{Sleep}
use Rattle.mono_model.specs.Jobs.{Jobs, Job}
use Rattle.mono_model.specs.Jobs as job
use Rattle.mono_model.specs.Inbox.{is_waiting, with_waiting}
use Rattle.mono_model.specs.Valid.{AreValidTasks, of_task, is_queued, is_running, once_if}
use Rattle.mono_model.specs.declared.task_error.TaskError.TheVariants.{NoTask, NoHandle}
use Rattle.mono_machine.specs.Machine.{Machine, with_inbox, IsValid, IsValidDuring}
use Rattle.mono_machine.specs.JobCalls as jobs
use Rattle.mono_machine.specs.JoinCalls.{drop_reply, join_reply}
use Rattle.mono_machine.specs.Acts.{Outcome, for_sleep, reset, act_outcome, step_outcome, block, reply_of, refused as refused_act}
use Rattle.mono_machine.specs.Turns.{replies_of, after_steps, after_end, after_begin, turn_report_for, after_turn_for}
use Rattle.mono_machine.specs.Steps.{Step, ClockStep, Run, has_finished, after_fires, after_fire, at_clock, after_remote, after_drain}
use Rattle.mono_model.specs.SleepActs as sleep
use Rattle.mono_model.specs.SleepAnswers.{waker_in}
use Rattle.mono_machine.specs.Handouts.{has_output, is_on_task, is_on_job, handed_by_steps, handed_by_turn, handed_by, handed_in}
use Rattle.mono_machine.specs.declared.events.Act.{Act}
use Rattle.mono_machine.specs.declared.events.Act.TheVariants as act
use Rattle.mono_machine.specs.declared.events.How.{How}
use Rattle.mono_machine.specs.declared.events.Query.TheVariants as query
use Rattle.mono_machine.specs.declared.events.TurnStep.{TurnStep}
use Rattle.mono_machine.specs.declared.events.TurnStep.TheVariants as step
use Rattle.mono_machine.specs.declared.events.End.{End}
use Rattle.mono_machine.specs.declared.events.End.TheVariants as end
use Rattle.mono_machine.specs.declared.events.Event.{Event}
use Rattle.mono_machine.specs.declared.events.Event.TheVariants as event
use Rattle.mono_machine.specs.declared.events.Refusal.TheVariants as refusal
use Rattle.mono_machine.specs.declared.events.Report.{Report}
use Rattle.mono_machine.specs.declared.events.Report.TheVariants as report
use Rattle.mono_machine.specs.declared.events.Blocking.{Blocking}
use Rattle.mono_machine.specs.declared.events.Blocking.TheVariants as blocking
use Rattle.mono_machine.proofs.FinishedSetLemmas.{front_is_queued}
use Rattle.mono_machine.proofs.ValidStepLemmas.{begin_valid, steps_valid, step_is_valid, same_jobs}
use Rattle.mono_machine.proofs.SpentOutputLemmas.{Spends, at_most, nothing, refused, open_at, write_spends, write_keeps, next_keeps}

true-false : true ≡ false → ⊥
true-false e = cc

false-true : false ≡ true → ⊥
false-true e = cc

-- an output may still come out of the task, or of the job
abbrev may_phase : Phase ℕ → Bool
may_phase idle = true
may_phase queued = true
may_phase (running noted) = true
may_phase (done output) = true
may_phase taken = false

abbrev may_task : Task ℕ → Bool
may_task task = may_phase task.phase

abbrev task_open : ℕ → Tasks ℕ → Bool
task_open t tasks = open_at may_task tasks.table t

abbrev may_job : Job → Bool
may_job (job.running output waiter) = true
may_job (job.ended_ok output) = true
may_job job.ended_canceled = false
may_job job.taken = false

abbrev job_open : ℕ → Jobs → Bool
job_open j jobs = open_at may_job jobs.table j

-- nothing new comes out
abbrev Less : Bool → Bool → Type 0
Less after before = after ≡ true → before ≡ true

quiet : (after before : Bool) → Less after before → Spends false after before
quiet after before less = record { less = less; from = λ e. absurd (false-true e); spent = λ e. absurd (false-true e) }

module _ (tasks : Tasks ℕ) (u q : ℕ) where
  woken_phase : (task : Task ℕ) → value_at tasks.table u ≡ Some task → (phase : Phase ℕ) → task.phase ≡ phase → Less (task_open q (woken_in phase tasks u task)) (task_open q tasks)
  woken_phase task at idle is = write_keeps may_task tasks.table u q task _ at (λ _. ap may_phase is)
  woken_phase task at queued is = λ e. e
  woken_phase task at (running noted) is = write_keeps may_task tasks.table u q task _ at (λ _. ap may_phase is)
  woken_phase task at (done output) is = λ e. e
  woken_phase task at taken is = λ e. e

  woken_at : (v : Option (Task ℕ)) → value_at tasks.table u ≡ v → Less (task_open q (woken_value v tasks u)) (task_open q tasks)
  woken_at None at = λ e. e
  woken_at (Some task) at = woken_phase task at task.phase refl

  woken_less : Less (task_open q (woken tasks u)) (task_open q tasks)
  woken_less = woken_at (value_at tasks.table u) refl

  -- a poll of the handle
  joined_phase : (by : ℕ) (task : Task ℕ) → value_at tasks.table u ≡ Some task → (phase : Phase ℕ) → task.phase ≡ phase
      → Spends ((u == q) && has_output (join_reply (output_in phase))) (task_open q (joined_in phase tasks u by)) (task_open q tasks)
  joined_phase by task at idle is = write_spends may_task tasks.table u q task _ false at (quiet _ _ (λ _. ap may_phase is))
  joined_phase by task at queued is = write_spends may_task tasks.table u q task _ false at (quiet _ _ (λ _. ap may_phase is))
  joined_phase by task at (running noted) is = write_spends may_task tasks.table u q task _ false at (quiet _ _ (λ _. ap may_phase is))
  joined_phase by task at (done output) is = write_spends may_task tasks.table u q task _ true at (record { less = λ e. absurd (false-true e); from = λ _. ap may_phase is; spent = λ _. refl })
  joined_phase by task at taken is = refused (u == q) (task_open q tasks)

  joined_kept : (by : ℕ) (task : Task ℕ) → value_at tasks.table u ≡ Some task → (k : Bool)
      → Spends ((u == q) && has_output (join_reply (join_value (cond k (Ok task) (Err NoHandle))))) (task_open q (joined_value (cond k (Ok task) (Err NoHandle)) tasks u by)) (task_open q tasks)
  joined_kept by task at true = joined_phase by task at task.phase refl
  joined_kept by task at false = refused (u == q) (task_open q tasks)

  joined_by : (by : ℕ) (b : Bool) (v : Option (Task ℕ)) → value_at tasks.table u ≡ v
      → Spends ((u == q) && has_output (join_reply (join_value (cond b (kept_value v) (Err NoTask))))) (task_open q (joined_value (cond b (kept_value v) (Err NoTask)) tasks u by)) (task_open q tasks)
  joined_by by true None at = refused (u == q) (task_open q tasks)
  joined_by by true (Some task) at = joined_kept by task at task.is_kept
  joined_by by false v at = refused (u == q) (task_open q tasks)

  joined_spends : (by : ℕ) → Spends ((u == q) && has_output (join_reply (join_answer tasks u))) (task_open q (joined tasks u by)) (task_open q tasks)
  joined_spends by = joined_by by (is_issued tasks.table u) (value_at tasks.table u) refl

  -- the drop of the handle
  dropped_phase : (task : Task ℕ) → value_at tasks.table u ≡ Some task → (phase : Phase ℕ) → task.phase ≡ phase
      → Spends ((u == q) && has_output (drop_reply (Ok (output_of phase)))) (task_open q (dropped_in phase tasks u)) (task_open q tasks)
  dropped_phase task at idle is = write_spends may_task tasks.table u q task _ false at (quiet _ _ (λ _. ap may_phase is))
  dropped_phase task at queued is = write_spends may_task tasks.table u q task _ false at (quiet _ _ (λ _. ap may_phase is))
  dropped_phase task at (running noted) is = write_spends may_task tasks.table u q task _ false at (quiet _ _ (λ _. ap may_phase is))
  dropped_phase task at (done output) is = write_spends may_task tasks.table u q task None true at (record { less = λ e. absurd (false-true e); from = λ _. ap may_phase is; spent = λ _. refl })
  dropped_phase task at taken is = write_spends may_task tasks.table u q task None false at (quiet _ _ (λ e. absurd (false-true e)))

  dropped_kept : (task : Task ℕ) → value_at tasks.table u ≡ Some task → (k : Bool)
      → Spends ((u == q) && has_output (drop_reply (drop_value (cond k (Ok task) (Err NoHandle))))) (task_open q (dropped_value (cond k (Ok task) (Err NoHandle)) tasks u)) (task_open q tasks)
  dropped_kept task at true = dropped_phase task at task.phase refl
  dropped_kept task at false = refused (u == q) (task_open q tasks)

  dropped_by : (b : Bool) (v : Option (Task ℕ)) → value_at tasks.table u ≡ v
      → Spends ((u == q) && has_output (drop_reply (drop_value (cond b (kept_value v) (Err NoTask))))) (task_open q (dropped_value (cond b (kept_value v) (Err NoTask)) tasks u)) (task_open q tasks)
  dropped_by true None at = refused (u == q) (task_open q tasks)
  dropped_by true (Some task) at = dropped_kept task at task.is_kept
  dropped_by false v at = refused (u == q) (task_open q tasks)

  dropped_spends : Spends ((u == q) && has_output (drop_reply (drop_answer tasks u))) (task_open q (join_dropped tasks u)) (task_open q tasks)
  dropped_spends = dropped_by (is_issued tasks.table u) (value_at tasks.table u) refl

waker_less : (tasks : Tasks ℕ) (w : Option ℕ) (q : ℕ) → Less (task_open q (woken_if_any tasks w)) (task_open q tasks)
waker_less tasks None q = λ e. e
waker_less tasks (Some u) q = woken_less tasks u q

all_woken_less : (tasks : Tasks ℕ) (ts : List ℕ) (q : ℕ) → Less (task_open q (all_woken tasks ts)) (task_open q tasks)
all_woken_less tasks [] q = λ e. e
all_woken_less tasks (t ∷ ts) q = λ e. woken_less tasks t q (all_woken_less (woken tasks t) ts q e)

-- a turn begins and ends
queued_may : (phase : Phase ℕ) → is_queued phase ≡ true → may_phase phase ≡ true
queued_may idle is = refl
queued_may queued is = refl
queued_may (running noted) is = refl
queued_may (done output) is = refl
queued_may taken is = absurd (false-true is)

running_may : (phase : Phase ℕ) → is_running phase ≡ true → may_phase phase ≡ true
running_may idle is = refl
running_may queued is = refl
running_may (running noted) is = refl
running_may (done output) is = refl
running_may taken is = absurd (false-true is)

begun_less : (tasks : Tasks ℕ) (front : ℕ) (rest : List ℕ) (q : ℕ) → tasks.queue ≡ front ∷ rest → AreValidTasks None tasks → Less (task_open q (begun tasks front rest)) (task_open q tasks)
begun_less tasks front rest q queue valid = by_value (value_at tasks.table front) refl
  where
    by_value : (v : Option (Task ℕ)) → value_at tasks.table front ≡ v → Less (task_open q (begun_value v (record { queue = rest; table = tasks.table; limit = tasks.limit }) front)) (task_open q tasks)
    by_value None at = λ e. e
    by_value (Some task) at = write_keeps may_task tasks.table front q task _ at (λ _. queued_may task.phase (ap (of_task is_queued) (sym at) ∙ front_is_queued tasks front rest queue valid))

module _ (me : ℕ) (tasks : Tasks ℕ) (valid : AreValidTasks (Some me) tasks) (q : ℕ) where
  my_may : (task : Task ℕ) → value_at tasks.table me ≡ Some task → may_phase task.phase ≡ true
  my_may task at = running_may task.phase (ap (of_task is_running) (sym at) ∙ valid.has_turn me refl)

  paused_by : (b : Bool) (task : Task ℕ) → value_at tasks.table me ≡ Some task → Less (task_open q (cond b (queued_last tasks me task) (with_task tasks me (in_phase task idle)))) (task_open q tasks)
  paused_by true task at = write_keeps may_task tasks.table me q task (Some (in_phase task queued)) at (λ _. my_may task at)
  paused_by false task at = write_keeps may_task tasks.table me q task (Some (in_phase task idle)) at (λ _. my_may task at)

  paused_at : (v : Option (Task ℕ)) → value_at tasks.table me ≡ v → Less (task_open q (paused_value v tasks me)) (task_open q tasks)
  paused_at None at = λ e. e
  paused_at (Some task) at = paused_by (is_noted task.phase) task at

  paused_less : Less (task_open q (paused_value (value_at tasks.table me) tasks me)) (task_open q tasks)
  paused_less = paused_at (value_at tasks.table me) refl

  completed_by : (output : ℕ) (b : Bool) (task : Task ℕ) → value_at tasks.table me ≡ Some task
      → Less (task_open q (cond b (woken_if_any (with_task tasks me (record { phase = done output; is_kept = true; waiter = None })) task.waiter) (without_task tasks me))) (task_open q tasks)
  completed_by output true task at = λ e. write_keeps may_task tasks.table me q task (Some (record { phase = done output; is_kept = true; waiter = None })) at (λ _. my_may task at)
      (waker_less (with_task tasks me (record { phase = done output; is_kept = true; waiter = None })) task.waiter q e)
  completed_by output false task at = write_keeps may_task tasks.table me q task None at (λ _. my_may task at)

  completed_at : (output : ℕ) (v : Option (Task ℕ)) → value_at tasks.table me ≡ v → Less (task_open q (completed_value v tasks me output)) (task_open q tasks)
  completed_at output None at = λ e. e
  completed_at output (Some task) at = completed_by output task.is_kept task at

  completed_less : (output : ℕ) → Less (task_open q (completed_value (value_at tasks.table me) tasks me output)) (task_open q tasks)
  completed_less output = completed_at output (value_at tasks.table me) refl

-- jobs
module _ (table : Jobs) (k j : ℕ) where
  dropped_job_by : (b : Bool) (v : Option Job) → value_at table.table k ≡ v
      → Spends ((k == j) && has_output (reply_of (jobs.drop_value (cond b (jobs.kept_value v) (Err refusal.NoTask))))) (job_open j (jobs.dropped_value (cond b (jobs.kept_value v) (Err refusal.NoTask)) table k)) (job_open j table)
  dropped_job_by true None at = refused (k == j) (job_open j table)
  dropped_job_by true (Some (job.running output waiter)) at = write_spends may_job table.table k j _ None false at (quiet _ _ (λ e. absurd (false-true e)))
  dropped_job_by true (Some (job.ended_ok output)) at = write_spends may_job table.table k j _ None true at (record { less = λ e. absurd (false-true e); from = λ _. refl; spent = λ _. refl })
  dropped_job_by true (Some job.ended_canceled) at = write_spends may_job table.table k j _ None false at (quiet _ _ (λ e. absurd (false-true e)))
  dropped_job_by true (Some job.taken) at = write_spends may_job table.table k j _ None false at (quiet _ _ (λ e. absurd (false-true e)))
  dropped_job_by false v at = refused (k == j) (job_open j table)

  polled_job_by : (by : ℕ) (b : Bool) (v : Option Job) → value_at table.table k ≡ v
      → Spends ((k == j) && has_output (reply_of (jobs.poll_value (cond b (jobs.kept_value v) (Err refusal.NoTask))))) (job_open j (jobs.polled_value (cond b (jobs.kept_value v) (Err refusal.NoTask)) table k by)) (job_open j table)
  polled_job_by by true None at = refused (k == j) (job_open j table)
  polled_job_by by true (Some (job.running output waiter)) at = write_spends may_job table.table k j _ _ false at (quiet _ _ (λ _. refl))
  polled_job_by by true (Some (job.ended_ok output)) at = write_spends may_job table.table k j _ _ true at (record { less = λ e. absurd (false-true e); from = λ _. refl; spent = λ _. refl })
  polled_job_by by true (Some job.ended_canceled) at = write_spends may_job table.table k j _ _ false at (quiet _ _ (λ e. absurd (false-true e)))
  polled_job_by by true (Some job.taken) at = write_spends may_job table.table k j _ _ false at (quiet _ _ (λ e. absurd (false-true e)))
  polled_job_by by false v at = refused (k == j) (job_open j table)

  ended_job_by : (h : How) (v : Option Job) → value_at table.table k ≡ v → Less (job_open j (jobs.ended_value v table k h)) (job_open j table)
  ended_job_by h None at = λ e. e
  ended_job_by h (Some (job.running output waiter)) at = write_keeps may_job table.table k j (job.running output waiter) (Some (jobs.ended_as h output)) at (λ _. refl)
  ended_job_by h (Some (job.ended_ok output)) at = λ e. e
  ended_job_by h (Some job.ended_canceled) at = λ e. e
  ended_job_by h (Some job.taken) at = λ e. e

-- one step of a turn
less_test : (P : Machine → Bool) (before b : Bool) (x y : Outcome) → Less (P x.machine) before → Less (P y.machine) before → Spends false (P (cond b x y).machine) before
less_test P before true x y at_true at_false = quiet _ _ at_true
less_test P before false x y at_true at_false = quiet _ _ at_false

same : (b : Bool) → Less b b
same b e = e

module _ (t : ℕ) (m : Machine) where
  abbrev of_task_open : Machine → Bool
  of_task_open x = task_open t x.tasks

  task_block : (b : Blocking) (output : ℕ) → Less (of_task_open (block b output m).machine) (of_task_open m)
  task_block blocking.Attached output e = e
  task_block blocking.ExecuteLocal output e = e
  task_block blocking.Panic output e = e

  task_reset : (s n : ℕ) (v : Option Sleep) (b : Bool) → Less (of_task_open (for_sleep v m (cond b (refused_act refusal.Invalid m) (reset s n m))).machine) (of_task_open m)
  task_reset s n None b e = e
  task_reset s n (Some value) true e = e
  task_reset s n (Some value) false e = waker_less m.tasks (waker_in (sleep.reset_answer m.sleeps s n)) t e

  task_act : (a : Act) → Spends (is_on_task t (step.Act a) && has_output (act_outcome a m).reply) (of_task_open (act_outcome a m).machine) (of_task_open m)
  task_act act.Spawn = less_test of_task_open (of_task_open m) (is_full m.tasks.table m.tasks.limit) _ _ (same _) (next_keeps may_task m.tasks.table _ t)
  task_act (act.Wake u) = quiet _ _ (woken_less m.tasks u t)
  task_act (act.NewSleep n) = less_test of_task_open (of_task_open m) (is_full m.sleeps.table m.sleeps.limit) _ _ (same _) (less_test of_task_open (of_task_open m) _ _ _ (same _) (same _)).less
  task_act (act.Reset s n) = quiet _ _ (task_reset s n (value_at m.sleeps.table s) (nat_lt max_nanos n))
  task_act (act.DropSleep s) = nothing _
  task_act (act.SleepElapsed s) = nothing _
  task_act (act.DropJoin u) = dropped_spends m.tasks u t
  task_act (act.Block output) = less_test of_task_open (of_task_open m) (is_full m.jobs.table m.jobs.limit) _ _ (same _) (task_block m.strategy output)
  task_act (act.DropJob j) = nothing _
  task_act (act.Finished u) = nothing _
  task_act (act.JobFinished j) = nothing _
  task_act (act.JobEnd j h) = nothing _

  task_step : (me : ℕ) (s : TurnStep) → Spends (is_on_task t s && has_output (step_outcome me s m).reply) (of_task_open (step_outcome me s m).machine) (of_task_open m)
  task_step me (step.Act a) = task_act a
  task_step me (step.Query (query.Sleep s)) = nothing _
  task_step me (step.Query (query.Join u)) = joined_spends m.tasks u t me
  task_step me (step.Query (query.Job j)) = nothing _

module _ (j : ℕ) (m : Machine) where
  abbrev of_job_open : Machine → Bool
  of_job_open x = job_open j x.jobs

  job_block : (b : Blocking) (output : ℕ) → Less (of_job_open (block b output m).machine) (of_job_open m)
  job_block blocking.Attached output = next_keeps may_job m.jobs.table _ j
  job_block blocking.ExecuteLocal output = next_keeps may_job m.jobs.table _ j
  job_block blocking.Panic output = λ e. e

  job_reset : (s n : ℕ) (v : Option Sleep) (b : Bool) → Less (of_job_open (for_sleep v m (cond b (refused_act refusal.Invalid m) (reset s n m))).machine) (of_job_open m)
  job_reset s n None b e = e
  job_reset s n (Some value) true e = e
  job_reset s n (Some value) false e = e

  job_act : (a : Act) → Spends (is_on_job j (step.Act a) && has_output (act_outcome a m).reply) (of_job_open (act_outcome a m).machine) (of_job_open m)
  job_act act.Spawn = less_test of_job_open (of_job_open m) (is_full m.tasks.table m.tasks.limit) _ _ (same _) (same _)
  job_act (act.Wake u) = nothing _
  job_act (act.NewSleep n) = less_test of_job_open (of_job_open m) (is_full m.sleeps.table m.sleeps.limit) _ _ (same _) (less_test of_job_open (of_job_open m) _ _ _ (same _) (same _)).less
  job_act (act.Reset s n) = quiet _ _ (job_reset s n (value_at m.sleeps.table s) (nat_lt max_nanos n))
  job_act (act.DropSleep s) = nothing _
  job_act (act.SleepElapsed s) = nothing _
  job_act (act.DropJoin u) = nothing _
  job_act (act.Block output) = less_test of_job_open (of_job_open m) (is_full m.jobs.table m.jobs.limit) _ _ (same _) (job_block m.strategy output)
  job_act (act.DropJob k) = dropped_job_by m.jobs k j (is_issued m.jobs.table k) (value_at m.jobs.table k) refl
  job_act (act.Finished u) = nothing _
  job_act (act.JobFinished k) = nothing _
  job_act (act.JobEnd k h) = quiet _ _ (ended_job_by m.jobs k j h (value_at m.jobs.table k) refl)

  job_step : (me : ℕ) (s : TurnStep) → Spends (is_on_job j s && has_output (step_outcome me s m).reply) (of_job_open (step_outcome me s m).machine) (of_job_open m)
  job_step me (step.Act a) = job_act a
  job_step me (step.Query (query.Sleep s)) = nothing _
  job_step me (step.Query (query.Join u)) = nothing _
  job_step me (step.Query (query.Job k)) = polled_job_by m.jobs k j me (is_issued m.jobs.table k) (value_at m.jobs.table k) refl

-- whole runs
fewer : (after before : Bool) → Less after before → once_if after ≤ once_if before
fewer after before less = omega (arith, at_most false after before (quiet after before less))

-- what never opens again, and is spent by a handout
record Lasts (is_meant : TurnStep → Bool) (o : Machine → Bool) : Type 0 where
  on_step : (me : ℕ) (s : TurnStep) (m : Machine) → Spends (is_meant s && has_output (step_outcome me s m).reply) (o (step_outcome me s m).machine) (o m)
  on_begin : (m : Machine) (front : ℕ) (rest : List ℕ) → m.tasks.queue ≡ front ∷ rest → IsValid m → Less (o (after_begin front rest m)) (o m)
  on_end : (e : End) (me : ℕ) (m : Machine) → IsValidDuring (Some me) m → Less (o (after_end e me m)) (o m)
  on_clock : (m : Machine) (n : ℕ) (fired : List ℕ) → Less (o (after_fires (at_clock m n) fired)) (o m)
  on_remote : (m : Machine) (t : ℕ) → Less (o (after_remote m t)) (o m)
  on_drain : (m : Machine) → Less (o (after_drain m)) (o m)

module _ (is_meant : TurnStep → Bool) (o : Machine → Bool) (lasts : Lasts is_meant o) where
  steps_once : (me : ℕ) (steps : List TurnStep) (m : Machine) → handed_by_steps is_meant steps (replies_of me steps m) + once_if (o (after_steps me steps m)) ≤ once_if (o m)
  steps_once me [] m = omega arith
  steps_once me (s ∷ steps) m =
      let first = at_most (is_meant s && has_output (step_outcome me s m).reply) (o (step_outcome me s m).machine) (o m) (lasts.on_step me s m) in
      let rest = steps_once me steps (step_outcome me s m).machine in
      omega (arith, first, rest)

  turn_once : (steps : List TurnStep) (e : End) (m : Machine) → IsValid m → (queue : List ℕ) → m.tasks.queue ≡ queue
      → handed_by_turn is_meant steps (turn_report_for queue steps e m) + once_if (o (after_turn_for queue steps e m)) ≤ once_if (o m)
  turn_once steps e m valid [] is = omega arith
  turn_once steps e m valid (front ∷ rest) is =
      let began = fewer (o (after_begin front rest m)) (o m) (lasts.on_begin m front rest is valid) in
      let all = steps_once front steps (after_begin front rest m) in
      let last = fewer (o (after_end e front (after_steps front steps (after_begin front rest m)))) (o (after_steps front steps (after_begin front rest m)))
      (lasts.on_end e front (after_steps front steps (after_begin front rest m)) (steps_valid front steps (after_begin front rest m) (begin_valid m front rest is valid))) in
      omega (arith, began, all, last)

  clock_once : (m : Machine) (n : ℕ) (answer : Report) (new : Machine) → ClockStep m n answer new → once_if (o new) ≤ once_if (o m)
  clock_once m n (report.Fired fired) new is = rw is.2 (fewer _ _ (lasts.on_clock m n fired))
  clock_once m n (report.Reply r) new is = rw is.2 (omega arith)
  clock_once m n (report.Turn me replies ended) new is = absurd is
  clock_once m n report.Listed new is = absurd is
  clock_once m n report.Unlisted new is = absurd is
  clock_once m n (report.Drained tasks) new is = absurd is

  event_once : (old : Machine) (e : Event) (answer : Report) (new : Machine) → IsValid old → Step old e answer new → handed_by is_meant e answer + once_if (o new) ≤ once_if (o old)
  event_once old (event.Act a) answer new valid is = rw (is.0, is.1) (at_most (is_meant (step.Act a) && has_output (act_outcome a old).reply) (o (act_outcome a old).machine) (o old) (lasts.on_step 0 (step.Act a) old))
  event_once old (event.Turn steps e) answer new valid is = rw (is.0, is.1) (turn_once steps e old valid old.tasks.queue refl)
  event_once old (event.Clock n) answer new valid is = omega (arith, clock_once old n answer new is)
  event_once old (event.Remote t) answer new valid is = rw is.1 (omega (arith, fewer (o (after_remote old t)) (o old) (lasts.on_remote old t)))
  event_once old event.Drain answer new valid is = rw is.1 (omega (arith, fewer (o (after_drain old)) (o old) (lasts.on_drain old)))

  run_once : (events : List Event) (answers : List Report) (old new : Machine) → IsValid old → Run old events answers new → handed_in is_meant events answers ≤ once_if (o old)
  run_once [] answers old new valid run = omega arith
  run_once (e ∷ events) [] old new valid run = omega arith
  run_once (e ∷ events) (answer ∷ answers) old new valid (mid, is, run) =
      let first = event_once old e answer mid valid is in
      let rest = run_once events answers mid new (step_is_valid old e answer mid valid is) run in
      omega (arith, first, rest)

one_at_most : (b : Bool) → once_if b ≤ 1
one_at_most true = omega arith
one_at_most false = omega arith

remote_tasks : (m : Machine) (u : ℕ) → (after_remote m u).tasks ≡ m.tasks
remote_tasks m u = by_issued (is_issued m.tasks.table u) (has_finished (value_at m.tasks.table u) || is_waiting m.inbox u)
  where
    by_issued : (b d : Bool) → (cond b (cond d m (with_inbox m (with_waiting m.inbox u))) m).tasks ≡ m.tasks
    by_issued true true = refl
    by_issued true false = refl
    by_issued false d = refl

remote_jobs : (m : Machine) (u : ℕ) → (after_remote m u).jobs ≡ m.jobs
remote_jobs m u = by_issued (is_issued m.tasks.table u) (has_finished (value_at m.tasks.table u) || is_waiting m.inbox u)
  where
    by_issued : (b d : Bool) → (cond b (cond d m (with_inbox m (with_waiting m.inbox u))) m).jobs ≡ m.jobs
    by_issued true true = refl
    by_issued true false = refl
    by_issued false d = refl

fires_less : (t : ℕ) (fired : List ℕ) (m : Machine) → Less (task_open t (after_fires m fired).tasks) (task_open t m.tasks)
fires_less t [] m = λ e. e
fires_less t (s ∷ fired) m = λ e. waker_less m.tasks (sleep.waker_at m.sleeps s) t (fires_less t fired (after_fire m s) e)

task_end : (t : ℕ) (e : End) (me : ℕ) (m : Machine) → IsValidDuring (Some me) m → Less (task_open t (after_end e me m).tasks) (task_open t m.tasks)
task_end t end.Pending me m valid = paused_less me m.tasks valid.tasks t
task_end t (end.Ready output) me m valid = completed_less me m.tasks valid.tasks t output

job_end : (j : ℕ) (e : End) (me : ℕ) (m : Machine) → Less (job_open j (after_end e me m).jobs) (job_open j m.jobs)
job_end j end.Pending me m = λ e. e
job_end j (end.Ready output) me m = λ e. e

pub task_once : (events : List Event) (answers : List Report) (old new : Machine) (t : ℕ) → IsValid old → Run old events answers new → handed_in (is_on_task t) events answers ≤ 1
task_once events answers old new t valid run =
    let lasts : Lasts (is_on_task t) (λ m. task_open t m.tasks) = record {
      on_step = λ me s m. task_step t m me s;
      on_begin = λ m front rest queue ok. begun_less m.tasks front rest t queue ok.tasks;
      on_end = task_end t;
      on_clock = λ m n fired. fires_less t fired (at_clock m n);
      on_remote = λ m u e. ap (task_open t) (sym (remote_tasks m u)) ∙ e;
      on_drain = λ m. all_woken_less m.tasks m.inbox t;
    } in
    omega (arith, run_once (is_on_task t) (λ m. task_open t m.tasks) lasts events answers old new valid run, one_at_most (task_open t old.tasks))

pub job_once : (events : List Event) (answers : List Report) (old new : Machine) (j : ℕ) → IsValid old → Run old events answers new → handed_in (is_on_job j) events answers ≤ 1
job_once events answers old new j valid run =
    let lasts : Lasts (is_on_job j) (λ m. job_open j m.jobs) = record {
      on_step = λ me s m. job_step j m me s;
      on_begin = λ m front rest queue ok. same (job_open j m.jobs);
      on_end = λ e me m ok. job_end j e me m;
      on_clock = λ m n fired e. ap (job_open j) (sym (same_jobs (at_clock m n) fired)) ∙ e;
      on_remote = λ m u e. ap (job_open j) (sym (remote_jobs m u)) ∙ e;
      on_drain = λ m. same (job_open j m.jobs);
    } in
    omega (arith, run_once (is_on_job j) (λ m. job_open j m.jobs) lasts events answers old new valid run, one_at_most (job_open j old.jobs))
