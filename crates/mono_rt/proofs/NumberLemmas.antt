-- Each operation on tasks, with numbers in the place of outputs, is the operation on the tasks with their outputs.
use Rattle.std.proofs.Common.{◌≡◌, ℕ, true, false, Bool, cond, List, [], ◌∷◌, ◌++◌, map, Some, None, Option, refl, ap, sym, ◌∙◌}
use Rattle.std.specs.Prelude.{◌+◌, slice_set, Result, Ok, Err, nat_lt}
use Rattle.std.specs.Option.{option_map}
use Rattle.std.proofs.lemmas.List.{map-set, length-map}
use Rattle.std.proofs.Math.ListN.{get_or-map}
use Rattle.mono_model.specs.Table.{Table, value_at, next_number, is_issued, count_of, is_full}
use Rattle.mono_model.specs.Tasks.{Tasks, Task, Phase, idle, queued, running, done, taken, is_noted, in_phase, with_task, without_task, queued_last, spawned, woken, woken_in, woken_value, woke_value, woke_in, woken_if_any, all_woken, begun, begun_value, paused_value, pause_answer, completed_value, complete_answer}
use Rattle.mono_model.proofs.CountLemmas.{counted, counted-count_of}
use Rattle.mono_model.specs.Joins.{kept_value, kept_task, output_in, join_value, join_answer, joined_in, joined_value, joined, output_of, drop_value, drop_answer, dropped_in, dropped_value, join_dropped, wake_answer}
use Rattle.mono_model.specs.declared.task_error.TaskError.{TaskError}
use Rattle.mono_model.specs.declared.task_error.TaskError.TheVariants.{NoTask, NoHandle}
use Rattle.mono_rt.specs.Numbering.{phase_numbered, task_numbered, numbered, join_numbered, drop_numbered}

module _ {O : Type 0} (number : O → ℕ) where
  abbrev with_table : Tasks O → List ℕ → Table (Task ℕ) → Tasks ℕ
  with_table tasks queue table = record { queue = queue; table = table; limit = tasks.limit }

  set_numbered : (tasks : Tasks O) (queue : List ℕ) (t : ℕ) (v : Option (Task O))
      → with_table tasks queue (map (option_map (task_numbered number)) (slice_set tasks.table t v)) ≡ with_table tasks queue (slice_set (map (option_map (task_numbered number)) tasks.table) t (option_map (task_numbered number) v))
  set_numbered tasks queue t v = ap (with_table tasks queue) (map-set (option_map (task_numbered number)) tasks.table t v)

  pub value_numbered : (tasks : Tasks O) (t : ℕ) → value_at (numbered number tasks).table t ≡ option_map (task_numbered number) (value_at tasks.table t)
  value_numbered tasks t = get_or-map (option_map (task_numbered number)) tasks.table t None

  pub next_numbered : (tasks : Tasks O) → next_number (numbered number tasks).table ≡ next_number tasks.table
  next_numbered tasks = length-map tasks.table (option_map (task_numbered number))

  -- wakes
  woken_phase : (phase : Phase O) (tasks : Tasks O) (t : ℕ) (task : Task O) → numbered number (woken_in phase tasks t task) ≡ woken_in (phase_numbered number phase) (numbered number tasks) t (task_numbered number task)
  woken_phase idle tasks t task = set_numbered tasks (tasks.queue ++ t ∷ []) t _
  woken_phase queued tasks t task = refl
  woken_phase (running noted) tasks t task = set_numbered tasks tasks.queue t _
  woken_phase (done output) tasks t task = refl
  woken_phase taken tasks t task = refl

  woken_by : (v : Option (Task O)) (tasks : Tasks O) (t : ℕ) → numbered number (woken_value v tasks t) ≡ woken_value (option_map (task_numbered number) v) (numbered number tasks) t
  woken_by None tasks t = refl
  woken_by (Some task) tasks t = woken_phase task.phase tasks t task

  pub numbered-woken : (tasks : Tasks O) (t : ℕ) → numbered number (woken tasks t) ≡ woken (numbered number tasks) t
  numbered-woken tasks t = woken_by (value_at tasks.table t) tasks t ∙ ap (λ v. woken_value v (numbered number tasks) t) (sym (value_numbered tasks t))

  pub numbered-woken_if_any : (tasks : Tasks O) (w : Option ℕ) → numbered number (woken_if_any tasks w) ≡ woken_if_any (numbered number tasks) w
  numbered-woken_if_any tasks None = refl
  numbered-woken_if_any tasks (Some t) = numbered-woken tasks t

  pub numbered-all_woken : (tasks : Tasks O) (ts : List ℕ) → numbered number (all_woken tasks ts) ≡ all_woken (numbered number tasks) ts
  numbered-all_woken tasks [] = refl
  numbered-all_woken tasks (t ∷ ts) = numbered-all_woken (woken tasks t) ts ∙ ap (λ x. all_woken x ts) (numbered-woken tasks t)

  woke_phase : (phase : Phase O) → woke_in (phase_numbered number phase) ≡ woke_in phase
  woke_phase idle = refl
  woke_phase queued = refl
  woke_phase (running noted) = refl
  woke_phase (done output) = refl
  woke_phase taken = refl

  woke_by : (v : Option (Task O)) → woke_value (option_map (task_numbered number) v) ≡ woke_value v
  woke_by None = refl
  woke_by (Some task) = woke_phase task.phase

  pub wake_answer-numbered : (tasks : Tasks O) (t : ℕ) → wake_answer (numbered number tasks) t ≡ wake_answer tasks t
  wake_answer-numbered tasks t = rw (length-map tasks.table (option_map (task_numbered number)), value_numbered tasks t, woke_by (value_at tasks.table t)) refl

  -- handles
  abbrev kept_numbered : Result (Task O) TaskError → Result (Task ℕ) TaskError
  kept_numbered (Ok task) = Ok (task_numbered number task)
  kept_numbered (Err e) = Err e

  kept_if : (k : Bool) (task : Task O) → cond k (Ok (task_numbered number task)) (Err NoHandle) ≡ kept_numbered (cond k (Ok task) (Err NoHandle))
  kept_if true task = refl
  kept_if false task = refl

  kept_by : (b : Bool) (v : Option (Task O)) → cond b (kept_value (option_map (task_numbered number) v)) (Err NoTask) ≡ kept_numbered (cond b (kept_value v) (Err NoTask))
  kept_by false v = refl
  kept_by true None = refl
  kept_by true (Some task) = kept_if task.is_kept task

  kept-numbered : (tasks : Tasks O) (t : ℕ) → kept_task (numbered number tasks) t ≡ kept_numbered (kept_task tasks t)
  kept-numbered tasks t =
      ap (λ n. cond (nat_lt t n) (kept_value (value_at (numbered number tasks).table t)) (Err NoTask)) (next_numbered tasks)
      ∙ ap (λ v. cond (is_issued tasks.table t) (kept_value v) (Err NoTask)) (value_numbered tasks t)
      ∙ kept_by (is_issued tasks.table t) (value_at tasks.table t)

  joined_phase : (phase : Phase O) (tasks : Tasks O) (t by : ℕ) → numbered number (joined_in phase tasks t by) ≡ joined_in (phase_numbered number phase) (numbered number tasks) t by
  joined_phase idle tasks t by = set_numbered tasks tasks.queue t _
  joined_phase queued tasks t by = set_numbered tasks tasks.queue t _
  joined_phase (running noted) tasks t by = set_numbered tasks tasks.queue t _
  joined_phase (done output) tasks t by = set_numbered tasks tasks.queue t _
  joined_phase taken tasks t by = refl

  joined_by : (r : Result (Task O) TaskError) (tasks : Tasks O) (t by : ℕ) → numbered number (joined_value r tasks t by) ≡ joined_value (kept_numbered r) (numbered number tasks) t by
  joined_by (Ok task) tasks t by = joined_phase task.phase tasks t by
  joined_by (Err e) tasks t by = refl

  pub numbered-joined : (tasks : Tasks O) (t by : ℕ) → numbered number (joined tasks t by) ≡ joined (numbered number tasks) t by
  numbered-joined tasks t by = joined_by (kept_task tasks t) tasks t by ∙ ap (λ r. joined_value r (numbered number tasks) t by) (sym (kept-numbered tasks t))

  output_phase : (phase : Phase O) → output_in (phase_numbered number phase) ≡ join_numbered number (output_in phase)
  output_phase idle = refl
  output_phase queued = refl
  output_phase (running noted) = refl
  output_phase (done output) = refl
  output_phase taken = refl

  answer_by : (r : Result (Task O) TaskError) → join_value (kept_numbered r) ≡ join_numbered number (join_value r)
  answer_by (Ok task) = output_phase task.phase
  answer_by (Err e) = refl

  pub join_answer-numbered : (tasks : Tasks O) (t : ℕ) → join_answer (numbered number tasks) t ≡ join_numbered number (join_answer tasks t)
  join_answer-numbered tasks t = ap join_value (kept-numbered tasks t) ∙ answer_by (kept_task tasks t)

  dropped_phase : (phase : Phase O) (tasks : Tasks O) (t : ℕ) → numbered number (dropped_in phase tasks t) ≡ dropped_in (phase_numbered number phase) (numbered number tasks) t
  dropped_phase idle tasks t = set_numbered tasks tasks.queue t _
  dropped_phase queued tasks t = set_numbered tasks tasks.queue t _
  dropped_phase (running noted) tasks t = set_numbered tasks tasks.queue t _
  dropped_phase (done output) tasks t = set_numbered tasks tasks.queue t _
  dropped_phase taken tasks t = set_numbered tasks tasks.queue t _

  dropped_by : (r : Result (Task O) TaskError) (tasks : Tasks O) (t : ℕ) → numbered number (dropped_value r tasks t) ≡ dropped_value (kept_numbered r) (numbered number tasks) t
  dropped_by (Ok task) tasks t = dropped_phase task.phase tasks t
  dropped_by (Err e) tasks t = refl

  pub numbered-dropped : (tasks : Tasks O) (t : ℕ) → numbered number (join_dropped tasks t) ≡ join_dropped (numbered number tasks) t
  numbered-dropped tasks t = dropped_by (kept_task tasks t) tasks t ∙ ap (λ r. dropped_value r (numbered number tasks) t) (sym (kept-numbered tasks t))

  given_phase : (phase : Phase O) → output_of (phase_numbered number phase) ≡ option_map number (output_of phase)
  given_phase idle = refl
  given_phase queued = refl
  given_phase (running noted) = refl
  given_phase (done output) = refl
  given_phase taken = refl

  given_by : (r : Result (Task O) TaskError) → drop_value (kept_numbered r) ≡ drop_numbered number (drop_value r)
  given_by (Ok task) = ap Ok (given_phase task.phase)
  given_by (Err e) = refl

  pub drop_answer-numbered : (tasks : Tasks O) (t : ℕ) → drop_answer (numbered number tasks) t ≡ drop_numbered number (drop_answer tasks t)
  drop_answer-numbered tasks t = ap drop_value (kept-numbered tasks t) ∙ given_by (kept_task tasks t)

  -- turns
  begun_by : (v : Option (Task O)) (tasks : Tasks O) (t : ℕ) → numbered number (begun_value v tasks t) ≡ begun_value (option_map (task_numbered number) v) (numbered number tasks) t
  begun_by None tasks t = refl
  begun_by (Some task) tasks t = set_numbered tasks tasks.queue t _

  pub numbered-begun : (tasks : Tasks O) (t : ℕ) (rest : List ℕ) → numbered number (begun tasks t rest) ≡ begun (numbered number tasks) t rest
  numbered-begun tasks t rest =
      begun_by (value_at tasks.table t) (record { queue = rest; table = tasks.table; limit = tasks.limit }) t
      ∙ ap (λ v. begun_value v (record { queue = rest; table = (numbered number tasks).table; limit = tasks.limit }) t) (sym (value_numbered tasks t))

  noted_phase : (phase : Phase O) → is_noted (phase_numbered number phase) ≡ is_noted phase
  noted_phase idle = refl
  noted_phase queued = refl
  noted_phase (running noted) = refl
  noted_phase (done output) = refl
  noted_phase taken = refl

  paused_if : (b : Bool) (task : Task O) (tasks : Tasks O) (t : ℕ) → numbered number (cond b (queued_last tasks t task) (with_task tasks t (in_phase task idle))) ≡ cond b (queued_last (numbered number tasks) t (task_numbered number task)) (with_task (numbered number tasks) t (in_phase (task_numbered number task) idle))
  paused_if true task tasks t = set_numbered tasks (tasks.queue ++ t ∷ []) t _
  paused_if false task tasks t = set_numbered tasks tasks.queue t _

  paused_by : (v : Option (Task O)) (tasks : Tasks O) (t : ℕ) → numbered number (paused_value v tasks t) ≡ paused_value (option_map (task_numbered number) v) (numbered number tasks) t
  paused_by None tasks t = refl
  paused_by (Some task) tasks t = paused_if (is_noted task.phase) task tasks t ∙ ap (λ b. cond b (queued_last (numbered number tasks) t (task_numbered number task)) (with_task (numbered number tasks) t (in_phase (task_numbered number task) idle))) (sym (noted_phase task.phase))

  pub numbered-paused : (tasks : Tasks O) (t : ℕ) → numbered number (paused_value (value_at tasks.table t) tasks t) ≡ paused_value (value_at (numbered number tasks).table t) (numbered number tasks) t
  numbered-paused tasks t = paused_by (value_at tasks.table t) tasks t ∙ ap (λ v. paused_value v (numbered number tasks) t) (sym (value_numbered tasks t))

  pausing_by : (v : Option (Task O)) → pause_answer (option_map (task_numbered number) v) ≡ pause_answer v
  pausing_by None = refl
  pausing_by (Some task) = rw (noted_phase task.phase) refl

  pub pause_answer-numbered : (tasks : Tasks O) (t : ℕ) → pause_answer (value_at (numbered number tasks).table t) ≡ pause_answer (value_at tasks.table t)
  pause_answer-numbered tasks t = ap pause_answer (value_numbered tasks t) ∙ pausing_by (value_at tasks.table t)

  completed_if : (b : Bool) (task : Task O) (tasks : Tasks O) (t : ℕ) (output : O)
      → numbered number (cond b (woken_if_any (with_task tasks t (record { phase = done output; is_kept = true; waiter = None })) task.waiter) (without_task tasks t))
      ≡ cond b (woken_if_any (with_task (numbered number tasks) t (record { phase = done (number output); is_kept = true; waiter = None })) task.waiter) (without_task (numbered number tasks) t)
  completed_if true task tasks t output =
      numbered-woken_if_any (with_task tasks t (record { phase = done output; is_kept = true; waiter = None })) task.waiter
      ∙ ap (λ x. woken_if_any x task.waiter) (set_numbered tasks tasks.queue t (Some (record { phase = done output; is_kept = true; waiter = None })))
  completed_if false task tasks t output = set_numbered tasks tasks.queue t None

  completed_by : (v : Option (Task O)) (tasks : Tasks O) (t : ℕ) (output : O) → numbered number (completed_value v tasks t output) ≡ completed_value (option_map (task_numbered number) v) (numbered number tasks) t (number output)
  completed_by None tasks t output = refl
  completed_by (Some task) tasks t output = completed_if task.is_kept task tasks t output

  pub numbered-completed : (tasks : Tasks O) (t : ℕ) (output : O) → numbered number (completed_value (value_at tasks.table t) tasks t output) ≡ completed_value (value_at (numbered number tasks).table t) (numbered number tasks) t (number output)
  numbered-completed tasks t output = completed_by (value_at tasks.table t) tasks t output ∙ ap (λ v. completed_value v (numbered number tasks) t (number output)) (sym (value_numbered tasks t))

  completing_by : (v : Option (Task O)) → complete_answer (option_map (task_numbered number) v) ≡ complete_answer v
  completing_by None = refl
  completing_by (Some task) = refl

  pub complete_answer-numbered : (tasks : Tasks O) (t : ℕ) → complete_answer (value_at (numbered number tasks).table t) ≡ complete_answer (value_at tasks.table t)
  complete_answer-numbered tasks t = ap complete_answer (value_numbered tasks t) ∙ completing_by (value_at tasks.table t)

  -- one more task
  map-last : (table : Table (Task O)) (v : Option (Task O)) → map (option_map (task_numbered number)) (table ++ v ∷ []) ≡ map (option_map (task_numbered number)) table ++ option_map (task_numbered number) v ∷ []
  map-last [] v = refl
  map-last (x ∷ xs) v = ap (λ ys. option_map (task_numbered number) x ∷ ys) (map-last xs v)

  pub numbered-spawned : (tasks : Tasks O) → numbered number (spawned tasks) ≡ spawned (numbered number tasks)
  numbered-spawned tasks =
      ap (with_table tasks (tasks.queue ++ next_number tasks.table ∷ [])) (map-last tasks.table (Some (record { phase = queued; is_kept = true; waiter = None })))
      ∙ ap (λ n. with_table tasks (tasks.queue ++ n ∷ []) (map (option_map (task_numbered number)) tasks.table ++ Some (record { phase = queued; is_kept = true; waiter = None }) ∷ [])) (sym (next_numbered tasks))

  counted_numbered : (table : Table (Task O)) → counted (map (option_map (task_numbered number)) table) ≡ counted table
  counted_numbered [] = refl
  counted_numbered (None ∷ xs) = counted_numbered xs
  counted_numbered (Some task ∷ xs) = ap (λ n. 1 + n) (counted_numbered xs)

  count_numbered : (table : Table (Task O)) → count_of (map (option_map (task_numbered number)) table) ≡ count_of table
  count_numbered table = sym (counted-count_of (map (option_map (task_numbered number)) table)) ∙ counted_numbered table ∙ counted-count_of table

  pub full_numbered : (tasks : Tasks O) → is_full (numbered number tasks).table tasks.limit ≡ is_full tasks.table tasks.limit
  full_numbered tasks = rw (count_numbered tasks.table, next_numbered tasks) refl
