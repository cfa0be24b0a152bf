-- Only the end of a turn adds an output.
use Rattle.std.proofs.Common.{◌≡◌, ℕ, zero, suc, Bool, true, false, cond, List, [], ◌∷◌, ◌++◌, length, set, Some, None, Option, Result, Ok, Err, refl, ap, sym, ◌∙◌, ◌⊎◌, inl, inr}
use Rattle.std.proofs.lemmas.List.{length-set}
use Rattle.mono_model.specs.Table.{Table, value_at, next_number, with_next, is_issued}
use Rattle.mono_model.specs.Tasks.{Tasks, Task, Phase, idle, queued, running, done, taken, is_noted, woken, woken_value, woken_in, woken_if_any, all_woken, begun, begun_value, paused_value, completed_value, with_task, spawned}
use Rattle.mono_model.specs.Joins.{output_of, kept_task, kept_value, drop_value, drop_answer, joined, joined_value, joined_in, join_dropped, dropped_value, dropped_in}
use Rattle.mono_model.specs.declared.task_error.TaskError.{TaskError}
use Rattle.mono_model.specs.declared.task_error.TaskError.TheVariants.{NoTask, NoHandle}
use Rattle.mono_rt.specs.Outputs.{output_in, output_at, KeepsOutputs, AddsNone}

module _ {O : Type 0} where
  abbrev dropped_as : Result (Option O) TaskError → Result (Option O) TaskError
  dropped_as r = r

  -- the output after a place was written
  out_set : (xs : Table (Task O)) (t q : ℕ) (v : Option (Task O)) (x : O) → output_in (value_at (set xs t v) q) ≡ Some x
      → ((q ≡ t) × (output_in v ≡ Some x)) ⊎ (output_in (value_at xs q) ≡ Some x)
  out_set [] t q v x is = inr is
  out_set (y ∷ ys) zero zero v x is = inl (refl, is)
  out_set (y ∷ ys) zero (suc q) v x is = inr is
  out_set (y ∷ ys) (suc t) zero v x is = inr is
  out_set (y ∷ ys) (suc t) (suc q) v x is = elim (out_set ys t q v x is) [
    | inl here ↦ inl (ap suc here.0, here.1)
    | inr there ↦ inr there
  ]

  none_some : (v : Option O) (x : O) → v ≡ None → v ≡ Some x → ⊥
  none_some v x none some = cc

  -- a place was written without an output
  pub adds_set : (tasks new : Tasks O) (t : ℕ) (v : Option (Task O)) → new.table ≡ set tasks.table t v → output_in v ≡ None → AddsNone tasks new
  adds_set tasks new t v is none = record {
    outputs = λ q x out. elim (out_set tasks.table t q v x (sym (ap (λ xs. output_in (value_at xs q)) is) ∙ out)) [
      | inl here ↦ absurd (none_some (output_in v) x none here.1)
      | inr there ↦ there
    ];
    next = ap next_number is ∙ length-set tasks.table t v;
  }

  pub adds_itself : (tasks : Tasks O) → AddsNone tasks tasks
  adds_itself tasks = record { outputs = λ t x is. is; next = refl }

  pub adds_on : (a b c : Tasks O) → AddsNone a b → AddsNone b c → AddsNone a c
  adds_on a b c p q = record { outputs = λ t x is. p.outputs t x (q.outputs t x is); next = q.next ∙ p.next }

  woken_phase : (phase : Phase O) (tasks : Tasks O) (t : ℕ) (task : Task O) → AddsNone tasks (woken_in phase tasks t task)
  woken_phase idle tasks t task = adds_set tasks (woken_in idle tasks t task) t _ refl refl
  woken_phase queued tasks t task = adds_itself tasks
  woken_phase (running noted) tasks t task = adds_set tasks (woken_in (running noted) tasks t task) t _ refl refl
  woken_phase (done output) tasks t task = adds_itself tasks
  woken_phase taken tasks t task = adds_itself tasks

  woken_place : (v : Option (Task O)) (tasks : Tasks O) (t : ℕ) → AddsNone tasks (woken_value v tasks t)
  woken_place None tasks t = adds_itself tasks
  woken_place (Some task) tasks t = woken_phase task.phase tasks t task

  pub adds_woken : (tasks : Tasks O) (t : ℕ) → AddsNone tasks (woken tasks t)
  adds_woken tasks t = woken_place (value_at tasks.table t) tasks t

  pub adds_woken_if_any : (tasks : Tasks O) (waker : Option ℕ) → AddsNone tasks (woken_if_any tasks waker)
  adds_woken_if_any tasks None = adds_itself tasks
  adds_woken_if_any tasks (Some t) = adds_woken tasks t

  pub adds_all_woken : (tasks : Tasks O) (ts : List ℕ) → AddsNone tasks (all_woken tasks ts)
  adds_all_woken tasks [] = adds_itself tasks
  adds_all_woken tasks (t ∷ ts) = adds_on tasks (woken tasks t) (all_woken (woken tasks t) ts) (adds_woken tasks t) (adds_all_woken (woken tasks t) ts)

  joined_phase : (phase : Phase O) (tasks : Tasks O) (t by : ℕ) → AddsNone tasks (joined_in phase tasks t by)
  joined_phase idle tasks t by = adds_set tasks (joined_in idle tasks t by) t _ refl refl
  joined_phase queued tasks t by = adds_set tasks (joined_in queued tasks t by) t _ refl refl
  joined_phase (running noted) tasks t by = adds_set tasks (joined_in (running noted) tasks t by) t _ refl refl
  joined_phase (done output) tasks t by = adds_set tasks (joined_in (done output) tasks t by) t _ refl refl
  joined_phase taken tasks t by = adds_itself tasks

  joined_place : (v : Result (Task O) TaskError) (tasks : Tasks O) (t by : ℕ) → AddsNone tasks (joined_value v tasks t by)
  joined_place (Ok task) tasks t by = joined_phase task.phase tasks t by
  joined_place (Err error) tasks t by = adds_itself tasks

  pub adds_joined : (tasks : Tasks O) (t by : ℕ) → AddsNone tasks (joined tasks t by)
  adds_joined tasks t by = joined_place (kept_task tasks t) tasks t by

  dropped_phase : (phase : Phase O) (tasks : Tasks O) (t : ℕ) → AddsNone tasks (dropped_in phase tasks t)
  dropped_phase idle tasks t = adds_set tasks (dropped_in idle tasks t) t _ refl refl
  dropped_phase queued tasks t = adds_set tasks (dropped_in queued tasks t) t _ refl refl
  dropped_phase (running noted) tasks t = adds_set tasks (dropped_in (running noted) tasks t) t _ refl refl
  dropped_phase (done output) tasks t = adds_set tasks (dropped_in (done output) tasks t) t _ refl refl
  dropped_phase taken tasks t = adds_set tasks (dropped_in taken tasks t) t _ refl refl

  dropped_place : (v : Result (Task O) TaskError) (tasks : Tasks O) (t : ℕ) → AddsNone tasks (dropped_value v tasks t)
  dropped_place (Ok task) tasks t = dropped_phase task.phase tasks t
  dropped_place (Err error) tasks t = adds_itself tasks

  pub adds_dropped : (tasks : Tasks O) (t : ℕ) → AddsNone tasks (join_dropped tasks t)
  adds_dropped tasks t = dropped_place (kept_task tasks t) tasks t

  begun_place : (v : Option (Task O)) (tasks : Tasks O) (t : ℕ) → AddsNone tasks (begun_value v tasks t)
  begun_place None tasks t = adds_itself tasks
  begun_place (Some task) tasks t = adds_set tasks (begun_value (Some task) tasks t) t _ refl refl

  pub adds_begun : (tasks : Tasks O) (t : ℕ) (rest : List ℕ) → AddsNone tasks (begun tasks t rest)
  adds_begun tasks t rest =
      let mid : Tasks O = record { queue = rest; table = tasks.table; limit = tasks.limit } in
      adds_on tasks mid (begun tasks t rest) (record { outputs = λ q x is. is; next = refl }) (begun_place (value_at tasks.table t) mid t)

  paused_by : (again : Bool) (tasks : Tasks O) (t : ℕ) (task : Task O) → is_noted task.phase ≡ again → AddsNone tasks (paused_value (Some task) tasks t)
  paused_by true tasks t task is = rw is (adds_set tasks _ t _ refl refl)
  paused_by false tasks t task is = rw is (adds_set tasks _ t _ refl refl)

  pub adds_paused : (v : Option (Task O)) (tasks : Tasks O) (t : ℕ) → AddsNone tasks (paused_value v tasks t)
  adds_paused None tasks t = adds_itself tasks
  adds_paused (Some task) tasks t = paused_by (is_noted task.phase) tasks t task refl

  -- the turn of t ends with an output
  completed_by : (kept : Bool) (tasks : Tasks O) (t q : ℕ) (task : Task O) (output x : O) → task.is_kept ≡ kept → output_at (completed_value (Some task) tasks t output) q ≡ Some x
      → ((q ≡ t) × (output ≡ x)) ⊎ (output_at tasks q ≡ Some x)
  completed_by true tasks t q task output x kept is =
      let last : Task O = record { phase = done output; is_kept = true; waiter = None } in
      let mid : Tasks O = with_task tasks t last in
      let out : output_at (woken_if_any mid task.waiter) q ≡ Some x = rw kept at is in
      elim (out_set tasks.table t q (Some last) x ((adds_woken_if_any mid task.waiter).outputs q x out)) [
        | inl here ↦ inl (here.0, the_same output x here.1)
        | inr there ↦ inr there
      ]
    where
      the_same : (y x : O) → Some y ≡ Some x → y ≡ x
      the_same y x is = cc
  completed_by false tasks t q task output x kept is = elim (out_set tasks.table t q None x (rw kept at is)) [
    | inl here ↦ absurd (none_some None x refl here.1)
    | inr there ↦ inr there
  ]

  pub output_completed : (v : Option (Task O)) (tasks : Tasks O) (t q : ℕ) (output x : O) → output_at (completed_value v tasks t output) q ≡ Some x → ((q ≡ t) × (output ≡ x)) ⊎ (output_at tasks q ≡ Some x)
  output_completed None tasks t q output x is = inr is
  output_completed (Some task) tasks t q output x is = completed_by task.is_kept tasks t q task output x refl is

  next_by : (kept : Bool) (tasks : Tasks O) (t : ℕ) (task : Task O) (output : O) → task.is_kept ≡ kept → next_number (completed_value (Some task) tasks t output).table ≡ next_number tasks.table
  next_by true tasks t task output kept =
      let last : Task O = record { phase = done output; is_kept = true; waiter = None } in
      rw kept ((adds_woken_if_any (with_task tasks t last) task.waiter).next ∙ length-set tasks.table t (Some last))
  next_by false tasks t task output kept = rw kept (length-set tasks.table t None)

  pub next_completed : (v : Option (Task O)) (tasks : Tasks O) (t : ℕ) (output : O) → next_number (completed_value v tasks t output).table ≡ next_number tasks.table
  next_completed None tasks t output = refl
  next_completed (Some task) tasks t output = next_by task.is_kept tasks t task output refl

  -- a task is made
  out_next : (xs : Table (Task O)) (q : ℕ) (task : Task O) (x : O) → output_in (Some task) ≡ None → output_in (value_at (with_next xs task) q) ≡ Some x → output_in (value_at xs q) ≡ Some x
  out_next [] zero task x none is = absurd (none_some (output_in (Some task)) x none is)
  out_next [] (suc q) task x none is = is
  out_next (y ∷ ys) zero task x none is = is
  out_next (y ∷ ys) (suc q) task x none is = out_next ys q task x none is

  pub keeps_spawned : (tasks : Tasks O) → KeepsOutputs tasks (spawned tasks)
  keeps_spawned tasks q x is = out_next tasks.table q _ x refl is

  -- the new task has no output
  pub output_next : (xs : Table (Task O)) (task : Task O) → value_at (with_next xs task) (length xs) ≡ Some task
  output_next [] task = refl
  output_next (y ∷ ys) task = output_next ys task

  -- The drop of a handle returns the output that was there.
  kept_output : (kept : Bool) (task : Task O) (x : O) → task.is_kept ≡ kept → drop_value (kept_value (Some task)) ≡ Ok (Some x) → output_in (Some task) ≡ Some x
  kept_output true task x kept is = the_output (output_of task.phase) x (rw kept at is)
    where
      the_output : (v : Option O) (x : O) → dropped_as (Ok v) ≡ Ok (Some x) → v ≡ Some x
      the_output v x is = cc
  kept_output false task x kept is = absurd (no_output x (rw kept at is))
    where
      no_output : (x : O) → dropped_as (Err NoHandle) ≡ Ok (Some x) → ⊥
      no_output x is = cc

  issued_output : (b : Bool) (v : Option (Task O)) (x : O) → drop_value (cond b (kept_value v) (Err NoTask)) ≡ Ok (Some x) → output_in v ≡ Some x
  issued_output false v x is = cc
  issued_output true None x is = cc
  issued_output true (Some task) x is = kept_output task.is_kept task x refl is

  pub output_dropped : (tasks : Tasks O) (t : ℕ) (x : O) → drop_answer tasks t ≡ Ok (Some x) → output_at tasks t ≡ Some x
  output_dropped tasks t x is = issued_output (is_issued tasks.table t) (value_at tasks.table t) x is
