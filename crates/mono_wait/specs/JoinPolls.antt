-- A poll of a handle that is pending makes the task its waiter.
use Rattle.std.proofs.Common.{◌≡◌, inl, inr, ℕ, true, false, Bool, cond, set, length, map, List, [], ◌∷◌, Some, None, Option, Result, Ok, Err, zero, suc, refl, ap, sym, ◌∙◌, arith}
use Rattle.std.specs.Prelude.{⊤}
use Rattle.std.specs.Option.{option_map}
use Rattle.std.proofs.lemmas.Bool.{cases_lt}
use Rattle.std.proofs.lemmas.List.{get_or-set_same, get_or_past, length-set}
use Rattle.mono_model.specs.Table.{Table, value_at, is_issued}
use Rattle.mono_model.specs.Tasks.{Tasks, Task, Phase, idle, queued, running, done, taken}
use Rattle.mono_model.specs.Joins.{kept_value, output_in, join_value, join_answer, joined_in, joined_value, joined, waited_for}
use Rattle.mono_model.specs.declared.poll.Poll.{Poll}
use Rattle.mono_model.specs.declared.poll.Poll.TheVariants.{Ready, Pending}
use Rattle.mono_model.specs.declared.task_error.TaskError.{TaskError}
use Rattle.mono_model.specs.declared.task_error.TaskError.TheVariants.{NoTask, NoHandle}
use Rattle.mono_task.specs.Work.{task_without, without_outputs}
use Rattle.mono_wait.specs.Sources.{waiter_in}

-- the outputs do not say who waits
same_at : {O : Type 0} (table : Table (Task O)) (u : ℕ) → waiter_in (value_at (map (option_map task_without) table) u) ≡ waiter_in (value_at table u)
same_at [] u = refl
same_at (None ∷ table) zero = refl
same_at (Some task ∷ table) zero = refl
same_at (v ∷ table) (suc u) = same_at table u

pub same_waiter : {O : Type 0} (tasks : Tasks O) (u : ℕ) → waiter_in (value_at (without_outputs tasks).table u) ≡ waiter_in (value_at tasks.table u)
same_waiter tasks u = same_at tasks.table u

module _ {O : Type 0} (tasks : Tasks O) (t by : ℕ) where
  abbrev taken_answer : Result (Poll O) TaskError
  taken_answer = output_in taken

  abbrev error_answer : TaskError → Result (Poll O) TaskError
  error_answer e = Err e

  refused : (e : TaskError) → Ok Pending ≡ error_answer e → ⊥
  refused e is = cc

  none-some : {V : Type 0} (v : V) → None ≡ Some v → ⊥
  none-some v e = cc

  set_waits : (task new : Task O) → value_at tasks.table t ≡ Some task → new.waiter ≡ Some by → waiter_in (value_at (set tasks.table t (Some new)) t) ≡ Some by
  set_waits task new at is = elim (cases_lt t (length tasks.table)) [
    | inl inside ↦ ap waiter_in (get_or-set_same tasks.table t (Some new) None inside) ∙ is
    | inr past ↦ absurd (none-some task (sym (get_or_past tasks.table t None past) ∙ at))
  ]

  by_phase : (task : Task O) → value_at tasks.table t ≡ Some task → (phase : Phase O) → Ok Pending ≡ output_in phase → waiter_in (value_at (joined_in phase tasks t by).table t) ≡ Some by
  by_phase task at idle told = set_waits task _ at refl
  by_phase task at queued told = set_waits task _ at refl
  by_phase task at (running noted) told = set_waits task _ at refl
  by_phase task at (done output) told = absurd (impossible told)
    where
      impossible : Ok Pending ≡ output_in (done output) → ⊥
      impossible e = cc
  by_phase task at taken told = absurd (impossible told)
    where
      impossible : Ok Pending ≡ taken_answer → ⊥
      impossible e = cc

  by_kept : (task : Task O) → value_at tasks.table t ≡ Some task → (k : Bool) → Ok Pending ≡ join_value (cond k (Ok task) (Err NoHandle)) → waiter_in (value_at (joined_value (cond k (Ok task) (Err NoHandle)) tasks t by).table t) ≡ Some by
  by_kept task at true told = by_phase task at task.phase told
  by_kept task at false told = absurd (refused NoHandle told)

  by_issued : (b : Bool) (v : Option (Task O)) → value_at tasks.table t ≡ v → Ok Pending ≡ join_value (cond b (kept_value v) (Err NoTask)) → waiter_in (value_at (joined_value (cond b (kept_value v) (Err NoTask)) tasks t by).table t) ≡ Some by
  by_issued true None at told = absurd (refused NoHandle told)
  by_issued true (Some task) at told = by_kept task at task.is_kept told
  by_issued false v at told = absurd (refused NoTask told)

  pub pending_joins : Ok Pending ≡ join_answer tasks t → waiter_in (value_at (joined tasks t by).table t) ≡ Some by
  pending_joins = by_issued (is_issued tasks.table t) (value_at tasks.table t) refl
