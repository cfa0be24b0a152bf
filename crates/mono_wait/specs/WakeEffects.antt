-- A wake stirs the task.
use Rattle.std.proofs.Common.{◌≡◌, inl, inr, ℕ, true, set, length, Some, None, Option, refl, ap, ◌∙◌, arith}
use Rattle.std.proofs.lemmas.Bool.{cases_lt}
use Rattle.std.proofs.lemmas.List.{get_or-set_same, get_or_past, length-set}
use Rattle.mono_model.specs.Table.{Table, value_at}
use Rattle.mono_model.specs.Tasks.{Tasks, Task, Phase, idle, queued, running, done, taken, in_phase, woken, woken_in, woken_value}
use Rattle.mono_machine.specs.Watches.{is_stirred, is_stirred_in}

set_stirs : {O : Type 0} (table : Table (Task O)) (t : ℕ) (new : Option (Task O)) → is_stirred_in new ≡ true → is_stirred_in (value_at (set table t new) t) ≡ true
set_stirs table t new is = elim (cases_lt t (length table)) [
  | inl inside ↦ ap is_stirred_in (get_or-set_same table t new None inside) ∙ is
  | inr past ↦ ap is_stirred_in (get_or_past (set table t new) t None (omega (arith, past, length-set table t new)))
]

pub stirs : {O : Type 0} (tasks : Tasks O) (t : ℕ) → is_stirred_in (value_at (woken tasks t).table t) ≡ true
stirs {O} tasks t = by_value (value_at tasks.table t) refl
  where
    by_phase : (task : Task O) → value_at tasks.table t ≡ Some task → (phase : Phase O) → task.phase ≡ phase → is_stirred_in (value_at (woken_in phase tasks t task).table t) ≡ true
    by_phase task at idle is = set_stirs tasks.table t (Some (in_phase task queued)) refl
    by_phase task at queued is = ap is_stirred_in at ∙ ap is_stirred is
    by_phase task at (running noted) is = set_stirs tasks.table t (Some (in_phase task (running true))) refl
    by_phase task at (done output) is = ap is_stirred_in at ∙ ap is_stirred is
    by_phase task at taken is = ap is_stirred_in at ∙ ap is_stirred is

    by_value : (v : Option (Task O)) → value_at tasks.table t ≡ v → is_stirred_in (value_at (woken_value v tasks t).table t) ≡ true
    by_value None at = ap is_stirred_in at
    by_value (Some task) at = by_phase task at task.phase refl
