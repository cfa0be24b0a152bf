-- A wake makes no task.
use Rattle.std.specs.Prelude.{⊤}
use Rattle.std.proofs.Common.{◌≡◌, ℕ, Some, None, Option, refl, ap, ◌∙◌}
use Rattle.std.proofs.lemmas.List.{length-set}
use Rattle.mono_model.specs.Table.{value_at, next_number}
use Rattle.mono_model.specs.Tasks.{Tasks, Task, Phase, idle, queued, running, done, taken, woken, woken_in, woken_value}
use Rattle.mono_quiet.specs.Numbers.{MakesNone, same_number}

next_of_woken : {O : Type 0} (v : Option (Task O)) (tasks : Tasks O) (t : ℕ) → next_number (woken_value v tasks t).table ≡ next_number tasks.table
next_of_woken {O} None tasks t = refl
next_of_woken {O} (Some task) tasks t = by_phase task.phase
  where
    by_phase : (phase : Phase O) → next_number (woken_in phase tasks t task).table ≡ next_number tasks.table
    by_phase idle = length-set tasks.table t _
    by_phase queued = refl
    by_phase (running noted) = length-set tasks.table t _
    by_phase (done output) = refl
    by_phase taken = refl

pub wake_makes_none : {C : Type 0} (work : C → Tasks ⊤) (t : ℕ) (c d : C) → work d ≡ woken (work c) t → MakesNone work c d
wake_makes_none work t c d is = same_number work c d (ap (λ w. next_number w.table) is ∙ next_of_woken (value_at (work c).table t) (work c) t)
