-- A wake of tasks whose outputs are forgotten is the wake of the tasks, forgotten.
use Rattle.std.proofs.Common.{◌≡◌, ℕ, zero, suc, [], ◌∷◌, ◌++◌, map, Some, None, Option, refl, ap, sym, ◌∙◌}
use Rattle.std.specs.Option.{option_map}
use Rattle.std.proofs.lemmas.List.{map-set, length-map}
use Rattle.mono_model.specs.Table.{Table, value_at}
use Rattle.mono_model.specs.Tasks.{Tasks, Task, Phase, idle, queued, running, done, taken, woken, woken_value, woken_in, woke_value, woke_in}
use Rattle.mono_model.specs.Joins.{wake_answer}
use Rattle.mono_task.specs.Work.{without_outputs, task_without, phase_without}

value_at-map : {V W : Type 0} (f : V → W) (table : Table V) (t : ℕ) → value_at (map (option_map f) table) t ≡ option_map f (value_at table t)
value_at-map f [] t = refl
value_at-map f (v ∷ vs) zero = refl
value_at-map f (v ∷ vs) (suc t) = value_at-map f vs t

forget_woken : {O : Type 0} (phase : Phase O) (tasks : Tasks O) (t : ℕ) (task : Task O) → without_outputs (woken_in phase tasks t task) ≡ woken_in (phase_without phase) (without_outputs tasks) t (task_without task)
forget_woken idle tasks t task = ap (λ table. record { queue = tasks.queue ++ t ∷ []; table = table; limit = tasks.limit }) (map-set (option_map task_without) tasks.table t _)
forget_woken queued tasks t task = refl
forget_woken (running noted) tasks t task = ap (λ table. record { queue = tasks.queue; table = table; limit = tasks.limit }) (map-set (option_map task_without) tasks.table t _)
forget_woken (done output) tasks t task = refl
forget_woken taken tasks t task = refl

forget_woken_value : {O : Type 0} (v : Option (Task O)) (tasks : Tasks O) (t : ℕ) → without_outputs (woken_value v tasks t) ≡ woken_value (option_map task_without v) (without_outputs tasks) t
forget_woken_value None tasks t = refl
forget_woken_value (Some task) tasks t = forget_woken task.phase tasks t task

pub without_outputs-woken : {O : Type 0} (tasks : Tasks O) (t : ℕ) → without_outputs (woken tasks t) ≡ woken (without_outputs tasks) t
without_outputs-woken tasks t =
    forget_woken_value (value_at tasks.table t) tasks t ∙ ap (λ v. woken_value v (without_outputs tasks) t) (sym (value_at-map task_without tasks.table t))

forget_woke : {O : Type 0} (phase : Phase O) → woke_in (phase_without phase) ≡ woke_in phase
forget_woke idle = refl
forget_woke queued = refl
forget_woke (running noted) = refl
forget_woke (done output) = refl
forget_woke taken = refl

forget_woke_value : {O : Type 0} (v : Option (Task O)) → woke_value (option_map task_without v) ≡ woke_value v
forget_woke_value None = refl
forget_woke_value (Some task) = forget_woke task.phase

pub wake_answer-without_outputs : {O : Type 0} (tasks : Tasks O) (t : ℕ) → wake_answer (without_outputs tasks) t ≡ wake_answer tasks t
wake_answer-without_outputs tasks t = rw (length-map tasks.table (option_map task_without), value_at-map task_without tasks.table t, forget_woke_value (value_at tasks.table t)) refl
