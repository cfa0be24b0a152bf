-- Tasks with their outputs forgotten, after a wake that may be none.
use Rattle.std.proofs.Common.{◌≡◌, ℕ, Some, None, Option, refl}
use Rattle.mono_model.specs.Tasks.{Tasks, woken_if_any}
use Rattle.mono_task.specs.Work.{without_outputs}
use Rattle.mono_task.proofs.ForgottenOutputLemmas.{without_outputs-woken}

pub forgotten_if_any : {O : Type 0} (tasks : Tasks O) (w : Option ℕ) → without_outputs (woken_if_any tasks w) ≡ woken_if_any (without_outputs tasks) w
forgotten_if_any tasks None = refl
forgotten_if_any tasks (Some t) = without_outputs-woken tasks t
