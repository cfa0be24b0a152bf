-- A yield to the other queued tasks.
use Rattle.std.specs.Prelude.{◌≡◌, ℕ, ⊤, Bool, true, false, Result}
use Rattle.mono_model.specs.Tasks.{Tasks, woken}
use Rattle.mono_model.specs.declared.Woke.{Woke}
use Rattle.mono_model.specs.declared.task_error.TaskError.{TaskError}
use Rattle.mono_model.specs.declared.poll.Poll.{Poll}
use Rattle.mono_model.specs.declared.poll.Poll.TheVariants.{Ready, Pending}
use Rattle.mono_forms.specs.declared.yields.YieldNow.{YieldNow}
use Rattle.mono_forms.specs.declared.yields.YieldNow.TheVariants.{Fresh, Woken, Over}

abbrev pub yield_spent : YieldNow → Bool
yield_spent Fresh = false
yield_spent Woken = false
yield_spent Over = true

module _ {C : Type 0} (number : C → ℕ) (work : C → Tasks ⊤) (wakes : C → ℕ → Result Woke TaskError → C → Type 0) (reaches : C → C → Type 0) where
  -- The running task is woken.
  pub record WakesItself (c d : C) : Type 0 where
    pub woke : Result Woke TaskError
    pub wake : wakes c (number c) woke d
    pub work_after : work d ≡ woken (work c) (number c)
    pub reached : reaches c d

  abbrev pub YieldPolls : YieldNow → C → Poll ⊤ → YieldNow → C → Type 0
  YieldPolls Fresh c r g d = (r ≡ Pending) × (g ≡ Woken) × WakesItself c d
  YieldPolls Woken c r g d = (r ≡ Ready tt) × (g ≡ Over) × (d ≡ c)
  YieldPolls Over c r g d = ⊥
