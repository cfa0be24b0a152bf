-- Futures that answer at once, and yields, make no task.
use Rattle.std.specs.Prelude.{⊤, ℕ, Option, Some, None, Result}
use Rattle.std.specs.Fn.{Once}
use Rattle.mono_model.specs.Tasks.{Tasks}
use Rattle.mono_quiet.specs.Wakes.{wake_makes_none}
use Rattle.mono_model.specs.declared.Woke.{Woke}
use Rattle.mono_model.specs.declared.task_error.TaskError.{TaskError}
use Rattle.mono_model.specs.declared.poll.Poll.{Poll}
use Rattle.mono_forms.specs.Answers.{ReadyPolls}
use Rattle.mono_forms.specs.Lazies.{LazyPolls}
use Rattle.mono_forms.specs.Yields.{YieldPolls}
use Rattle.mono_forms.specs.declared.yields.YieldNow.{YieldNow}
use Rattle.mono_forms.specs.declared.yields.YieldNow.TheVariants.{Fresh, Woken, Over}
use Rattle.mono_quiet.specs.Numbers.{MakesNone, none_at_all}

module _ {C : Type 0} (work : C → Tasks ⊤) where
  pub ready_makes_none : {T : Type 0} (v : Option T) (c : C) (r : Poll T) (left : Option T) (d : C) → ReadyPolls v c r left d → MakesNone work c d
  ready_makes_none (Some x) c r left d q = none_at_all work c d q.2
  ready_makes_none None c r left d q = absurd q

  pub lazy_makes_none : {T F : Type 0} (call : Once F (Unit {0}) T) (v : Option F) (c : C) (r : Poll T) (left : Option F) (d : C) → LazyPolls call v c r left d → MakesNone work c d
  lazy_makes_none call (Some f) c r left d q = none_at_all work c d q.2
  lazy_makes_none call None c r left d q = absurd q

  module _ (number : C → ℕ) (wakes : C → ℕ → Result Woke TaskError → C → Type 0) (reaches : C → C → Type 0) where
    pub yield_makes_none : (f : YieldNow) (c : C) (r : Poll ⊤) (g : YieldNow) (d : C) → YieldPolls number work wakes reaches f c r g d → MakesNone work c d
    yield_makes_none Fresh c r g d q = wake_makes_none work (number c) c d q.2.work_after
    yield_makes_none Woken c r g d q = none_at_all work c d q.2
    yield_makes_none Over c r g d q = absurd q
