-- A future with a delay that is there makes no task, if the future makes none.
use Rattle.std.specs.Prelude.{⊤, ℕ, Result}
use Rattle.mono_model.specs.Tasks.{Tasks}
use Rattle.mono_model.specs.declared.poll.Poll.{Poll}
use Rattle.mono_model.specs.declared.poll.Poll.TheVariants.{Ready, Pending}
use Rattle.mono_task.specs.Members.{FutureOf}
use Rattle.mono_time.specs.Sleeps.{SleepTable}
use Rattle.mono_time.specs.Timeouts.{AfterValue, TimeoutPolls, TimeoutCancels}
use Rattle.mono_time.specs.declared.sleeps.Sleep.{Sleep}
use Rattle.mono_time.specs.declared.timeouts.Timeout.{Timeout}
use Rattle.mono_time.specs.declared.error.TimeoutError.{TimeoutError}
use Rattle.mono_quiet.specs.Numbers.{MakesNone, same_tasks, none_on, PollsMakeNone, CancelsMakeNone}

module _ {T C O : Type 0} (work : C → Tasks ⊤) (sleeps : C → SleepTable) (reaches : C → C → Type 0) (future : FutureOf T C O) where
  pub timeout_left : CancelsMakeNone work future → (f : Timeout T) (c d : C) → TimeoutCancels future sleeps work reaches f c d → MakesNone work c d
  timeout_left cancels f c d q = none_on work c q.0 d (cancels f.value c q.0 q.1) (same_tasks work q.0 d q.2.work_after)

  module _ (number : C → ℕ) where
    after_value : (answer : Poll O) (s : Sleep) (c : C) (r : Poll (Result O TimeoutError)) (left : Sleep) (d : C) → AfterValue future number sleeps work reaches answer s c r left d → MakesNone work c d
    after_value (Ready x) s c r left d q = same_tasks work c d q.2.work_after
    after_value Pending s c r left d q = same_tasks work c d q.1.work_after

    pub timeout_makes_none : PollsMakeNone work future → (f : Timeout T) (c : C) (r : Poll (Result O TimeoutError)) (g : Timeout T) (d : C) → TimeoutPolls future number sleeps work reaches f c r g d → MakesNone work c d
    timeout_makes_none polls f c r g d q = none_on work c q.middle d (polls f.value c q.answer g.value q.middle q.value) (after_value q.answer f.delay q.middle r g.delay d q.rest)
