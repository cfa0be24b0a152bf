-- The knowledge of a task's word once the task is spent.
use Rattle.std.specs.Prelude.{◌≡◌, ℕ, Bool}
use Rattle.mono_joinword.specs.declared.runner.Runner.{Runner}
use Rattle.mono_joinword.specs.declared.runner.RunnerSeat.{RunnerSeat}
use Rattle.mono_joinword.specs.Ends.{seat_view, IsCompleted, RunnerLeft}

-- The word of the job with this number was completed once, by this runner: with Canceled, or with an output of that
-- number. The remaining seat has no output and no waker.
pub record HasEnded {O W : Type 0} (canceled : Bool) (number : ℕ) (runner : Runner O W) (seat : RunnerSeat O W) : Type 0 where
  pub job : (seat_view seat).number ≡ number
  pub once : IsCompleted canceled (seat_view seat).stage
  pub left : RunnerLeft runner seat
