-- A future that waits for a number of polls: its answer to one poll and its state after it.
use Rattle.std.specs.Prelude.{◌≡◌, ℕ, ◌-◌, ◌==◌, ⊤, Bool, true, if◌then◌else◌, Result}
use Rattle.mono_model.specs.Tasks.{Tasks, woken}
use Rattle.mono_model.specs.Poll.{OnPending, OnReady}
use Rattle.mono_model.specs.declared.Woke.{Woke}
use Rattle.mono_model.specs.declared.task_error.TaskError.{TaskError}
use Rattle.mono_model.specs.declared.poll.Poll.{Poll}
use Rattle.mono_model.specs.declared.poll.Poll.TheVariants.{Ready, Pending}
use Rattle.example_parts.specs.declared.nests.by_hand.Countdown.{Countdown}

-- Whether no polls are left, so the next one answers.
abbrev pub is_over : Countdown → Bool
is_over f = f.left == 0

abbrev pub answer_of : Countdown → Poll ℕ
answer_of f = if is_over f then Ready f.value else Pending

abbrev pub one_fewer : Countdown → Countdown
one_fewer f = record { left = f.left - 1; value = f.value; has_answered = f.has_answered }

abbrev pub answered : Countdown → Countdown
answered f = record { left = f.left; value = f.value; has_answered = true }

module _ {C : Type 0} (number : C → ℕ) (work : C → Tasks ⊤) (wakes : C → ℕ → Result Woke TaskError → C → Type 0) (reaches : C → C → Type 0) where
  -- The running task is woken.
  pub record WakesItself (c d : C) : Type 0 where
    pub woke : Result Woke TaskError
    pub wake : wakes c (number c) woke d
    pub work_after : work d ≡ woken (work c) (number c)

  -- It answers if and only if no polls are left; otherwise one fewer is left and its own task is woken.
  pub record CountdownPolls (f : Countdown) (c : C) (r : Poll ℕ) (g : Countdown) (d : C) : Type 0 where
    pub answer : r ≡ answer_of f
    pub waits : OnPending r ((g ≡ one_fewer f) × WakesItself c d)
    pub ends : OnReady r ((g ≡ answered f) × (d ≡ c))
    pub reached : reaches c d
