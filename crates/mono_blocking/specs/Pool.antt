-- A pool's treatment of a task, and its answer, by the counts of its refusals before and after.
use Rattle.std.specs.Prelude.{◌≡◌, ℕ, ◌≤◌, Option, None, Result, Ok, Err}
use Rattle.mono_joinword.specs.declared.outcome.Outcome.{Ghosts}
use Rattle.mono_blocking.specs.Counts.{HasRisen}
use Rattle.mono_blocking.specs.declared.task.BlockingTask.{BlockingTask}
use Rattle.mono_blocking.specs.declared.strategy.Offered.{Offered}
use Rattle.mono_blocking.specs.declared.strategy.Offered.TheVariants as offered
use Rattle.mono_blocking.specs.declared.strategy.ScheduleError.{ScheduleError}
use Rattle.mono_blocking.specs.declared.strategy.ScheduleError.TheVariants as error

-- A pool takes the task that is offered, or leaves that same task. It refuses the task only if the count rose, and the
-- count never falls.
abbrev pub Offers : {T : Type 0} → Option T → Option T → ℕ → ℕ → Offered → Type 0
Offers task left before now offered.Taken = (left ≡ None) × (before ≤ now)
Offers task left before now offered.Here = (left ≡ task) × (before ≤ now)
Offers task left before now offered.Memory = (left ≡ task) × (before ≤ now)
Offers task left before now offered.Refused = (left ≡ task) × (before ≤ now) × HasRisen before now

-- A pool takes the task, or runs it on the caller, or returns that same task. It refuses the task only if the count
-- rose, and the count never falls.
abbrev pub Schedules : {T J O U : Type 0} {numbers : Ghosts J} → BlockingTask J O U numbers → ℕ → ℕ → Result T (ScheduleError J O U numbers) → Type 0
Schedules task before now (Ok done) = before ≤ now
Schedules task before now (Err (error.Memory t)) = (t ≡ task) × (before ≤ now)
Schedules task before now (Err (error.Refused t)) = (t ≡ task) × (before ≤ now) × HasRisen before now
