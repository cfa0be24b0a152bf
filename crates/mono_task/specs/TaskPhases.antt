-- The phase of a task without its output, and the task that waits for it.
use Rattle.std.specs.Prelude.{ℕ, Option, Some, None}
use Rattle.mono_model.specs.Tasks.{Task, Phase, idle, queued, running, done, taken}
use Rattle.mono_task.specs.declared.phases.TaskPhase.{TaskPhase}
use Rattle.mono_task.specs.declared.phases.TaskPhase.TheVariants.{Idle, Queued, Running, Finished}

abbrev pub phase_of : {O : Type 0} → Phase O → TaskPhase
phase_of idle = Idle
phase_of queued = Queued
phase_of (running noted) = Running
phase_of (done output) = Finished
phase_of taken = Finished

abbrev pub phase_in : {O : Type 0} → Option (Task O) → Option TaskPhase
phase_in None = None
phase_in (Some task) = Some (phase_of task.phase)

abbrev pub waiter_in : {O : Type 0} → Option (Task O) → Option ℕ
waiter_in None = None
waiter_in (Some task) = task.waiter
