-- How the parts of an executor refine a machine.
use Rattle.std.specs.Prelude.{◌≡◌, ℕ, not}
use Rattle.mono_model.specs.Table.{value_at}
use Rattle.mono_model.specs.Sleeps.{Sleeps}
use Rattle.mono_replay.specs.TaskInbox.{is_known}
use Rattle.mono_task.specs.Schedule.{Schedule}
use Rattle.mono_time.specs.Refinement.{Keeps}
use Rattle.mono_time.specs.Timers.{sleeps_of, elapsed_tick}
use Rattle.mono_time.specs.declared.timers.Timers.{Timers}
use Rattle.mono_machine.specs.Machine.{Machine}
use Rattle.mono_machine.specs.Steps.{has_finished}
use Rattle.mono_replay.specs.declared.parts.Parts.{Parts}

-- No clock step is in progress: the wheel has reached the greatest tick.
pub record Rests (timers : Timers) (sleeps : Sleeps) : Type 0 where
  pub keeps : Keeps timers sleeps
  pub has_gone : elapsed_tick timers ≡ (sleeps_of timers).greatest

-- The sleeps and the tasks are those of the machine, also during a clock step.
pub record MatchesInStep (timers : Timers) (tasks : Schedule ℕ) (m : Machine) : Type 0 where
  pub keeps : Keeps timers m.sleeps
  pub same_tasks : tasks.tasks ≡ m.tasks

-- The parts are those of the machine. The inbox knows exactly the tasks that have not finished.
pub record Matches (parts : Parts) (m : Machine) : Type 0 where
  pub tasks : parts.tasks.tasks ≡ m.tasks
  pub sleeps : Rests parts.timers m.sleeps
  pub jobs : parts.jobs ≡ m.jobs
  pub inbox : parts.inbox.waiting ≡ m.inbox
  pub known : (t : ℕ) → is_known parts.inbox t ≡ not (has_finished (value_at m.tasks.table t))
  pub strategy : parts.blocking ≡ m.strategy
