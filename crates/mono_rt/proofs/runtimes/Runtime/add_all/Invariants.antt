use Rattle.std.proofs.Common.{◌≡◌, ◌++◌, map}
use Rattle.mono_model.specs.Table.{value_at}
use Rattle.mono_task.specs.TaskPhases.{phase_in}
use Rattle.mono_rt.specs.TaskWaits.{each_below, rows_of, row_of}
use Rattle.mono_rt.proofs.runtimes.Runtime.add_all.Given as goal

-- the rows of the tasks below are added
abbrev pub invariant-tasks : goal.invariant-tasks
invariant-tasks g l = map row_of l.list.items ≡ map row_of l.fn.list.items ++ each_below (λ t. rows_of l.watches t (phase_in (value_at l.self.cx.parts.tasks.tasks.table t))) l.task
