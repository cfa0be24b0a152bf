use Rattle.std.proofs.Common.{◌≡◌, ◌++◌}
use Rattle.mono_model.specs.Table.{value_at}
use Rattle.mono_task.specs.TaskPhases.{waiter_in}
use Rattle.mono_rt.specs.declared.task_waits.WaitsFor.TheVariants as source
use Rattle.mono_rt.specs.TaskWaits.{each_below, watch}
use Rattle.mono_rt.proofs.task_waits.add_tasks.Given as goal

-- the tasks below are added
abbrev pub invariant-tasks : goal.invariant-tasks
invariant-tasks g l = l.list.items ≡ l.fn.list.items ++ each_below (λ u. watch (source.Task u) (waiter_in (value_at l.tasks.tasks.table u))) l.task
