use Rattle.std.proofs.Common.{◌≡◌, ◌++◌}
use Rattle.mono_model.specs.Table.{value_at}
use Rattle.mono_machine.specs.Watches.{job_waiter}
use Rattle.mono_rt.specs.declared.task_waits.WaitsFor.TheVariants as source
use Rattle.mono_rt.specs.TaskWaits.{each_below, watch}
use Rattle.mono_rt.proofs.task_waits.add_jobs.Given as goal

-- the jobs below are added
abbrev pub invariant-jobs : goal.invariant-jobs
invariant-jobs g l = l.list.items ≡ l.fn.list.items ++ each_below (λ j. watch (source.Job j) (job_waiter (value_at l.jobs.table.jobs.table j))) l.job
