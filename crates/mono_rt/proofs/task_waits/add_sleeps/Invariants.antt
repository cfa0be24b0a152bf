use Rattle.std.proofs.Common.{◌≡◌, ◌++◌}
use Rattle.mono_model.specs.Table.{value_at}
use Rattle.mono_time.specs.Timers.{sleeps_of, wait_of}
use Rattle.mono_rt.specs.TaskWaits.{each_below, tick_watch}
use Rattle.mono_rt.proofs.task_waits.add_sleeps.Given as goal

-- the sleeps below are added
abbrev pub invariant-sleeps : goal.invariant-sleeps
invariant-sleeps l = l.list.items ≡ l.fn.list.items ++ each_below (λ s. tick_watch s (wait_of (value_at (sleeps_of l.timers).table s))) l.sleep
