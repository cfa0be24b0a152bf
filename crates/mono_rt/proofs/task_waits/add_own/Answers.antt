use Rattle.std.proofs.Common.{◌+◌, ◌==◌, ◌++◌, arith, map, ap, ◌∙◌}
use Rattle.mono_rt.specs.TaskWaits.{row_by, row_of}
use Rattle.mono_rt.proofs.TaskWaitLemmas.{own-more}
use Rattle.mono_rt.proofs.task_waits.add_own.Goals as goal

pub watches-preserved : goal.watches-preserved
watches-preserved c = (
  own-more c.args.watches.now c.watches.watch-index _ c.args.task c.args.phase (map row_of c.watches.list.items) _ _ c.watches-test.true c.in_ok-add_if_own.ensures c.watches.invariant.0,
  omega (arith, c.watches-test.true),
)
