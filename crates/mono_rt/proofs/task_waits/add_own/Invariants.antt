use Rattle.std.proofs.Common.{◌≡◌, ◌≤◌, ◌++◌, length, drop, map}
use Rattle.mono_rt.specs.TaskWaits.{own_rows, row_of}
use Rattle.mono_rt.proofs.task_waits.add_own.Given as goal

-- with the rows of the remaining sources all are there
abbrev pub invariant-watches : goal.invariant-watches
invariant-watches l = (map row_of l.list.items ++ own_rows (drop l.watch-index l.watches) l.task l.phase ≡ map row_of l.fn.list.items ++ own_rows l.watches l.task l.phase) × (l.watch-index ≤ length l.watches)
