use Rattle.std.proofs.Common.{◌≡◌, drop}
use Rattle.mono_model.specs.Tasks.{all_woken}
use Rattle.mono_task.proofs.wakers.wake_all.Given as goal

-- once those that are left are woken, all are
abbrev pub invariant-loop-t : goal.invariant-loop-t
invariant-loop-t g l = (l.tasks.turns ≡ l.fn.tasks.turns) × (l.tasks.turn ≡ l.fn.tasks.turn) × (all_woken l.tasks.tasks (drop l.t-index l.woken) ≡ all_woken l.fn.tasks.tasks l.woken)
