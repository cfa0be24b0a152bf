use Rattle.std.proofs.Common.{◌≡◌, drop}
use Rattle.mono_model.specs.Tasks.{all_woken}
use Rattle.mono_trace.proofs.remote.wake_all.Given as goal

abbrev pub invariant-loop-t : goal.invariant-loop-t
invariant-loop-t l = (l.tasks.before ≡ l.fn.tasks.before) × (all_woken l.tasks.now (drop l.t-index l.woken) ≡ all_woken l.fn.tasks.now l.woken)
