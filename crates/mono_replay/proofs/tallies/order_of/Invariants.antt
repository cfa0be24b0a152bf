use Rattle.std.proofs.Common.{◌≡◌, ◌-◌, drop, length}
use Rattle.mono_replay.specs.Load.{order_from}
use Rattle.mono_replay.proofs.tallies.order_of.Given as goal

abbrev pub invariant-sleeps : goal.invariant-sleeps
invariant-sleeps l = order_from l.x (drop l.i l.fired) ≡ order_from l.fn.order l.fired

abbrev pub decreases-sleeps : goal.decreases-sleeps
decreases-sleeps l = length l.fired - l.i
