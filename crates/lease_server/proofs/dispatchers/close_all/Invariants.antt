use Rattle.std.specs.Prelude.{◌≡◌}
use Rattle.lease_server.proofs.dispatchers.close_all.Given as goal

abbrev pub invariant-loop-lane : goal.invariant-loop-lane
invariant-loop-lane g l = l.lanes ≡ l.fn.lanes
