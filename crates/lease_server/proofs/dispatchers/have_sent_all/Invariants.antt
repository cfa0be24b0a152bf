use Rattle.std.specs.Prelude.{◌≡◌, map, take}
use Rattle.lease_server.specs.Lanes.{given, sent_over}
use Rattle.lease_server.proofs.dispatchers.have_sent_all.Given as goal

abbrev pub invariant-loop-lane : goal.invariant-loop-lane
invariant-loop-lane l = map sent_over (take l.lane-index l.lanes) ≡ map given (take l.lane-index l.lanes)
