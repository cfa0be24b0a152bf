use Rattle.std.proofs.Common.{◌≡◌, map, take}
use Rattle.lease_server.specs.Dispatch.{HaveSameWays}
use Rattle.lease_server.specs.Lanes.{given, sent_over}
use Rattle.lease_server.proofs.dispatchers.flush_all.Given as goal

abbrev pub invariant-loop-lane : goal.invariant-loop-lane
invariant-loop-lane g l = record {
  ways : HaveSameWays l.fn.lanes l.lanes;
  same : map given l.lanes ≡ map given l.fn.lanes;
  all : map sent_over (take l.lane-index l.lanes) ≡ map given (take l.lane-index l.lanes);
}
