use Rattle.std.proofs.Common.{drop}
use Rattle.lease_server.specs.Texts.{said_by}
use Rattle.lease_server.proofs.ServedLemmas.{Part}
use Rattle.lease_server.proofs.batches.perform.Given as goal

abbrev pub invariant-loop-request : goal.invariant-loop-request
invariant-loop-request l = Part l.fn.desk l.stamp.core l.requests (drop l.request-index l.requests) (said_by l.fn.out) l.desk (said_by l.out)
