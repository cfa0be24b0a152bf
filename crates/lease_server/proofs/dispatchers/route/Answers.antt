use Rattle.lease_server.proofs.DispatchLemmas.{same_given, gave}
use Rattle.lease_server.proofs.WayLemmas.{same_ways, way_at}
use Rattle.std.proofs.Common.{◌<◌, length, arith}
use Rattle.std.proofs.lemmas.Result.{on_ok_weaker, on_err_weaker}
use Rattle.lease_server.proofs.dispatchers.route.Goals as goal

pub returns-then-lanes-eq0-clause-ways : goal.returns-then-lanes-eq0-clause-ways
returns-then-lanes-eq0-clause-ways c = same_ways c.args.lanes.now

pub returns-clause-ways : goal.returns-clause-ways
returns-clause-ways c =
    let lt : c.core_of-core.result < length c.args.lanes.now = c.core_of-core.ensures.below in
    way_at c.args.lanes.now c.args.lanes.now c.core_of-core.result c.index-lanes-core.result c.take.new.self (same_ways c.args.lanes.now) lt c.take.ensures.same

pub returns-clause-ok : goal.returns-clause-ok
returns-clause-ok c =
    let lt : c.core_of-core.result < length c.args.lanes.now = c.core_of-core.ensures.below in
    on_ok_weaker _ (λ more. gave c.args.lanes.now c.core_of-core.result c.index-lanes-core.result c.take.new.self c.args.request lt c.core_of-core.ensures.route more) c.take.ensures.ok

pub returns-clause-err : goal.returns-clause-err
returns-clause-err c =
    let lt : c.core_of-core.result < length c.args.lanes.now = c.core_of-core.ensures.below in
    on_err_weaker _ (λ same. same_given c.args.lanes.now c.core_of-core.result c.index-lanes-core.result c.take.new.self lt same) c.take.ensures.err
