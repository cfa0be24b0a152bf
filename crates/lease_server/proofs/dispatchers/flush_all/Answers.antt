use Rattle.std.proofs.Common.{◌<◌, ◌∙◌, length, refl, arith}
use Rattle.lease_server.proofs.DispatchLemmas.{same_given, sent_more}
use Rattle.lease_server.proofs.WayLemmas.{same_ways, way_at}
use Rattle.lease_server.proofs.dispatchers.flush_all.Goals as goal

pub returns-in_err-flush-clause-given : goal.returns-in_err-flush-clause-given
returns-in_err-flush-clause-given g c =
    let lt : c.loop-lane.lane-index < length c.loop-lane.lanes = omega arith in
    same_given c.loop-lane.lanes c.loop-lane.lane-index c.lane-item.result c.flush.new.self lt c.flush.ensures.given ∙ c.loop-lane.invariant.same

pub returns-then-not-branch-clause-given : goal.returns-then-not-branch-clause-given
returns-then-not-branch-clause-given g c =
    let lt : c.loop-lane.lane-index < length c.loop-lane.lanes = omega arith in
    same_given c.loop-lane.lanes c.loop-lane.lane-index c.lane-item.result c.flush.new.self lt c.flush.ensures.given ∙ c.loop-lane.invariant.same

pub loop-lane-preserved : goal.loop-lane-preserved
loop-lane-preserved g c =
    let lt : c.loop-lane.lane-index < length c.loop-lane.lanes = omega arith in
    record {
      ways = way_at c.args.lanes.now c.loop-lane.lanes c.loop-lane.lane-index c.lane-item.result c.flush.new.self c.loop-lane.invariant.ways lt c.flush.ensures.same;
      same = same_given c.loop-lane.lanes c.loop-lane.lane-index c.lane-item.result c.flush.new.self lt c.flush.ensures.given ∙ c.loop-lane.invariant.same;
      all = sent_more c.loop-lane.lanes c.loop-lane.lane-index c.flush.new.self lt (c.in_ok-flush.ensures.sent c.if-not-branch.false) c.loop-lane.invariant.all;
    }

pub returns-in_err-flush-clause-ways : goal.returns-in_err-flush-clause-ways
returns-in_err-flush-clause-ways g c =
    let lt : c.loop-lane.lane-index < length c.loop-lane.lanes = omega arith in
    way_at c.args.lanes.now c.loop-lane.lanes c.loop-lane.lane-index c.lane-item.result c.flush.new.self c.loop-lane.invariant.ways lt c.flush.ensures.same

pub returns-then-not-branch-clause-ways : goal.returns-then-not-branch-clause-ways
returns-then-not-branch-clause-ways g c =
    let lt : c.loop-lane.lane-index < length c.loop-lane.lanes = omega arith in
    way_at c.args.lanes.now c.loop-lane.lanes c.loop-lane.lane-index c.lane-item.result c.flush.new.self c.loop-lane.invariant.ways lt c.flush.ensures.same

pub loop-lane-init : goal.loop-lane-init
loop-lane-init g c = record { ways = same_ways c.args.lanes.now; same = refl; all = refl }
