use Rattle.std.proofs.Common.{◌<◌, ◌≤◌, length, rules}
use Rattle.mono_sim.proofs.WaitLemmas.{lists_step, lists_all}
use Rattle.mono_sim.proofs.nodes.all_waits.Goals as goal

pub loop-node-preserved : goal.loop-node-preserved
loop-node-preserved g c =
    let less : c.loop-node.node-index < length c.args.nodes.now = search rules in
    lists_step g.O.Outcome.output_number c.args.nodes.now _ _ _ _ less c.node-item.is c.loop-node.invariant (search rules)

pub returns : goal.returns
returns g c =
    let past : length c.args.nodes.now ≤ c.loop-node.node-index = search rules in
    lists_all g.O.Outcome.output_number c.args.nodes.now _ _ past c.loop-node.invariant
