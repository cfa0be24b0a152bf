use Rattle.std.proofs.Common.{◌<◌, ◌≤◌, length, rules}
use Rattle.mono_sim.proofs.WaitLemmas.{least_step, least_all}
use Rattle.mono_sim.proofs.waits.least_tick.Goals as goal

pub loop-wait-preserved : goal.loop-wait-preserved
loop-wait-preserved c =
    let less : c.loop-wait.wait-index < length c.args.waits.now = search rules in
    least_step c.args.waits.now _ _ _ _ _ less c.loop-wait.invariant c.tick_of.ensures c.earlier-least.ensures

pub returns : goal.returns
returns c =
    let past : length c.args.waits.now ≤ c.loop-wait.wait-index = search rules in
    least_all c.args.waits.now _ _ past c.loop-wait.invariant
