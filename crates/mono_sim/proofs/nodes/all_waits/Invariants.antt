use Rattle.std.proofs.Common.{take}
use Rattle.mono_sim.specs.Waits.{ListsAll}
use Rattle.mono_sim.proofs.nodes.all_waits.Given as goal

-- the rows of the runtimes so far
abbrev pub invariant-loop-node : goal.invariant-loop-node
invariant-loop-node g l = ListsAll g.O.Outcome.output_number (take l.node-index l.nodes) l.waits.items
