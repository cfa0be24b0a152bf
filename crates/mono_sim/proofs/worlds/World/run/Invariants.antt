use Rattle.std.proofs.Common.{◌-◌}
use Rattle.mono_sim.specs.Worlds.{HasRun}
use Rattle.mono_sim.proofs.worlds.World.run.Given as goal

-- the steps so far
abbrev pub invariant-loop-made : goal.invariant-loop-made
invariant-loop-made g l = HasRun g.O.Outcome.output_number g.W.SharedState g.D.Clock g.F.TaskFuture l.made l.steps l.fn.self l.self

abbrev pub decreases-loop-made : goal.decreases-loop-made
decreases-loop-made g l = l.steps - l.made
