use Rattle.std.proofs.Common.{◌≤◌, ◌-◌}
use Rattle.mono_sim.specs.Trials.{Holds}
use Rattle.mono_sim.proofs.trials.Trial.run.Given as goal

-- the check said yes after each step so far
abbrev pub invariant-loop-made : goal.invariant-loop-made
invariant-loop-made g l = g.T.System.can_step l.self.world × ((l.made ≤ l.steps) × Holds g.T.System.steps g.K.Fn l.check l.made l.fn.self l.self)

abbrev pub decreases-loop-made : goal.decreases-loop-made
decreases-loop-made g l = l.steps - l.made
