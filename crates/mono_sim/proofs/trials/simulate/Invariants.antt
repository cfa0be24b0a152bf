use Rattle.std.proofs.Common.{◌≤◌, ◌-◌}
use Rattle.mono_sim.specs.Trials.{EachPasses}
use Rattle.mono_sim.proofs.trials.simulate.Given as goal

-- each seed so far passed
abbrev pub invariant-loop-seed : goal.invariant-loop-seed
invariant-loop-seed g l =
    (l.seeds.start ≤ l.seed)
    × EachPasses g.T.System.steps g.M.Fn l.make g.K.Fn l.check l.steps l.seeds.start l.seed l.odds

abbrev pub decreases-loop-seed : goal.decreases-loop-seed
decreases-loop-seed g l = l.seeds.end - l.seed
