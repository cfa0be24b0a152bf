use Rattle.std.proofs.Common.{drop}
use Rattle.mono_sim.specs.Trials.{IsFirstOf}
use Rattle.mono_sim.proofs.trials.first_of.Given as goal

-- the first failure of those that are left is the first of all
abbrev pub invariant-loop-faults : goal.invariant-loop-faults
invariant-loop-faults g l =
    (new : _) → IsFirstOf g.T.System.steps g.M.Fn l.make g.K.Fn l.check l.steps l.odds l.failure (drop l.faults-index l.sets) new
    → IsFirstOf g.T.System.steps g.M.Fn l.make g.K.Fn l.check l.steps l.odds l.failure l.sets new
