use Rattle.mono_sim.proofs.TrialLemmas.{least_ok}
use Rattle.mono_sim.proofs.trials.reduce.Goals as goal

pub returns : goal.returns
returns g c =
    least_ok g.T.System.steps g.K.Fn c.args.check.now g.M.Fn c.args.make.now c.args.steps c.args.odds c.args.failure _ c.requires.fails c.fewer_sets-sets.ensures c.first_of.result c.first_of.ensures
