use Rattle.mono_sim.proofs.TrialLemmas.{seed_passes, seed_fails}
use Rattle.mono_sim.proofs.trials.try_seed.Goals as goal

pub returns-in-None-clause-passed : goal.returns-in-None-clause-passed
returns-in-None-clause-passed g c =
    seed_passes g.T.System.steps g.K.Fn c.args.check.now g.M.Fn c.args.make.now c.args.steps c.args.seed _ c.with-odds.result c.in-Some.trial c.run.new.self _ _ c.make.ensures c.in-Some.is c.with-odds.ensures
    c.in_ok-ran.ensures.passed c.in-None.is

pub returns-in-Some-ran-clause-failed : goal.returns-in-Some-ran-clause-failed
returns-in-Some-ran-clause-failed g c =
    seed_fails g.T.System.steps g.K.Fn c.args.check.now g.M.Fn c.args.make.now c.args.steps c.args.seed c.in-Some-ran.steps c.args.odds c.with-odds.result c.args.faults c.in-Some.trial c.run.new.self _ _ c.make.ensures
    c.in-Some.is c.with-odds.ensures c.in_ok-ran.ensures.failed c.in-Some-ran.is
