use Rattle.std.proofs.Common.{◌≡◌, None, arith, rules}
use Rattle.mono_sim.proofs.TrialLemmas.{found, passes_next, passes_each}
use Rattle.mono_sim.proofs.trials.simulate.Goals as goal

pub returns-in-Some-clause-failed : goal.returns-in-Some-clause-failed
returns-in-Some-clause-failed g c =
    found g.T.System.steps g.K.Fn c.args.check g.M.Fn c.args.make c.args.steps c.args.seeds.start c.args.seeds.end c.loop-seed.seed c.args.odds c.in-Ok.tried c.in-Some.failure c.in-Ok-reduce.least
    c.loop-seed.invariant.0 (omega (arith, c.loop-seed-test.true)) c.loop-seed.invariant.1 c.in-Ok.ensures.failed c.in-Some.is c.in-Ok-reduce.ensures

pub loop-seed-preserved : goal.loop-seed-preserved
loop-seed-preserved g c =
    let none : c.in-Ok.tried ≡ None = search rules in (
      omega (arith, c.loop-seed.invariant.0),
      passes_next g.T.System.steps g.K.Fn c.args.check g.M.Fn c.args.make c.args.steps c.args.seeds.start c.loop-seed.seed c.args.odds c.in-Ok.tried c.loop-seed.invariant.1 c.in-Ok.ensures.passed none,
    )

pub returns-clause-passed : goal.returns-clause-passed
returns-clause-passed g c =
    passes_each g.T.System.steps g.K.Fn c.args.check g.M.Fn c.args.make c.args.steps c.args.seeds.start c.loop-seed.seed c.args.seeds.end c.args.odds (omega (arith, c.loop-seed-test.false)) c.loop-seed.invariant.1
