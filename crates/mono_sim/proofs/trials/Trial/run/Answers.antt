use Rattle.std.proofs.Common.{◌≡◌, true, false, Some, refl, arith, rules}
use Rattle.mono_sim.specs.Endings.{end_of}
use Rattle.mono_sim.proofs.TrialLemmas.{checked, fails_now, holds_more, passes_ended, passes_all}
use Rattle.mono_sim.proofs.trials.Trial.run.Goals as goal

pub returns-then-not-check-clause-failed : goal.returns-then-not-check-clause-failed
returns-then-not-check-clause-failed g c =
    let no : c.check.result ≡ false = search rules in
    fails_now g.T.System.steps g.K.Fn c.args.check.now c.loop-made.made c.args.steps c.args.self.now c.loop-made.self _ c.in_ok-did.did (omega (arith, c.loop-made-test.true)) c.loop-made.invariant.1.1
    (checked g.T.System.steps g.K.Fn c.args.check.now c.in_ok-did.did c.loop-made.self _ _ _ _ false c.check.ensures no c.in_ok-did.ensures.steps refl)

pub returns-in-Some-clause-passed : goal.returns-in-Some-clause-passed
returns-in-Some-clause-passed g c =
    let yes : c.check.result ≡ true = search rules in
    let is : end_of c.in_ok-did.did ≡ Some c.in-Some._how = search rules in
    passes_ended g.T.System.steps g.K.Fn c.args.check.now c.loop-made.made c.args.steps c.args.self.now c.loop-made.self _ c.in_ok-did.did c.in-Some._how (omega (arith, c.loop-made-test.true)) c.loop-made.invariant.1.1
    (checked g.T.System.steps g.K.Fn c.args.check.now c.in_ok-did.did c.loop-made.self _ _ _ _ true c.check.ensures yes c.in_ok-did.ensures.steps refl) is

pub loop-made-preserved : goal.loop-made-preserved
loop-made-preserved g c =
    let yes : c.check.result ≡ true = search rules in (
      c.make_step.ensures.can,
      (
        omega (arith, c.loop-made-test.true),
        holds_more g.T.System.steps g.K.Fn c.args.check.now c.loop-made.made c.args.self.now c.loop-made.self _ c.in_ok-did.did c.loop-made.invariant.1.1
            (checked g.T.System.steps g.K.Fn c.args.check.now c.in_ok-did.did c.loop-made.self _ _ _ _ true c.check.ensures yes c.in_ok-did.ensures.steps refl),
      ),
    )

pub returns-clause-passed : goal.returns-clause-passed
returns-clause-passed g c =
    passes_all g.T.System.steps g.K.Fn c.args.check.now c.loop-made.made c.args.steps c.args.self.now c.loop-made.self c.loop-made.invariant.1.0 (omega (arith, c.loop-made-test.false)) c.loop-made.invariant.1.1
