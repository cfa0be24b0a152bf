use Rattle.std.proofs.Common.{◌≡◌, arith, rules}
use Rattle.std.specs.Prelude.{Some}
use Rattle.mono_sim.specs.Endings.{end_of}
use Rattle.mono_sim.proofs.WorldLemmas.{each_on, ran_none, ran_more, ran_all, ended}
use Rattle.mono_sim.proofs.worlds.World.run.Goals as goal

pub loop-made-init : goal.loop-made-init
loop-made-init g c = ran_none g.O.Outcome.output_number g.W.SharedState g.D.Clock g.F.TaskFuture c.args.steps c.args.self.now c.requires.sound

pub loop-made-preserved : goal.loop-made-preserved
loop-made-preserved g c =
    ran_more g.O.Outcome.output_number g.W.SharedState g.D.Clock g.F.TaskFuture c.loop-made.made c.args.steps c.args.self.now c.loop-made.self c.step.new.self c.in_ok-did.did
    (omega (arith, c.loop-made-test.true)) c.loop-made.invariant c.step.ensures.sound c.in_ok-did.ensures.steps c.step.ensures.time c.step.ensures.runs

pub returns-in_err-did-clause-runs : goal.returns-in_err-did-clause-runs
returns-in_err-did-clause-runs g c =
    each_on g.O.Outcome.output_number g.W.SharedState g.D.Clock g.F.TaskFuture c.args.self.now c.loop-made.self c.step.new.self c.loop-made.invariant.runs c.step.ensures.runs

pub returns-in-Some-clause-runs : goal.returns-in-Some-clause-runs
returns-in-Some-clause-runs g c =
    each_on g.O.Outcome.output_number g.W.SharedState g.D.Clock g.F.TaskFuture c.args.self.now c.loop-made.self c.step.new.self c.loop-made.invariant.runs c.step.ensures.runs

pub returns-in-Some-clause-ends : goal.returns-in-Some-clause-ends
returns-in-Some-clause-ends g c =
    let is : end_of c.in_ok-did.did ≡ Some c.in-Some.how = search rules in
    (ended g.O.Outcome.output_number g.W.SharedState g.D.Clock g.F.TaskFuture c.loop-made.made c.args.steps c.args.self.now c.loop-made.self c.step.new.self c.in_ok-did.did c.in-Some.how
    (omega (arith, c.loop-made-test.true)) c.loop-made.invariant c.in_ok-did.ensures.steps is).1

pub returns-in-Some-clause-chain : goal.returns-in-Some-clause-chain
returns-in-Some-clause-chain g c =
    let is : end_of c.in_ok-did.did ≡ Some c.in-Some.how = search rules in
    (ended g.O.Outcome.output_number g.W.SharedState g.D.Clock g.F.TaskFuture c.loop-made.made c.args.steps c.args.self.now c.loop-made.self c.step.new.self c.in_ok-did.did c.in-Some.how
    (omega (arith, c.loop-made-test.true)) c.loop-made.invariant c.in_ok-did.ensures.steps is).0

pub returns-clause-chain : goal.returns-clause-chain
returns-clause-chain g c =
    ran_all g.O.Outcome.output_number g.W.SharedState g.D.Clock g.F.TaskFuture c.loop-made.made c.args.steps c.args.self.now c.loop-made.self (omega (arith, c.loop-made-test.false)) c.loop-made.invariant
