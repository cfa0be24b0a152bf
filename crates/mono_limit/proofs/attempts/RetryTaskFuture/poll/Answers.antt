use Rattle.std.proofs.Common.{refl, suc, Some, None, arith}
use Rattle.mono_limit.specs.RetryGives.{RetryGives}
use Rattle.mono_limit.proofs.RetryGivesLemmas.{given_by, same_by}
use Rattle.mono_limit.proofs.attempts.RetryTaskFuture.poll.Goals as goal

pub returns-in-Some-clause-polled : goal.returns-in-Some-clause-polled
returns-in-Some-clause-polled g c =
    c.loop-answer.invariant.onward c.in-Some.answer c.step.new.self c.step.new.cx (1, omega arith, (Some c.in-Some.answer, c.step.new.self, c.step.new.cx, c.in-Some.ensures.step, (refl, refl, refl)))

pub loop-answer-preserved : goal.loop-answer-preserved
loop-answer-preserved g c = record {
  may = c.in_default.ensures.may;
  unspent = c.in_default.ensures.leaves.0;
  reached = g.met.C.Context.reaches_on c.args.cx.now c.loop-answer.cx c.step.new.cx c.loop-answer.invariant.reached c.in_default.ensures.reached;
  narrows = λ y h. c.loop-answer.invariant.narrows y (c.in_default.ensures.gives y h);
  onward = λ p s d goes. c.loop-answer.invariant.onward p s d (suc goes.0, omega (arith, goes.1, c.in_default.ensures.leaves.1), (None, c.step.new.self, c.step.new.cx, c.in_default.ensures.step, goes.2));
}

pub returns-in-Some-clause-given : goal.returns-in-Some-clause-given
returns-in-Some-clause-given g c =
    let first = c.args.self.now in
    given_by (RetryGives g.F.TaskFuture.gives g.G.FnMut first) (RetryGives g.F.TaskFuture.gives g.G.FnMut c.loop-answer.self) (RetryGives g.F.TaskFuture.gives g.G.FnMut c.step.new.self) c.loop-answer.invariant.narrows c.in-Some.answer c.in-Some.ensures.gives

pub returns-in-Some-clause-same : goal.returns-in-Some-clause-same
returns-in-Some-clause-same g c =
    let first = c.args.self.now in
    same_by (RetryGives g.F.TaskFuture.gives g.G.FnMut first) (RetryGives g.F.TaskFuture.gives g.G.FnMut c.loop-answer.self) (RetryGives g.F.TaskFuture.gives g.G.FnMut c.step.new.self) c.loop-answer.invariant.narrows c.in-Some.answer c.in-Some.ensures.gives
