use Rattle.lease_core.proofs.EndLemmas.{none_replied, none_left}
use Rattle.lease_core.proofs.clock_steps.end_each_left.Goals as goal

pub returns-then-len-eq0-clause-items : goal.returns-then-len-eq0-clause-items
returns-then-len-eq0-clause-items c = λ k stands. none_replied k c.args.tick _ c.args.left.now _ _ c.len.ensures.len c.if-len-eq0.true

pub returns-then-len-eq0-clause-kept : goal.returns-then-len-eq0-clause-kept
returns-then-len-eq0-clause-kept c = λ k stands. none_left k _ c.args.left.now _ c.len.ensures.len c.if-len-eq0.true
