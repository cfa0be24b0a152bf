use Rattle.mono_wheel.proofs.LevelBitsLemmas.{rule-near, rule-far, rule-digit}
use Rattle.mono_wheel.proofs.level.level_for.Goals as goal
use Rattle.mono_wheel.specs.Start.{top_level}

pub returns-then-differing-ge-FAR-clause-digit : goal.returns-then-differing-ge-FAR-clause-digit
returns-then-differing-ge-FAR-clause-digit c = rule-digit c.args.elapsed c.args.when top_level (rule-far c.args.elapsed c.args.when c.if-differing-ge-FAR.true)

pub overflow_sub-result : goal.overflow_sub-result
overflow_sub-result c = (rule-near c.args.elapsed c.args.when c.if-differing-ge-FAR.false).0

pub returns-clause-digit : goal.returns-clause-digit
returns-clause-digit c = rule-digit c.args.elapsed c.args.when _ (rule-near c.args.elapsed c.args.when c.if-differing-ge-FAR.false).1

pub returns-clause-rule : goal.returns-clause-rule
returns-clause-rule c = (rule-near c.args.elapsed c.args.when c.if-differing-ge-FAR.false).1
