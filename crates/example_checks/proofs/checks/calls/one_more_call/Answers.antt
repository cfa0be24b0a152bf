use Rattle.example_checks.specs.LeftCalls.{called}
use Rattle.std.proofs.Common.{[], ◌∷◌, ◌++◌}
use Rattle.example_checks.proofs.LeftCallLemmas.{leaves_more, leaves_whole}
use Rattle.example_checks.proofs.checks.calls.one_more_call.Goals as goal

pub returns-clause-left : goal.returns-clause-left
returns-clause-left g c = λ limits strategy calls left.
    leaves_more g.O.Outcome.output_number c.args.turns c.block_on.result c.args.runtime.now c.block_on.new.self limits strategy calls c.block_on.ensures.blocked c.block_on.ensures.timers left

pub returns-clause-whole : goal.returns-clause-whole
returns-clause-whole g c = λ limits strategy calls left.
    leaves_whole g.O.Outcome.output_number limits strategy (calls ++ called g.O.Outcome.output_number c.args.turns c.block_on.result ∷ []) c.block_on.new.self
    (leaves_more g.O.Outcome.output_number c.args.turns c.block_on.result c.args.runtime.now c.block_on.new.self limits strategy calls c.block_on.ensures.blocked c.block_on.ensures.timers left)
