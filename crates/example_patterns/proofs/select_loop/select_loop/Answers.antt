use Rattle.std.proofs.Common.{rules}
use Rattle.mono_rt.proofs.PollableLemmas.{every_turn}
use Rattle.example_patterns.proofs.select_loop.select_loop.Goals as goal

-- each future of this type can be polled
pub block_on-requires-clause-others : goal.block_on-requires-clause-others
block_on-requires-clause-others g c = every_turn _ _ (search rules)
