use Rattle.std.proofs.Common.{rules}
use Rattle.mono_rt.proofs.PollableLemmas.{every_spawned}
use Rattle.example_tasks.proofs.retry.retry.Goals as goal

-- each future of this type can be polled
pub start-requires-clause-others : goal.start-requires-clause-others
start-requires-clause-others g c = every_spawned _ _ (search rules)
