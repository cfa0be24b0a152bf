use Rattle.mono_channel.proofs.DeliveryLemmas.{forks}
use Rattle.mono_channel.proofs.ends.Sender.try_clone.Goals as goal

pub another-end-requires-clause-rule : goal.another-end-requires-clause-rule
another-end-requires-clause-rule g c = forks _ _ c.self.invariant.1
