use Rattle.mono_channel.proofs.DeliveryLemmas.{learns}
use Rattle.mono_channel.proofs.ends.Receiver.learn.Goals as goal

pub learn_as-requires-clause-rule : goal.learn_as-requires-clause-rule
learn_as-requires-clause-rule g c = learns _ _ c.self.invariant.1
