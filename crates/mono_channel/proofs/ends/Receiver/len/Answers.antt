use Rattle.mono_channel.proofs.DeliveryLemmas.{learns}
use Rattle.mono_channel.proofs.ends.Receiver.len.Goals as goal

pub len_as-requires-clause-rule : goal.len_as-requires-clause-rule
len_as-requires-clause-rule g c = learns _ _ c.self.invariant.1
