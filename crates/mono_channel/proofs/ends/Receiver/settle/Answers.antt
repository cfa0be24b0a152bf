use Rattle.mono_channel.proofs.DeliveryLemmas.{merges}
use Rattle.mono_channel.proofs.ends.Receiver.settle.Goals as goal

pub absorb-requires-clause-rule : goal.absorb-requires-clause-rule
absorb-requires-clause-rule g c = merges _ _ _ _ c.self.invariant.1 c.sender.invariant.1
