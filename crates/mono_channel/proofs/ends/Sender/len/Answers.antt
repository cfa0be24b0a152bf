use Rattle.mono_channel.proofs.DeliveryLemmas.{knows}
use Rattle.mono_channel.proofs.ends.Sender.len.Goals as goal

pub len_as-requires-clause-rule : goal.len_as-requires-clause-rule
len_as-requires-clause-rule g c = knows _ _ c.self.invariant.1
