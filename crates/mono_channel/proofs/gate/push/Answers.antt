use Rattle.mono_channel.proofs.DeliveryLemmas.{sends_into, knows}
use Rattle.mono_channel.proofs.gate.push.Goals as goal

pub push_as-requires-clause-rule : goal.push_as-requires-clause-rule
push_as-requires-clause-rule g c = (sends_into _ _ _ _ _ c.requires.places c.requires.sends, knows _ _ c.requires.sends)
