use Rattle.mono_channel.proofs.DeliveryLemmas.{begins}
use Rattle.mono_channel.proofs.rule.queue_of.Goals as goal

pub ruled-requires-clause-rule : goal.ruled-requires-clause-rule
ruled-requires-clause-rule g c = begins
