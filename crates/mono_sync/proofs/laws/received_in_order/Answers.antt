use Rattle.mono_sync.proofs.MessageLemmas.{in_order}
use Rattle.mono_sync.proofs.laws.received_in_order.Goals as goal

pub returns : goal.returns
returns g c = in_order
