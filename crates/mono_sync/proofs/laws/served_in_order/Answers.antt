use Rattle.mono_sync.proofs.ServedLemmas.{served}
use Rattle.mono_sync.proofs.laws.served_in_order.Goals as goal

pub returns : goal.returns
returns g c = served
