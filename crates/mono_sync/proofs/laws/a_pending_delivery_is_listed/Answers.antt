use Rattle.mono_sync.proofs.ListedLemmas.{delivery_listed}
use Rattle.mono_sync.proofs.laws.a_pending_delivery_is_listed.Goals as goal

pub returns : goal.returns
returns g c = delivery_listed g.row.T.Denot
