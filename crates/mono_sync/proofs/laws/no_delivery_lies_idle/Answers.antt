use Rattle.mono_sync.proofs.IdleLemmas.{no_delivery}
use Rattle.mono_sync.proofs.laws.no_delivery_lies_idle.Goals as goal

pub returns : goal.returns
returns g c = no_delivery g.row.T.Denot
