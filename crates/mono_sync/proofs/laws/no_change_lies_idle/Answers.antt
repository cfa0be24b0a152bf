use Rattle.mono_sync.proofs.RisingLemmas.{no_change}
use Rattle.mono_sync.proofs.laws.no_change_lies_idle.Goals as goal

pub returns : goal.returns
returns g c = no_change g.row.T.Denot
