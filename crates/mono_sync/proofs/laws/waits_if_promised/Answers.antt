use Rattle.mono_sync.proofs.PassLemmas.{if_promised}
use Rattle.mono_sync.proofs.laws.waits_if_promised.Goals as goal

pub returns : goal.returns
returns g c = if_promised g.row.T.Denot
