use Rattle.mono_sync.proofs.ListedLemmas.{change_listed}
use Rattle.mono_sync.proofs.laws.a_pending_change_is_listed.Goals as goal

pub returns : goal.returns
returns g c = change_listed g.row.T.Denot
