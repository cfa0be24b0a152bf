use Rattle.mono_sync.proofs.ListedLemmas.{receiver_listed}
use Rattle.mono_sync.proofs.laws.a_pending_receive_is_listed.Goals as goal

pub returns : goal.returns
returns g c = receiver_listed g.row.T.Denot
