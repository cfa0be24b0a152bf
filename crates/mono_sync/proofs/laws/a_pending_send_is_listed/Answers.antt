use Rattle.mono_sync.proofs.ListedLemmas.{sender_listed}
use Rattle.mono_sync.proofs.laws.a_pending_send_is_listed.Goals as goal

pub returns : goal.returns
returns g c = sender_listed g.row.T.Denot
