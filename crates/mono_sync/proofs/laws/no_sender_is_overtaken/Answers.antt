use Rattle.mono_sync.proofs.OvertakeLemmas.{no_sender}
use Rattle.mono_sync.proofs.laws.no_sender_is_overtaken.Goals as goal

pub returns : goal.returns
returns g c = no_sender g.row.T.Denot
