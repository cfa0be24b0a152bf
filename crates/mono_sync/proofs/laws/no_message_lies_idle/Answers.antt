use Rattle.mono_sync.proofs.IdleLemmas.{no_message}
use Rattle.mono_sync.proofs.laws.no_message_lies_idle.Goals as goal

pub returns : goal.returns
returns g c = no_message g.row.T.Denot
