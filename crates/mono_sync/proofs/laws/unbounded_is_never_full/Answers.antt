use Rattle.mono_sync.proofs.UnboundedLemmas.{never_full}
use Rattle.mono_sync.proofs.laws.unbounded_is_never_full.Goals as goal

pub returns : goal.returns
returns g c = never_full g.row.T.Denot
