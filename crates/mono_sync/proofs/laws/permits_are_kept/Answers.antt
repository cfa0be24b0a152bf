use Rattle.mono_sync.proofs.PermitLemmas.{kept}
use Rattle.mono_sync.proofs.laws.permits_are_kept.Goals as goal

pub returns : goal.returns
returns c = kept
