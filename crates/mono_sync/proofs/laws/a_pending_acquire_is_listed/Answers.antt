use Rattle.mono_sync.proofs.ListedLemmas.{permit_listed}
use Rattle.mono_sync.proofs.laws.a_pending_acquire_is_listed.Goals as goal

pub returns : goal.returns
returns c = permit_listed
