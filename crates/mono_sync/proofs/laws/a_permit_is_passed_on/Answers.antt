use Rattle.mono_sync.proofs.PassLemmas.{permit_passes}
use Rattle.mono_sync.proofs.laws.a_permit_is_passed_on.Goals as goal

pub returns : goal.returns
returns c = permit_passes
