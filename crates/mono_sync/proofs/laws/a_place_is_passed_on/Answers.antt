use Rattle.mono_sync.proofs.PassLemmas.{place_passes}
use Rattle.mono_sync.proofs.laws.a_place_is_passed_on.Goals as goal

pub returns : goal.returns
returns g c = place_passes g.row.T.Denot
