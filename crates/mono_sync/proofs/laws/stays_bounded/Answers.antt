use Rattle.mono_sync.proofs.RoomLemmas.{bounded}
use Rattle.mono_sync.proofs.laws.stays_bounded.Goals as goal

pub returns : goal.returns
returns g c = bounded
