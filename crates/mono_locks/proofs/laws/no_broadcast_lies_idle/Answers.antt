use Rattle.mono_locks.proofs.BroadcastLawLemmas.{no_broadcast}
use Rattle.mono_locks.proofs.laws.no_broadcast_lies_idle.Goals as goal

pub returns : goal.returns
returns g c = no_broadcast
