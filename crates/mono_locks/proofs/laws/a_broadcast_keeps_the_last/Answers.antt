use Rattle.mono_locks.proofs.BroadcastLawLemmas.{keeps_the_last}
use Rattle.mono_locks.proofs.laws.a_broadcast_keeps_the_last.Goals as goal

pub returns : goal.returns
returns g c = keeps_the_last
