use Rattle.mono_locks.proofs.BroadcastLawLemmas.{takes_out_its_own}
use Rattle.mono_locks.proofs.laws.a_recv_takes_out_its_own.Goals as goal

pub returns : goal.returns
returns g c = takes_out_its_own
