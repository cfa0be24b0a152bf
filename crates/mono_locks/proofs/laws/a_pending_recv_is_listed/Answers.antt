use Rattle.mono_locks.proofs.BroadcastLawLemmas.{recv_listed}
use Rattle.mono_locks.proofs.laws.a_pending_recv_is_listed.Goals as goal

pub returns : goal.returns
returns g c = recv_listed
