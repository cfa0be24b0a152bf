use Rattle.mono_locks.proofs.BarrierLawLemmas.{shut}
use Rattle.mono_locks.proofs.laws.a_barrier_is_shut_until_it_opens.Goals as goal

pub returns : goal.returns
returns c = shut
