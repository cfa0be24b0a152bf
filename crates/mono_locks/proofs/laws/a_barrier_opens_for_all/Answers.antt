use Rattle.mono_locks.proofs.BarrierLawLemmas.{opens_for_all}
use Rattle.mono_locks.proofs.laws.a_barrier_opens_for_all.Goals as goal

pub returns : goal.returns
returns c = opens_for_all
