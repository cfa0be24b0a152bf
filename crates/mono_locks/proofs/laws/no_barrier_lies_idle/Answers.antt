use Rattle.mono_locks.proofs.BarrierLawLemmas.{no_barrier}
use Rattle.mono_locks.proofs.laws.no_barrier_lies_idle.Goals as goal

pub returns : goal.returns
returns c = no_barrier
