use Rattle.mono_locks.proofs.BarrierLawLemmas.{never_too_early}
use Rattle.mono_locks.proofs.laws.a_barrier_never_opens_too_early.Goals as goal

pub returns : goal.returns
returns c = never_too_early
