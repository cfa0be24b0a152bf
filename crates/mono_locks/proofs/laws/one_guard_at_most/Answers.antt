use Rattle.mono_locks.proofs.MutexLawLemmas.{one_guard}
use Rattle.mono_locks.proofs.laws.one_guard_at_most.Goals as goal

pub returns : goal.returns
returns g c = one_guard
