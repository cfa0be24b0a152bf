use Rattle.mono_locks.proofs.MutexLawLemmas.{no_mutex}
use Rattle.mono_locks.proofs.laws.no_mutex_lies_idle.Goals as goal

pub returns : goal.returns
returns g c = no_mutex
