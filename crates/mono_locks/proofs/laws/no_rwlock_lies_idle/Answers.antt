use Rattle.mono_locks.proofs.RwLockLawLemmas.{no_rwlock}
use Rattle.mono_locks.proofs.laws.no_rwlock_lies_idle.Goals as goal

pub returns : goal.returns
returns g c = no_rwlock
