use Rattle.mono_locks.proofs.MutexLawLemmas.{lock_listed}
use Rattle.mono_locks.proofs.laws.a_pending_lock_is_listed.Goals as goal

pub returns : goal.returns
returns g c = lock_listed
