use Rattle.mono_locks.proofs.MutexLawLemmas.{passed_on}
use Rattle.mono_locks.proofs.laws.a_lock_is_passed_on.Goals as goal

pub returns : goal.returns
returns g c = passed_on
