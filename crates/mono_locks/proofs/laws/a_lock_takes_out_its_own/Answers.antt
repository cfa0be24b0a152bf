use Rattle.mono_locks.proofs.MutexLawLemmas.{takes_out_its_own}
use Rattle.mono_locks.proofs.laws.a_lock_takes_out_its_own.Goals as goal

pub returns : goal.returns
returns g c = takes_out_its_own
