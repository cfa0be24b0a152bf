use Rattle.mono_locks.proofs.MutexLawLemmas.{handed_on}
use Rattle.mono_locks.proofs.laws.values_are_handed_on.Goals as goal

pub returns : goal.returns
returns g c = handed_on
