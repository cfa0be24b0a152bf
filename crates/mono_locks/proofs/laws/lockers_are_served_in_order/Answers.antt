use Rattle.mono_locks.proofs.MutexLawLemmas.{in_order}
use Rattle.mono_locks.proofs.laws.lockers_are_served_in_order.Goals as goal

pub returns : goal.returns
returns g c = in_order
