use Rattle.mono_locks.proofs.RwLockLawLemmas.{in_order}
use Rattle.mono_locks.proofs.laws.readers_and_writers_in_order.Goals as goal

pub returns : goal.returns
returns g c = in_order
