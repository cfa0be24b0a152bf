use Rattle.mono_locks.proofs.RwLockLawLemmas.{write_listed}
use Rattle.mono_locks.proofs.laws.a_pending_write_is_listed.Goals as goal

pub returns : goal.returns
returns g c = write_listed
