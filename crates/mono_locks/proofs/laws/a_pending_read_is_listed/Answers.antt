use Rattle.mono_locks.proofs.RwLockLawLemmas.{read_listed}
use Rattle.mono_locks.proofs.laws.a_pending_read_is_listed.Goals as goal

pub returns : goal.returns
returns g c = read_listed
