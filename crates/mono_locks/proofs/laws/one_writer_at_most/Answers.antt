use Rattle.mono_locks.proofs.RwLockLawLemmas.{written_on}
use Rattle.mono_locks.proofs.laws.one_writer_at_most.Goals as goal

pub returns : goal.returns
returns g c = written_on
