use Rattle.mono_locks.proofs.RwLockLawLemmas.{takes_out_its_own}
use Rattle.mono_locks.proofs.laws.a_reader_or_writer_takes_out_its_own.Goals as goal

pub returns : goal.returns
returns g c = takes_out_its_own
