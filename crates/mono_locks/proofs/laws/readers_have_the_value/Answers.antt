use Rattle.mono_locks.proofs.RwLockLawLemmas.{no_reader}
use Rattle.mono_locks.proofs.laws.readers_have_the_value.Goals as goal

pub returns : goal.returns
returns g c = no_reader
