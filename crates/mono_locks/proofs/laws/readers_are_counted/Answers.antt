use Rattle.mono_locks.proofs.RwLockLawLemmas.{readers_counted}
use Rattle.mono_locks.proofs.laws.readers_are_counted.Goals as goal

pub returns : goal.returns
returns g c = readers_counted
