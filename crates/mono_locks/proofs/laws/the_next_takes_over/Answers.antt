use Rattle.mono_locks.proofs.OnceCellLawLemmas.{next_takes_over}
use Rattle.mono_locks.proofs.laws.the_next_takes_over.Goals as goal

pub returns : goal.returns
returns g c = next_takes_over
