use Rattle.mono_locks.proofs.OnceCellLawLemmas.{takes_out_its_own}
use Rattle.mono_locks.proofs.laws.an_init_takes_out_its_own.Goals as goal

pub returns : goal.returns
returns g c = takes_out_its_own
