use Rattle.mono_locks.proofs.OnceCellLawLemmas.{init_listed}
use Rattle.mono_locks.proofs.laws.a_pending_init_is_listed.Goals as goal

pub returns : goal.returns
returns g c = init_listed
