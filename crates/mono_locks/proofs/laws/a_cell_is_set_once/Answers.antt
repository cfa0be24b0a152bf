use Rattle.mono_locks.proofs.OnceCellLawLemmas.{set_once}
use Rattle.mono_locks.proofs.laws.a_cell_is_set_once.Goals as goal

pub returns : goal.returns
returns g c = set_once
