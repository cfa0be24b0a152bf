use Rattle.mono_locks.proofs.OnceCellLawLemmas.{no_cell}
use Rattle.mono_locks.proofs.laws.no_cell_lies_idle.Goals as goal

pub returns : goal.returns
returns g c = no_cell
