use Rattle.mono_locks.proofs.OnceCellLawLemmas.{one_turn}
use Rattle.mono_locks.proofs.laws.one_turn_at_most.Goals as goal

pub returns : goal.returns
returns g c = one_turn
