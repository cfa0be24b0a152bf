use Rattle.mono_locks.proofs.OnceCellLawLemmas.{in_order}
use Rattle.mono_locks.proofs.laws.turns_are_given_in_order.Goals as goal

pub returns : goal.returns
returns g c = in_order
