use Rattle.lease_core.proofs.RouteLemmas.{one_core}
use Rattle.lease_core.proofs.laws.one_core_holds.Goals as goal

pub returns : goal.returns
returns c = one_core
