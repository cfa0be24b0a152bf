use Rattle.lease_core.proofs.CountLemmas.{none_wait}
use Rattle.lease_core.proofs.laws.none_wait_at_the_end.Goals as goal

pub returns : goal.returns
returns c = none_wait
