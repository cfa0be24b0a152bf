use Rattle.lease_core.proofs.CountLemmas.{answered_once}
use Rattle.lease_core.proofs.laws.answered_once.Goals as goal

pub returns : goal.returns
returns c = answered_once
