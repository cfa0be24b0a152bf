use Rattle.lease_core.proofs.ContinueLemmas.{runs_continue}
use Rattle.lease_core.proofs.laws.runs_continue.Goals as goal

pub returns : goal.returns
returns c = runs_continue
