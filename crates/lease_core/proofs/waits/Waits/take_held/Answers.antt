use Rattle.lease_core.proofs.ReleaseLemmas.{none_held}
use Rattle.lease_core.proofs.waits.Waits.take_held.Goals as goal

pub returns-in-None-clause-value : goal.returns-in-None-clause-value
returns-in-None-clause-value c = (none_held c.args.key _ c.args.self.now.places.entries c.in-None.is).0

pub returns-in-None-clause-entries : goal.returns-in-None-clause-entries
returns-in-None-clause-entries c = (none_held c.args.key _ c.args.self.now.places.entries c.in-None.is).1
