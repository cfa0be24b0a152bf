use Rattle.lease_server.specs.Stations.{leads_itself}
use Rattle.lease_server.proofs.stations.StationSharedState.next_owed.Goals as goal

pub returns-clause-leads : goal.returns-clause-leads
returns-clause-leads c = leads_itself c.args.self.now
