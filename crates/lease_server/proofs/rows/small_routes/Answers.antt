use Rattle.lease_server.proofs.ExampleLemmas as row
use Rattle.lease_server.proofs.rows.small_routes.Goals as goal

pub returns : goal.returns
returns c = row.small_routes
