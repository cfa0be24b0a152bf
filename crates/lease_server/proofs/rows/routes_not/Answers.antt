use Rattle.lease_server.proofs.ExampleLemmas as row
use Rattle.lease_server.proofs.rows.routes_not.Goals as goal

pub returns : goal.returns
returns c = row.routes_not
