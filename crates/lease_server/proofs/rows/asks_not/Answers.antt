use Rattle.lease_server.proofs.ExampleLemmas as row
use Rattle.lease_server.proofs.rows.asks_not.Goals as goal

pub returns : goal.returns
returns c = row.asks_not
