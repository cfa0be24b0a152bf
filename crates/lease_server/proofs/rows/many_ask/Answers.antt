use Rattle.lease_server.proofs.ExampleLemmas as row
use Rattle.lease_server.proofs.rows.many_ask.Goals as goal

pub returns : goal.returns
returns c = row.many_ask
