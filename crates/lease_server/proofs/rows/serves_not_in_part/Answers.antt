use Rattle.lease_server.proofs.PartLemmas as row
use Rattle.lease_server.proofs.rows.serves_not_in_part.Goals as goal

pub returns : goal.returns
returns c = row.serves_not_in_part
