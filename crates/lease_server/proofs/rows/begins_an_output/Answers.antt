use Rattle.lease_server.proofs.PartLemmas as lemma
use Rattle.lease_server.proofs.rows.begins_an_output.Goals as goal

pub returns : goal.returns
returns c = lemma.begins_an_output
