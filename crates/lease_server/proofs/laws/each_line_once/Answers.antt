use Rattle.lease_server.proofs.OnceLemmas as lemma
use Rattle.lease_server.proofs.laws.each_line_once.Goals as goal

pub returns : goal.returns
returns c = lemma.each_line_once
