use Rattle.lease_server.proofs.OrderLemmas as lemma
use Rattle.lease_server.proofs.laws.one_core_answers.Goals as goal

pub returns : goal.returns
returns c = lemma.one_core_answers
