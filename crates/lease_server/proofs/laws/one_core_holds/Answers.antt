use Rattle.lease_server.proofs.HolderLemmas as lemma
use Rattle.lease_server.proofs.laws.one_core_holds.Goals as goal

pub returns : goal.returns
returns c = lemma.one_core_holds
