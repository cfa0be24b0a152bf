use Rattle.mono_serve.proofs.LeaseLawLemmas as lemma
use Rattle.mono_serve.proofs.laws.keeper_is_in_time.Goals as goal

pub returns : goal.returns
returns c = lemma.keeper_is_in_time
