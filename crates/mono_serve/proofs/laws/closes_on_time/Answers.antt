use Rattle.mono_serve.proofs.LeaseLawLemmas as lemma
use Rattle.mono_serve.proofs.laws.closes_on_time.Goals as goal

pub returns : goal.returns
returns c = lemma.closes_on_time
