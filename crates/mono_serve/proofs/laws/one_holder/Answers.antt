use Rattle.mono_serve.proofs.LeaseLawLemmas as lemma
use Rattle.mono_serve.proofs.laws.one_holder.Goals as goal

pub returns : goal.returns
returns c = lemma.one_holder
