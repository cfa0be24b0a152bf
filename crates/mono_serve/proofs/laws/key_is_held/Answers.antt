use Rattle.mono_serve.proofs.LeaseLawLemmas as lemma
use Rattle.mono_serve.proofs.laws.key_is_held.Goals as goal

pub returns : goal.returns
returns c = lemma.key_is_held
