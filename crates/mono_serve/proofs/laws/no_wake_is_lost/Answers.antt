use Rattle.mono_serve.proofs.LeaseLawLemmas as lemma
use Rattle.mono_serve.proofs.laws.no_wake_is_lost.Goals as goal

pub returns : goal.returns
returns c = lemma.no_wake_is_lost
