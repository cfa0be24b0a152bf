use Rattle.mono_actor.proofs.TimeoutTickLemmas as law
use Rattle.mono_actor.proofs.laws.timeouts_have_come.Goals as goal

pub returns : goal.returns
returns c d = law.timeouts_have_come _
