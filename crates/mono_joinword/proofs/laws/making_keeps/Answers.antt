use Rattle.mono_joinword.proofs.LawLemmas.{making}
use Rattle.mono_joinword.proofs.laws.making_keeps.Goals as goal

pub returns : goal.returns
returns g c = making g.O.Outcome.output_number g.W.Wakes.waker_number
