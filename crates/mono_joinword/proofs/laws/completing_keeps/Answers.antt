use Rattle.mono_joinword.proofs.LawLemmas.{completing}
use Rattle.mono_joinword.proofs.laws.completing_keeps.Goals as goal

pub returns : goal.returns
returns g c = completing g.O.Outcome.output_number g.W.Wakes.waker_number
