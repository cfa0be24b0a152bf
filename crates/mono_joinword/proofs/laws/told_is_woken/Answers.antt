use Rattle.mono_joinword.proofs.LawLemmas.{told_is_woken}
use Rattle.mono_joinword.proofs.laws.told_is_woken.Goals as goal

pub returns : goal.returns
returns g c = told_is_woken g.O.Outcome.output_number g.W.Wakes.waker_number
