use Rattle.mono_joinword.proofs.LawLemmas.{no_store}
use Rattle.mono_joinword.proofs.laws.no_store_cancels.Goals as goal

pub returns : goal.returns
returns g c = no_store g.O.Outcome.output_number g.W.Wakes.waker_number
