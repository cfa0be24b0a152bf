use Rattle.mono_joinword.proofs.LawLemmas.{six_words}
use Rattle.mono_joinword.proofs.laws.one_of_six_words.Goals as goal

pub returns : goal.returns
returns g c = six_words g.O.Outcome.output_number g.W.Wakes.waker_number
