use Rattle.mono_rt.proofs.ReadingLemmas.{sure_answer}
use Rattle.mono_rt.proofs.parts.laws.a_sure_driver_is_no_error.Goals as goal

pub returns : goal.returns
returns c = sure_answer
