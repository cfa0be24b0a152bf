use Rattle.mono_rt.proofs.ReadingLemmas.{sure_goes}
use Rattle.mono_rt.proofs.parts.laws.a_sure_driver_does_not_fail.Goals as goal

pub returns : goal.returns
returns c = sure_goes
