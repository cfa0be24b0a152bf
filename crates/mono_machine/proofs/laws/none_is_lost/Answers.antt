use Rattle.mono_machine.proofs.WakeLemmas.{none_lost}
use Rattle.mono_machine.proofs.laws.none_is_lost.Goals as goal

pub returns : goal.returns
returns c = none_lost
