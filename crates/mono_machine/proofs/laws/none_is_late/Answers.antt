use Rattle.mono_machine.proofs.ValidStepLemmas.{late_is_none}
use Rattle.mono_machine.proofs.laws.none_is_late.Goals as goal

pub returns : goal.returns
returns c = late_is_none
