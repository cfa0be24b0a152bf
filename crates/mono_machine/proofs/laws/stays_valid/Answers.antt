use Rattle.mono_machine.proofs.ValidStepLemmas.{step_is_valid}
use Rattle.mono_machine.proofs.laws.stays_valid.Goals as goal

pub returns : goal.returns
returns c = step_is_valid
