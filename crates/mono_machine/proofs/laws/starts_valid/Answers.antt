use Rattle.mono_machine.proofs.ValidStepLemmas.{start_is_valid}
use Rattle.mono_machine.proofs.laws.starts_valid.Goals as goal

pub returns : goal.returns
returns c = start_is_valid
