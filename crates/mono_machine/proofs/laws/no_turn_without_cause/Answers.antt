use Rattle.mono_machine.proofs.CauseLemmas.{no_turn_without_cause}
use Rattle.mono_machine.proofs.laws.no_turn_without_cause.Goals as goal

pub returns : goal.returns
returns c = no_turn_without_cause
