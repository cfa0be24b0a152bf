use Rattle.mono_machine.proofs.CauseLemmas.{turn_uses_its_cause_up}
use Rattle.mono_machine.proofs.laws.turn_uses_its_cause_up.Goals as goal

pub returns : goal.returns
returns c = turn_uses_its_cause_up
