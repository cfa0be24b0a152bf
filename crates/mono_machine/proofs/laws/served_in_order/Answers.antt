use Rattle.mono_machine.proofs.FairnessLemmas.{served_in_order}
use Rattle.mono_machine.proofs.laws.served_in_order.Goals as goal

pub returns : goal.returns
returns c = served_in_order
