use Rattle.mono_machine.proofs.WatchLemmas.{turn_registers}
use Rattle.mono_machine.proofs.laws.what_a_turn_registers_stands.Goals as goal

pub returns : goal.returns
returns c = turn_registers
