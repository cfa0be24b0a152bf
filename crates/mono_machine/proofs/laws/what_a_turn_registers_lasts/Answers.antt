use Rattle.mono_machine.proofs.WatchLemmas.{registered_lasts, rests_watched}
use Rattle.mono_machine.proofs.laws.what_a_turn_registers_lasts.Goals as goal

pub returns-clause-lasts : goal.returns-clause-lasts
returns-clause-lasts c = registered_lasts

pub returns-clause-at_rest : goal.returns-clause-at_rest
returns-clause-at_rest c = rests_watched
