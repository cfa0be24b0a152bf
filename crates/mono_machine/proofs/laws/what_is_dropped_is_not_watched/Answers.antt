use Rattle.mono_machine.proofs.TakenWaitLemmas.{taken_is_over}
use Rattle.mono_machine.proofs.laws.what_is_dropped_is_not_watched.Goals as goal

pub returns : goal.returns
returns c = taken_is_over
